-- What is gathered for a file that is written in pieces.
use Rattle.std.specs.Prelude.{◌≡◌, ℕ, List, ◌++◌, None}
use Rattle.peg_base.specs.Names.{Names}
use Rattle.dir_disk.specs.State.{State, bytes_of}
use Rattle.dir_disk.specs.Calls.{CanAppend}

-- what is in the file and what was gathered for it
abbrev pub gathered : Names → State → List ℕ → List ℕ
gathered path state piece = bytes_of (state path).now ++ piece

-- a file can be at the path, and none is there
pub record IsVacant (path : Names) (state : State) : Type 0 where
  pub can : CanAppend state path
  pub none : (state path).now ≡ None
