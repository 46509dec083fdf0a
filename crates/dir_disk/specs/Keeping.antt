-- What a call that writes one file leaves.
use Rattle.std.specs.Prelude.{◌≡◌, ℕ, false, List, Some}
use Rattle.peg_base.specs.Names.{Names, same_path}
use Rattle.dir_disk.specs.State.{State}

-- all but this one path is as at entry
abbrev pub StandsBut : Names → State → State → Type 0
StandsBut target entry state = (path : Names) → same_path target path ≡ false → state path ≡ entry path

-- the file has just these bytes, and all else is as at entry
pub record HasWritten (target : Names) (bytes : List ℕ) (entry state : State) : Type 0 where
  pub now : (state target).now ≡ Some bytes
  pub others : StandsBut target entry state
