-- What a directory in memory tells.
use Rattle.std.specs.Prelude.{ℕ, Bool, List, ◌++◌}
use Rattle.peg_base.specs.Names.{Names}
use Rattle.dir_disk.specs.State.{State, bytes_of}
use Rattle.dir_disk.specs.Moments.{Told}
use Rattle.dir_disk.specs.Lent.{Loan}
use Rattle.dir_mem.specs.Log.{told_by}
use Rattle.dir_mem.specs.Sound.{is_short, loans_of}
use Rattle.dir_mem.specs.Failing.{is_named}
use Rattle.dir_mem.specs.declared.mem_dir.MemDir.{MemDir}

-- each moment since it was made
abbrev pub told_of : MemDir → Told
told_of dir = told_by dir.steps.items

-- the paths that are lent
abbrev pub lent_of : MemDir → List Loan
lent_of dir = loans_of dir.lent.items

-- how often a call has failed
abbrev pub faults_of : MemDir → ℕ
faults_of dir = dir.faults

-- the numbers of the calls that are to fail
abbrev pub fail_of : MemDir → List ℕ
fail_of dir = dir.fail.items

-- the next call is one of those
abbrev pub is_due : MemDir → Bool
is_due dir = is_named dir.fail.items dir.calls

-- an append of these bytes makes no file too long
abbrev pub has_room : State → Names → List ℕ → Bool
has_room state path bytes = is_short (bytes_of (state path).now ++ bytes)
