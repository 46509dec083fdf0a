-- Which calls of a directory in memory fail, and what they leave then.
use Rattle.std.specs.Prelude.{◌≡◌, ℕ, ◌==◌, Bool, true, false, List, Result, Ok, Err}
use Rattle.std.specs.List.{list_any}
use Rattle.peg_base.specs.Names.{Names}
use Rattle.dir_disk.specs.State.{State}
use Rattle.dir_disk.specs.Calls.{Call, may_change}
use Rattle.dir_disk.specs.declared.dir.DirFault.{DirFault}
use Rattle.dir_disk.specs.declared.dir.DirFault.TheVariants.{Failed, NoMemory}
use Rattle.dir_mem.specs.Traces.{newest}

-- the call of this number is to fail
abbrev pub is_named : List ℕ → ℕ → Bool
is_named fail call = list_any (λ number. number == call) fail

-- the call fails where the test holds, and only there; it may find no memory in any case
abbrev pub FailsWhen : {T : Type 0} → Bool → Result T DirFault → Type 0
FailsWhen due (Ok value) = due ≡ false
FailsWhen due (Err Failed) = due ≡ true
FailsWhen due (Err NoMemory) = Unit {0}

-- each path that the call may change has the newest of what a stop may leave there
abbrev pub HasNewest : Call → State → Type 0
HasNewest call state = (path : Names) → may_change call path ≡ true → (state path).now ≡ newest (state path).may
