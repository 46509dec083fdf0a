-- What was said at a site in memory.
use Rattle.std.specs.Prelude.{◌≡◌, ℕ, ◌==◌, Bool, true, false, List, length, Result, Ok, Err}
use Rattle.std.specs.List.{list_any}
use Rattle.dir_disk.specs.Says.{Say}
use Rattle.dir_disk.specs.declared.streams.SayFault.{SayFault}
use Rattle.dir_disk.specs.declared.streams.SayFault.TheVariants.{Failed, NoMemory}

-- the bytes that were said, the says with their answers, the numbers of those that are to fail, and how many failed
pub record Voiced : Type 0 where
  pub said : List ℕ
  pub says : List Say
  pub mute : List ℕ
  pub faults : ℕ

-- the next say is one of those that are to fail
abbrev pub is_muted : Voiced → Bool
is_muted voice = list_any (λ number. number == length voice.says) voice.mute

-- a say fails just where it is muted; it may find no memory in any case
abbrev pub FailsIf : {T : Type 0} → Bool → Result T SayFault → Type 0
FailsIf muted (Ok value) = muted ≡ false
FailsIf muted (Err Failed) = muted ≡ true
FailsIf muted (Err NoMemory) = Unit {0}
