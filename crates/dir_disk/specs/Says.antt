-- What was said on a console that stands beside a directory.
use Rattle.std.specs.Prelude.{ℕ, Bool, true, false, List, [], ◌∷◌, ◌++◌, Option, Some, None, Result, Ok, Err}
use Rattle.dir_disk.specs.declared.streams.SayFault.{SayFault}
use Rattle.dir_disk.specs.declared.streams.SayFault.TheVariants.{Failed, NoMemory}

-- a say that was carried out or failed: its bytes, whether it was carried out, and how many calls of the directory were made before it
pub record Say : Type 0 where
  pub bytes : List ℕ
  pub ok : Bool
  pub moment : ℕ

-- the says after one of these bytes at this moment, as far as they are told; one that found no memory is none
abbrev pub with_say : {T : Type 0} → List ℕ → ℕ → Result T SayFault → Option (List Say) → Option (List Say)
with_say bytes moment result None = None
with_say bytes moment (Ok value) (Some says) = Some (says ++ record { bytes = bytes; ok = true; moment = moment } ∷ [])
with_say bytes moment (Err Failed) (Some says) = Some (says ++ record { bytes = bytes; ok = false; moment = moment } ∷ [])
with_say bytes moment (Err NoMemory) (Some says) = Some says
