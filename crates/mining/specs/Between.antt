-- What stands between two calls of the driver.
use Rattle.std.specs.Prelude.{◌≡◌, ◌≢◌, ℕ, ◌<◌, ◌^◌, true, false, IsSome, unwrap_or}
use Rattle.std.specs.List.{AllByRecursion}
use Rattle.peg_base.specs.Names.{Names, under}
use Rattle.dir_disk.specs.State.{Content, Allows, State}
use Rattle.committer.specs.Paths.{success_of}
use Rattle.committer.specs.Folders.{fixed}
use Rattle.mining.specs.declared.place.Place.{Place}
use Rattle.mining.specs.declared.place.Place.TheVariants.{Conf, Vector}
use Rattle.mining.specs.Places.{folder_of, IsInTable, is_made, is_messages}
use Rattle.mining.specs.Table.{inputs_of}
use Rattle.mining.specs.Flow.{Mining, last_of}
use Rattle.mining.specs.Kept.{MayBeWhole, Precedes}

-- the folder is whole in each image
abbrev pub IsSure : Place → State → Type 0
IsSure place state = (content : Content) → Allows (state (success_of (folder_of place))).may content → IsSome content

-- a stop leaves the folder whole just where it is whole now
abbrev pub IsFirm : Place → State → Type 0
IsFirm place state = state (success_of (folder_of place)) ≡ fixed (state (success_of (folder_of place))).now

abbrev pub AllFirm : State → Type 0
AllFirm state = (place : Place) → IsInTable place → IsFirm place state

-- each folder that is whole in each image, messages aside, is just as at entry
abbrev pub KeepsWhole : State → State → Type 0
KeepsWhole entry state =
    (place : Place) → IsInTable place → is_messages place ≡ false → IsSure place entry → (path : Names) → under (folder_of place) path ≡ true → state path ≡ entry path

-- each vector that is whole in each image is so still
abbrev pub KeepsVectors : State → State → Type 0
KeepsVectors entry state = (k : ℕ) → k < 10 ^ 10 → IsSure (Vector k) entry → IsSure (Vector k) state

-- the folder may be made now: all that it needs is whole in each image
pub record IsDue (mining : Mining) (place : Place) (state : State) : Type 0 where
  pub is_there : IsInTable place
  pub made : is_made mining.conf.form place ≡ true
  pub may : MayBeWhole (last_of mining) place
  pub before : (earlier : Place) → Precedes mining earlier place → IsSure earlier state

-- a job of it reads what the flow has it read, and all of that is whole in each image
pub record CanRead (mining : Mining) (last : ℕ) (place : Place) (state : State) : Type 0 where
  pub same : inputs_of mining.conf.form last place ≡ inputs_of mining.conf.form (unwrap_or (last_of mining) 0) place
  pub inputs : AllByRecursion (λ input. IsInTable input × (input ≢ Conf) × IsSure input state) (inputs_of mining.conf.form last place)
