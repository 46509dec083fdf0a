-- Iterations that were acknowledged, and that they are whole from then on.
use Rattle.std.specs.Prelude.{◌≡◌, ℕ, ◌+◌, ◌^◌, ◌<◌, ◌≤◌, true, ◌⊎◌, List, ◌++◌, Option, Some}
use Rattle.std.specs.List.{Contains}
use Rattle.dir_disk.specs.State.{Image, Fits, FitsEither}
use Rattle.dir_disk.specs.Moments.{Told, files}
use Rattle.dir_disk.specs.Says.{Say}
use Rattle.report.specs.Lines.{iteration_text, resumed_text}
use Rattle.mining.specs.declared.place.Place.TheVariants.{Vector}
use Rattle.mining.specs.Kept.{Has}
use Rattle.mining.specs.Between.{IsSure}

-- the line of iteration k, or of a run that went on after it
abbrev pub Acknowledges : List ℕ → ℕ → Type 0
Acknowledges bytes k =
    ((changed : ℕ) × (bytes ≡ iteration_text k changed)) ⊎ ((j : ℕ) × (k ≤ j) × (j < 10 ^ 10) × (bytes ≡ resumed_text j))

-- one of these says, carried out at this clock or before, acknowledges iteration k
pub record IsAckedBy (says : List Say) (clock k : ℕ) : Type 0 where
  pub say : Say
  pub made : Contains says say
  pub ok : say.ok ≡ true
  pub before : say.moment ≤ clock
  pub few : k < 10 ^ 10
  pub line : Acknowledges say.bytes k

-- at this moment, and within the step that follows, each image has iteration k whole
pub record IsWholeAt (told : Told) (moment k : ℕ) : Type 0 where
  pub between : (image : Image) → Fits (told.at moment).state image → Has (Vector k) image
  pub within : moment < told.count → (image : Image) → FitsEither (told.at moment).state (told.at (moment + 1)).state image → Has (Vector k) image

-- since entry these says were gained, and from its say on each acknowledged iteration is whole in each image
pub record Acks (had : List Say) (entry now : Told) (says : Option (List Say)) : Type 0 where
  pub gained : List Say
  pub is : says ≡ Some (had ++ gained)
  pub whole : (moment : ℕ) → entry.count ≤ moment → moment ≤ now.count → (k : ℕ) → IsAckedBy gained (now.at moment).calls k → IsWholeAt now moment k
  pub sure : (clock k : ℕ) → IsAckedBy gained clock k → IsSure (Vector k) (files now)
