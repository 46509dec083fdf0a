-- What an image of a work folder holds, where a form has these parts for the vectors of a sequence.
use Rattle.std.specs.Prelude.{◌≡◌, ℕ, ◌^◌, ◌<◌, ◌≤◌, List, Option, IfSome}
use Rattle.graph.specs.declared.edges.Edge.{Edge}
use Rattle.conf.specs.declared.reading.Conf.{Conf}
use Rattle.conf.specs.Limits.{IsWithinLimits}
use Rattle.dir_disk.specs.State.{Image}
use Rattle.job.specs.Whole.{HasOutput, HasOutputIfWhole}
use Rattle.mining.specs.declared.place.Place.TheVariants.{Vector, Results}
use Rattle.mining.specs.Flow.{flow, mining_of}
use Rattle.mining.specs.Kept.{Has, Kept}
use Rattle.mining.specs.Places.{folder_of}
use Rattle.flow_core.specs.Following.{Giving}
use Rattle.flow_base.specs.Layouts.{Sequence, changed_in, result_parts}
use Rattle.flow.specs.Held.{IsWholeUpTo}
use Rattle.flow.specs.Iterates.{IsLast}
use Rattle.flow_forms.specs.Ends.{EndsWith}

-- whole iterations 0 to k, none after the last one, each with these parts; and a result, where it is whole,
-- is that of the last one
pub record HoldsVectors (conf : Conf) (s : Sequence) (vector : ℕ → List (List ℕ)) (image : Image)
    : Type 0 where
  pub newest : Option ℕ
  pub whole : IsWholeUpTo newest image
  pub last : ℕ
  pub is_last : IsLast conf (changed_in s conf.nodes) last
  pub few : IfSome newest (λ k. k ≤ last)
  pub vectors : (k : ℕ) → k < 10 ^ 10 → HasOutputIfWhole (folder_of (Vector k)) (vector k) image
  pub result : HasOutputIfWhole (folder_of Results) (result_parts s conf.nodes conf.reducers last) image

-- all iterations up to the last one are whole, and so is the result, which is that of the last one
pub record HoldsAll (conf : Conf) (s : Sequence) (vector : ℕ → List (List ℕ)) (image : Image) : Type 0 where
  pub last : ℕ
  pub is_last : IsLast conf (changed_in s conf.nodes) last
  pub vectors : (k : ℕ) → k ≤ last
      → Has (Vector k) image × HasOutput (folder_of (Vector k)) (vector k) image
  pub whole : Has Results image
  pub result : HasOutput (folder_of Results) (result_parts s conf.nodes conf.reducers last) image

-- wherever a machine stops, what is kept holds iterations of the form, and where the result is whole, all of
-- it
pub record KeepsIterations (gives : Giving) (conf : Conf) (edges : List Edge) (s : Sequence)
    (vector : ℕ → List (List ℕ)) : Type 0 where
  pub iterates : (image : Image) → Kept (mining_of gives conf edges) image → HoldsVectors conf s vector image
  pub all : (image : Image) → Kept (mining_of gives conf edges) image → Has Results image
      → HoldsAll conf s vector image

-- the end of the run and the parts of the vectors decide it, whatever the form
abbrev pub FormsKeepIterations : Type 0
FormsKeepIterations =
    (gives : Giving) (conf : Conf) → IsWithinLimits conf → (edges : List Edge) (s : Sequence)
    → EndsWith gives conf edges s
    → (vector : ℕ → List (List ℕ)) → ((k : ℕ) → flow (mining_of gives conf edges) (Vector k) ≡ vector k)
    → KeepsIterations gives conf edges s vector
