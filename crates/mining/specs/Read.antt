-- What a run that is done has read of its folders: all of it was as it is made.
use Rattle.std.specs.Prelude.{◌≡◌, ℕ, ◌≤◌, Bool, List, Option, Some, None}
use Rattle.dir_disk.specs.State.{State}
use Rattle.dir_disk.specs.Streams.{added}
use Rattle.conf.specs.declared.commands.Command.TheVariants.{Hcc}
use Rattle.conf.specs.declared.reading.Conf.{Conf as Settings}
use Rattle.job.specs.Inputs.{bytes_at_each}
use Rattle.report.specs.Lines.{done_text}
use Rattle.store.specs.declared.changes.Place.{Place as Spot}
use Rattle.store.specs.Parts.{AreGood, records_below}
use Rattle.store.specs.Totals.{first_change, is_result, is_value}
use Rattle.mining.specs.declared.place.Place.TheVariants.{Vector, Results}
use Rattle.mining.specs.Places.{folder_of}
use Rattle.mining.specs.Table.{part_paths}
use Rattle.mining.specs.Flow.{total_in}
use Rattle.mining.specs.Between.{IsSure}

-- in the last iteration that there can be of components no record counts a change
abbrev pub IsStill : Settings → ℕ → Option Spot → Type 0
IsStill conf k first = conf.command ≡ Hcc → k ≡ conf.nodes → first ≡ None

-- the vector of iteration k is whole in each image, its parts are there, and each record is of the grammar
pub record IsVectorRead (conf : Settings) (k : ℕ) (state : State) : Type 0 where
  pub whole : IsSure (Vector k) state
  pub good : AreGood is_value state (folder_of (Vector k)) conf.reducers
  pub still : IsStill conf k (first_change (records_below state (folder_of (Vector k)) conf.reducers))

-- so are the vectors from one iteration up to another
abbrev pub AreVectorsRead : Settings → ℕ → ℕ → State → Type 0
AreVectorsRead conf low last state =
    (k : ℕ) → low ≤ k → k ≤ last → IsVectorRead conf k state

-- the parts of the result are there, each record is of the grammar, and they say this total together
pub record IsResultRead (conf : Settings) (total : ℕ) (state : State) : Type 0 where
  pub good : AreGood is_result state (folder_of Results) conf.reducers
  pub totals : total_in conf.command (bytes_at_each state (part_paths Results conf.reducers)) ≡ Some total

-- after what was said before, the last line was said, with the last iteration and the total of the result
pub record HasEnded (conf : Settings) (last : ℕ) (before now : Option (List ℕ)) (state : State) : Type 0 where
  pub settled : Bool
  pub total : ℕ
  pub said : now ≡ added before (done_text conf last settled total)
  pub result : IsResultRead conf total state

-- a run that read its vectors from iteration `low` on has read them up to its last iteration, and the result, and has said its last line
pub record HasRead (conf : Settings) (low : ℕ) (now : Option (List ℕ)) (state : State) : Type 0 where
  pub last : ℕ
  pub vectors : AreVectorsRead conf low last state
  pub before : Option (List ℕ)
  pub ended : HasEnded conf last before now state
