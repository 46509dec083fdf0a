-- Why a run refuses what it is given, by what it reads and what its work folder has at entry.
use Rattle.std.specs.Prelude.{◌≡◌, ◌≢◌, ◌⊎◌, ℕ, ⊤, List, Some, None, IsSome, Result, Ok, Err}
use Rattle.peg_base.specs.Names.{Names}
use Rattle.dir_disk.specs.State.{Content, State}
use Rattle.committer.specs.Folders.{IsUnmarked}
use Rattle.committer.specs.Paths.{part_of, success_of}
use Rattle.edge_text.specs.declared.fault.EdgeFault.{EdgeFault}
use Rattle.edge_text.specs.declared.fault.EdgeFault.TheVariants as Text
use Rattle.edge_text.specs.Edges.{Reading, edges_of, text_of as edges_text}
use Rattle.conf.specs.declared.reading.Conf.{Conf as Settings}
use Rattle.conf.specs.Texts.{text_of}
use Rattle.store.specs.Differing.{DiffersFrom}
use Rattle.store.specs.Ingesting.{DiffersFirst, IsRefused}
use Rattle.mining.specs.declared.place.Place.{Place}
use Rattle.mining.specs.declared.place.Place.TheVariants.{Conf, Edges}
use Rattle.mining.specs.Places.{IsInTable, folder_of}
use Rattle.mining.specs.declared.stop.Stop.{Stop}
use Rattle.driver.specs.declared.outcome.Outcome.{Outcome}
use Rattle.driver.specs.declared.outcome.Outcome.TheVariants.{Done, Usage, BadEdge, BigNode, TooLarge, OtherJob, OtherEdges, BadStore, TaskFailed, DiskFault, ReadFault, SayFault, NoMemory}
use Rattle.driver.specs.Outcomes.{outcome_of_stop}

-- the outcome of a mining run that answers so
abbrev pub outcome_of : Result (Unit {0}) Stop → Outcome
outcome_of (Ok done) = Done
outcome_of (Err stop) = outcome_of_stop stop

-- ---- the opening

-- what a run finds as it opens its work folder: whether `edges` is whole, and the first parts of `conf` and of `edges`
pub record Found : Type 0 where
  pub mark : Content
  pub conf : Content
  pub edges : Content

abbrev pub found_in : State → Found
found_in state = record {
  mark = (state (success_of (folder_of Edges))).now;
  conf = (state (part_of (folder_of Conf) 0)).now;
  edges = (state (part_of (folder_of Edges) 0)).now;
}

-- `edges` is whole, the settings are just these, and the bytes of its part have P
pub record OfJob (conf : Settings) (found : Found) (P : List ℕ → Type 0) : Type 0 where
  pub whole : IsSome found.mark
  pub settings : found.conf ≡ Some (text_of conf)
  pub file : List ℕ
  pub part : found.edges ≡ Some file
  pub is : P file

-- what is read has this refusal: where no `edges` are whole, or they are of this job and begin with all that is before it
abbrev pub IsRefusedOver : Settings → Found → Reading → EdgeFault → Type 0
IsRefusedOver conf found reading fault =
    ((found.mark ≡ None) × (reading.refusal ≡ Some fault)) ⊎ OfJob conf found (λ file. IsRefused file reading fault)

-- nothing is refused of what is read: where no `edges` are whole, or they are of this job and have just these edges
abbrev pub IsTakenOver : Settings → Found → Reading → Type 0
IsTakenOver conf found reading =
    ((found.mark ≡ None) × (reading.refusal ≡ None)) ⊎ OfJob conf found (λ file. (file ≡ edges_text reading.edges) × (reading.refusal ≡ None))

-- `edges` is whole and of this job, but its part isn't there
pub record LacksEdges (conf : Settings) (found : Found) (path : Names) (line : ℕ) : Type 0 where
  pub whole : IsSome found.mark
  pub settings : found.conf ≡ Some (text_of conf)
  pub none : found.edges ≡ None
  pub named : path ≡ part_of (folder_of Edges) 0
  pub number : line ≡ 0

-- how a run of these settings over these edges opens a work folder that has this, by its outcome
abbrev pub IsOpenedOver : Settings → Found → Reading → Outcome → Type 0
IsOpenedOver conf found reading Done = IsTakenOver conf found reading
IsOpenedOver conf found reading (Usage word) = ⊥
IsOpenedOver conf found reading (BadEdge line) = IsRefusedOver conf found reading (Text.BadEdge line)
IsOpenedOver conf found reading (BigNode line id) = IsRefusedOver conf found reading (Text.BigNode line id)
IsOpenedOver conf found reading TooLarge = IsRefusedOver conf found reading Text.TooLarge
IsOpenedOver conf found reading (OtherJob line) =
    IsSome found.mark × DiffersFrom found.conf (text_of conf) (Some line)
IsOpenedOver conf found reading (OtherEdges line) =
    OfJob conf found (λ file. DiffersFirst file (edges_text reading.edges) reading.refusal line)
IsOpenedOver conf found reading (BadStore path line) =
    IsTakenOver conf found reading ⊎ LacksEdges conf found path line
IsOpenedOver conf found reading (TaskFailed task) = IsTakenOver conf found reading
IsOpenedOver conf found reading DiskFault = ⊤
IsOpenedOver conf found reading ReadFault = ⊤
IsOpenedOver conf found reading SayFault = IsTakenOver conf found reading
IsOpenedOver conf found reading NoMemory = ⊤

-- how a run that reads these bytes opens this work folder
abbrev pub IsOpened : Settings → State → List ℕ → Outcome → Type 0
IsOpened conf state bytes outcome = IsOpenedOver conf (found_in state) (edges_of conf.nodes bytes) outcome

-- ---- what a refusal leaves

-- an outcome by which a run refuses its settings, its edges or their source
abbrev pub IsRefusal : Outcome → Type 0
IsRefusal Done = ⊥
IsRefusal (Usage word) = ⊥
IsRefusal (BadEdge line) = ⊤
IsRefusal (BigNode line id) = ⊤
IsRefusal TooLarge = ⊤
IsRefusal (OtherJob line) = ⊤
IsRefusal (OtherEdges line) = ⊤
IsRefusal (BadStore path line) = ⊥
IsRefusal (TaskFailed task) = ⊥
IsRefusal DiskFault = ⊥
IsRefusal ReadFault = ⊤
IsRefusal SayFault = ⊥
IsRefusal NoMemory = ⊥

-- each folder but `conf` that is whole in no image is whole in none still
abbrev pub MakesNone : State → State → Type 0
MakesNone entry state =
    (place : Place) → IsInTable place → place ≢ Conf → IsUnmarked (folder_of place) entry → IsUnmarked (folder_of place) state
