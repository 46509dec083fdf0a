-- What phases add to a log and to what was given, one after another: those of one job, and those of many.
use Rattle.std.specs.Prelude.{◌≡◌, ℕ, ◌≤◌, ◌⊎◌, List, [], ◌∷◌, ◌++◌, length, slice_index_or, Result, Ok}
use Rattle.std.specs.List.{AllByRecursion}
use Rattle.peg_base.specs.Names.{Names}
use Rattle.peg_base.specs.declared.tasks.Phase.TheVariants.{Map, Reduce}
use Rattle.dir_disk.specs.State.{State}
use Rattle.dir_disk.specs.Moments.{Told}
use Rattle.dir_disk.specs.Children.{Given, Seen}
use Rattle.dir_disk.specs.declared.site.LogEntry.{LogEntry}
use Rattle.task_core.specs.Board.{Rule, Board, fresh, IsRun}
use Rattle.job.specs.declared.fault.JobFault.{JobFault}
use Rattle.job.specs.declared.spec.JobReport.{JobReport}
use Rattle.job.specs.declared.spec.JobSpec.{JobSpec}
use Rattle.job.specs.Work.{Work, work_of}
use Rattle.job.specs.Failing.{IsEntryOf, steps_of}
use Rattle.job.specs.Going.{givens_of}
use Rattle.job.specs.Logged.{GoesOn, IsDone, JobLog, ReadTexts}
use Rattle.job.specs.Output.{Plan, map_inputs, reduce_inputs}
use Rattle.job.specs.Whole.{plan_of}

-- ---- phases

-- a phase: its tasks, the state that its machine begins in, and what its tasks read
pub record Part : Type 0 where
  pub work : Work
  pub board : Board
  pub texts : List (List ℕ)

-- what one phase adds: a run of its machine, and to each child its words and its task's text, which the task's input had when the phase began
pub record Stretch (S : Rule) (tells : Type 0) (told : Told) (p : Part) (entries : List LogEntry) (given : List Given) : Type 0 where
  pub of_work : AllByRecursion (IsEntryOf p.work) entries
  pub run : IsRun S p.board (steps_of entries)
  pub began : ℕ
  pub givens : tells → given ≡ givens_of p.work (λ t. slice_index_or p.texts t []) began p.board (steps_of entries)
  pub read : tells → ReadTexts p.work p.texts began entries told

-- the entries and what was given are those of a phase that was done, and others
pub record Splits (S : Rule) (tells : Type 0) (told : Told) (p : Part) (entries : List LogEntry) (given : List Given) : Type 0 where
  pub first : List LogEntry
  pub rest : List LogEntry
  pub one : List Given
  pub more : List Given
  pub parts : entries ≡ first ++ rest
  pub shares : tells → given ≡ one ++ more
  pub stretch : Stretch S tells told p first one
  pub done : IsDone S p.board first

abbrev pub IsNothing : Type 0 → List LogEntry → List Given → Type 0
IsNothing tells entries given = (entries ≡ []) × (tells → given ≡ [])

-- what these phases add, each of which was done
abbrev pub AllRun : Rule → Type 0 → Told → List Part → List LogEntry → List Given → Type 0
AllRun S tells told [] entries given = IsNothing tells entries given
AllRun S tells told (p ∷ ps) entries given =
    (cut : Splits S tells told p entries given) × AllRun S tells told ps cut.rest cut.more

-- what these phases add, each of which was begun only where those before it were done
abbrev pub AnyRun : Rule → Type 0 → Told → List Part → List LogEntry → List Given → Type 0
AnyRun S tells told [] entries given = IsNothing tells entries given
AnyRun S tells told (p ∷ ps) entries given =
    Stretch S tells told p entries given
    ⊎ ((cut : Splits S tells told p entries given) × AnyRun S tells told ps cut.rest cut.more)

-- ---- jobs

-- at some moment so far the inputs of the job had the bytes that they have in this state
pub record HadInputs (spec : JobSpec) (state : State) (told : Told) : Type 0 where
  pub moment : ℕ
  pub past : moment ≤ told.count
  pub same : plan_of spec (told.at moment).state ≡ plan_of spec state

-- the phases of a job with so many map tasks
abbrev pub parts_of : (List (List ℕ) → List ℕ → List ℕ) → Names → Plan → ℕ → ℕ → List Part
parts_of gives folder plan slots count =
    record { work = work_of folder Map plan.map_words count; board = fresh count slots; texts = map_inputs plan }
    ∷ record { work = work_of folder Reduce plan.reduce_words plan.reducers; board = fresh plan.reducers slots; texts = reduce_inputs gives plan }
    ∷ []

-- the phases of a job, and others: what its map tasks read are the bytes that its inputs had at some moment, and there are as many as these have splits
pub record StartsWith (tells : Type 0) (gives : List (List ℕ) → List ℕ → List ℕ) (told : Told) (spec : JobSpec) (parts : List Part) : Type 0 where
  pub state : State
  pub count : ℕ
  pub rest : List Part
  pub had : tells → HadInputs spec state told
  pub counted : tells → count ≡ length (map_inputs (plan_of spec state))
  pub cut : parts ≡ parts_of gives spec.folder (plan_of spec state) spec.slots count ++ rest

-- the phases of these jobs, one job behind another
abbrev pub ArePartsOf : Type 0 → (List (List ℕ) → List ℕ → List ℕ) → Told → List JobSpec → List Part → Type 0
ArePartsOf tells gives told [] parts = parts ≡ []
ArePartsOf tells gives told (spec ∷ specs) parts =
    (job : StartsWith tells gives told spec parts) × ArePartsOf tells gives told specs job.rest

-- the log gained what the phases of these jobs add, each of which was begun only where those before it were done
pub record GainsJobs (S : Rule) (tells : Type 0) (gives : List (List ℕ) → List ℕ → List ℕ) (jobs : List JobSpec) (old new : Seen) (had has : List Given) (told : Told) : Type 0 where
  pub parts : List Part
  pub of_jobs : ArePartsOf tells gives told jobs parts
  pub entries : List LogEntry
  pub given : List Given
  pub log : new.log ≡ old.log ++ entries
  pub givens : tells → has ≡ had ++ given
  pub run : AnyRun S tells told parts entries given

-- the log gained what the phases of these jobs add, each of which was done
pub record FinishesJobs (S : Rule) (tells : Type 0) (gives : List (List ℕ) → List ℕ → List ℕ) (jobs : List JobSpec) (old new : Seen) (had has : List Given) (told : Told) : Type 0 where
  pub parts : List Part
  pub of_jobs : ArePartsOf tells gives told jobs parts
  pub entries : List LogEntry
  pub given : List Given
  pub log : new.log ≡ old.log ++ entries
  pub givens : tells → has ≡ had ++ given
  pub run : AllRun S tells told parts entries given

-- ---- laws

-- phases that are done, and others behind them
abbrev pub PhasesAddUp : Rule → Type 0 → Type 0
PhasesAddUp S tells =
    (told : Told) (ps qs : List Part) (xs ys : List LogEntry) (gs hs : List Given) → AllRun S tells told ps xs gs
    → (AllRun S tells told qs ys hs → AllRun S tells told (ps ++ qs) (xs ++ ys) (gs ++ hs))
    × (AnyRun S tells told qs ys hs → AnyRun S tells told (ps ++ qs) (xs ++ ys) (gs ++ hs))

-- phases that were not begun are no matter
abbrev pub LaterPhasesAddNothing : Rule → Type 0 → Type 0
LaterPhasesAddNothing S tells =
    (told : Told) (ps qs : List Part) (xs : List LogEntry) (gs : List Given) → AnyRun S tells told ps xs gs → AnyRun S tells told (ps ++ qs) xs gs

-- what was finished stays so while the directory goes on
abbrev pub FinishedJobsStay : Rule → Type 0 → (List (List ℕ) → List ℕ → List ℕ) → Type 0
FinishedJobsStay S tells gives =
    (jobs : List JobSpec) (old new : Seen) (had has : List Given) (d e : Told) → (tells → GoesOn d e)
    → FinishesJobs S tells gives jobs old new had has d → FinishesJobs S tells gives jobs old new had has e

-- a job behind jobs that are finished: where it is done all are finished, and whatever it answers the log gained what all of them add
abbrev pub JobsAddUp : Rule → Type 0 → (List (List ℕ) → List ℕ → List ℕ) → Type 0
JobsAddUp S tells gives =
    (jobs : List JobSpec) (spec : JobSpec) (state : State) (old mid new : Seen) (had have has : List Given) (told : Told) (result : Result JobReport JobFault)
    → FinishesJobs S tells gives jobs old mid had have told → (tells → HadInputs spec state told)
    → JobLog S tells gives spec.folder (plan_of spec state) spec.slots mid new have has told result
    → GainsJobs S tells gives (jobs ++ spec ∷ []) old new had has told
    × ((report : JobReport) → result ≡ Ok report → FinishesJobs S tells gives (jobs ++ spec ∷ []) old new had has told)
