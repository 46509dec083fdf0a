-- What the log gains by a job, and what the children are given.
use Rattle.std.specs.Prelude.{◌≡◌, ℕ, Bool, true, false, ◌+◌, ◌&&◌, ◌==◌, ◌<◌, ◌≤◌, ◌⊎◌, List, [], ◌++◌, length, Result, Ok, Err, IfOk, slice_index_or}
use Rattle.std.specs.List.{AllByRecursion}
use Rattle.peg_base.specs.Names.{Names}
use Rattle.peg_base.specs.declared.tasks.Phase.{Phase}
use Rattle.peg_base.specs.declared.tasks.Phase.TheVariants.{Map, Combine, Reduce}
use Rattle.peg_base.specs.declared.tasks.TaskId.{TaskId}
use Rattle.dir_disk.specs.State.{State}
use Rattle.dir_disk.specs.Moments.{Told, clock}
use Rattle.dir_disk.specs.Children.{Given, Seen}
use Rattle.dir_disk.specs.declared.site.LogEntry.{LogEntry}
use Rattle.task_core.specs.Board.{Board, Rule, fresh, after_all, IsRun, IsBusyRun, AllDone, NoneDead, IsLeastDead}
use Rattle.committer.specs.Folders.{IsUnmarked}
use Rattle.job.specs.declared.fault.JobFault.{JobFault}
use Rattle.job.specs.declared.fault.JobFault.TheVariants.{TaskFailed, Disk, NoMemory}
use Rattle.job.specs.declared.spec.JobReport.{JobReport}
use Rattle.job.specs.declared.run.Mapped.{Mapped}
use Rattle.job.specs.declared.run.Reduced.{Reduced}
use Rattle.job.specs.Work.{Home, TaskFolder, Work, calls_at, task_id, text_at, work_of}
use Rattle.job.specs.Failing.{IsEntryOf, steps_of, made_in, failed_of, done_of}
use Rattle.job.specs.Ran.{TellsOf}
use Rattle.job.specs.Going.{AreAsMany, commit_calls, givens_of}
use Rattle.job.specs.Output.{Plan, map_inputs, reduce_inputs}

-- ---- one phase

-- a run that was given up while no task was dead: up to there no slot was left free, and behind it children were only waited for
pub record IsGivenUp (S : Rule) (m : Board) (entries : List LogEntry) : Type 0 where
  pub front : List LogEntry
  pub ends : List LogEntry
  pub parts : entries ≡ front ++ ends
  pub busy : IsBusyRun S m (steps_of front)
  pub none_dead : NoneDead (after_all m (steps_of front)).tasks
  pub none_made : made_in ends ≡ 0

-- a run in which no slot was left free, until each task was done
pub record IsDone (S : Rule) (m : Board) (entries : List LogEntry) : Type 0 where
  pub busy : IsBusyRun S m (steps_of entries)
  pub all_done : AllDone (after_all m (steps_of entries)).tasks

-- a run in which no slot was left free, until this task was the least dead one and nothing ran any more
pub record IsDoomed (S : Rule) (w : Work) (m : Board) (entries : List LogEntry) (id : TaskId) : Type 0 where
  pub busy : IsBusyRun S m (steps_of entries)
  pub named : id ≡ task_id w.folder w.phase id.task
  pub least_dead : IsLeastDead (after_all m (steps_of entries)).tasks id.task

-- why a phase was refused
abbrev pub IsCauseOf : Rule → Work → Board → List LogEntry → JobFault → Type 0
IsCauseOf S w m entries (TaskFailed id) = IsDoomed S w m entries id
IsCauseOf S w m entries Disk = IsGivenUp S m entries
IsCauseOf S w m entries NoMemory = IsGivenUp S m entries

-- what the entries of a phase have to do with its answer, which is the number of its attempts
abbrev pub PhaseAnswers : Rule → Work → Board → List LogEntry → Result ℕ JobFault → Type 0
PhaseAnswers S w m entries (Ok made) = IsDone S m entries × (made ≡ made_in entries)
PhaseAnswers S w m entries (Err fault) = IsCauseOf S w m entries fault

-- what holds where a task was answered as failed
abbrev pub IfTaskFailed : {T : Type 0} → Result T JobFault → (TaskId → Type 0) → Type 0
IfTaskFailed (Ok value) P = Unit {0}
IfTaskFailed (Err (TaskFailed id)) P = P id
IfTaskFailed (Err Disk) P = Unit {0}
IfTaskFailed (Err NoMemory) P = Unit {0}

-- what holds where a fault of the directory was answered, and where want of memory was
abbrev pub IfGivenUp : {T : Type 0} → Result T JobFault → (Bool → Type 0) → Type 0
IfGivenUp (Ok value) P = Unit {0}
IfGivenUp (Err (TaskFailed id)) P = Unit {0}
IfGivenUp (Err Disk) P = P true
IfGivenUp (Err NoMemory) P = P false

-- a run that was given up while no task was dead, and since `began` made as many calls of the directory as the commits of its front are, or fewer where the number isn't exact, which it never is where a commit is several calls
pub record StopsAfter (S : Rule) (exact : Bool) (home : Home) (m : Board) (entries : List LogEntry) (began calls : ℕ) : Type 0 where
  pub given_up : IsGivenUp S m entries
  pub spent : AreAsMany ((exact && calls_at home == 1) ≡ true) calls (began + commit_calls home m (steps_of given_up.front))

-- the phase wasn't begun, or it was given up so
abbrev pub StopsIn : Rule → Bool → Home → Board → List LogEntry → ℕ → ℕ → Type 0
StopsIn S exact home m entries began calls = (entries ≡ []) ⊎ StopsAfter S exact home m entries began calls

-- the moments up to `old` stand, and others may have come
pub record GoesOn (old new : Told) : Type 0 where
  pub later : old.count ≤ new.count
  pub past : (moment : ℕ) → moment ≤ old.count → new.at moment ≡ old.at moment

-- at some moment after so many calls of the directory the inputs of the tasks had these texts
pub record HadTexts (w : Work) (texts : List (List ℕ)) (began : ℕ) (told : Told) : Type 0 where
  pub moment : ℕ
  pub past : moment ≤ told.count
  pub calls : (told.at moment).calls ≡ began
  pub each : (t : ℕ) → t < w.count → text_at w (told.at moment).state t ≡ slice_index_or texts t []

-- the phase has no entries; or its tasks' inputs had these texts when it began
abbrev pub ReadTexts : Work → List (List ℕ) → ℕ → List LogEntry → Told → Type 0
ReadTexts w texts began entries told = (entries ≡ []) ⊎ HadTexts w texts began told

-- what the log gained by a phase, and what its children were given: their tasks' texts, which the inputs had when it began; `began` calls of the directory were made before it, which its first start tells; where a task is dead, or the phase was given up, those of each commit since then
pub record PhaseLog (S : Rule) (tells : Type 0) (w : Work) (slots : ℕ) (texts : List (List ℕ)) (old new : Seen) (had has : List Given) (e : Told) (result : Result ℕ JobFault) : Type 0 where
  pub entries : List LogEntry
  pub log : new.log ≡ old.log ++ entries
  pub of_work : AllByRecursion (IsEntryOf w) entries
  pub run : IsRun S (fresh w.count slots) (steps_of entries)
  pub began : ℕ
  pub givens : tells → has ≡ had ++ givens_of w (λ t. slice_index_or texts t []) began (fresh w.count slots) (steps_of entries)
  pub read : tells → ReadTexts w texts began entries e
  pub calls : tells → IfTaskFailed result (λ id. clock e ≡ began + commit_calls w.home (fresh w.count slots) (steps_of entries))
  pub stopped : tells → IfGivenUp result (λ exact. StopsIn S exact w.home (fresh w.count slots) entries began (clock e))
  pub start_faults : old.start_faults ≤ new.start_faults
  pub answer : PhaseAnswers S w (fresh w.count slots) entries result
  pub told : TellsOf w.folder w.phase w.count entries result

-- the attempts of a stage
abbrev pub mapped_attempts : Result Mapped JobFault → Result ℕ JobFault
mapped_attempts (Ok mapped) = Ok mapped.attempts
mapped_attempts (Err fault) = Err fault

abbrev pub reduced_attempts : Result Reduced JobFault → Result ℕ JobFault
reduced_attempts (Ok reduced) = Ok reduced.attempts
reduced_attempts (Err fault) = Err fault

-- the log of the map stage, of as many tasks as there are splits
pub record MapLog (S : Rule) (tells : Type 0) (folder : Names) (plan : Plan) (slots : ℕ) (old new : Seen) (had has : List Given) (e : Told) (result : Result Mapped JobFault) : Type 0 where
  pub count : ℕ
  pub counted : tells → count ≡ length (map_inputs plan)
  pub tasks : IfOk result (λ mapped. mapped.tasks ≡ count)
  pub phase : PhaseLog S tells (work_of folder Map plan.map_words count) slots (map_inputs plan) old new had has e (mapped_attempts result)

-- ---- a job

-- a fault that names no task
abbrev pub NamesNoTask : JobFault → Type 0
NamesNoTask (TaskFailed id) = ⊥
NamesNoTask Disk = Unit {0}
NamesNoTask NoMemory = Unit {0}

-- the job was refused before its map tasks were run, or in their run, and then no reduce task was; or when these were done, before or in the run of its reduce tasks; or at the commit, when all tasks were done
abbrev pub IsCauseOfJob : Rule → Work → Work → ℕ → List LogEntry → List LogEntry → JobFault → Type 0
IsCauseOfJob S v w slots maps reduces fault =
    (IsCauseOf S v (fresh v.count slots) maps fault × (reduces ≡ []))
    ⊎ (IsDone S (fresh v.count slots) maps × IsCauseOf S w (fresh w.count slots) reduces fault)
    ⊎ (NamesNoTask fault × IsDone S (fresh v.count slots) maps × IsDone S (fresh w.count slots) reduces)

abbrev pub JobAnswers : Rule → Work → Work → ℕ → List LogEntry → List LogEntry → Result JobReport JobFault → Type 0
JobAnswers S v w slots maps reduces (Ok report) =
    IsDone S (fresh v.count slots) maps × IsDone S (fresh w.count slots) reduces × (report.maps ≡ v.count) × (report.reduces ≡ w.count) × (report.attempts ≡ made_in maps + made_in reduces)
JobAnswers S v w slots maps reduces (Err fault) = IsCauseOfJob S v w slots maps reduces fault

-- the one of the map tasks or the one of the reduce tasks: such a job has no others
abbrev pub of_phase : Phase → ℕ → ℕ → ℕ
of_phase Map map reduce = map
of_phase Combine map reduce = 0
of_phase Reduce map reduce = reduce

-- a job was given up before its reduce tasks were run: before its map tasks were, or in their run; or when these were done, before the reduce tasks were run or in their run; or when all tasks were done. Where it was in the run of a phase, the calls of the directory since the phase began are the commits before that
abbrev pub StopsJob : Rule → Bool → Board → Board → List LogEntry → List LogEntry → ℕ → ℕ → ℕ → Type 0
StopsJob S exact m n maps reduces map_began reduce_began calls =
    ((reduces ≡ []) × StopsIn S exact TaskFolder m maps map_began calls)
    ⊎ (IsDone S m maps × StopsIn S exact TaskFolder n reduces reduce_began calls)
    ⊎ (IsDone S m maps × IsDone S n reduces)

-- the log gained a run of the machine for the map tasks, and then, where all of them were done, one for the reduce tasks; each child was given its phase's words and its task's text, which the task's input had when the phase began. Where a task is dead, no call of the directory was made since its phase began but one for each commit; when that was is told by the moment of the phase's first start, and there is one, since four attempts of the task failed. Where a phase that has entries was given up, the same holds of the commits before that
pub record JobLog (S : Rule) (tells : Type 0) (gives : List (List ℕ) → List ℕ → List ℕ) (folder : Names) (plan : Plan) (slots : ℕ) (old new : Seen) (had has : List Given) (e : Told) (result : Result JobReport JobFault) : Type 0 where
  pub count : ℕ
  pub counted : tells → count ≡ length (map_inputs plan)
  pub maps : List LogEntry
  pub reduces : List LogEntry
  pub log : new.log ≡ old.log ++ (maps ++ reduces)
  pub of_maps : AllByRecursion (IsEntryOf (work_of folder Map plan.map_words count)) maps
  pub of_reduces : AllByRecursion (IsEntryOf (work_of folder Reduce plan.reduce_words plan.reducers)) reduces
  pub map_run : IsRun S (fresh count slots) (steps_of maps)
  pub reduce_run : IsRun S (fresh plan.reducers slots) (steps_of reduces)
  pub map_began : ℕ
  pub reduce_began : ℕ
  pub givens : tells → has ≡ had ++ (givens_of (work_of folder Map plan.map_words count) (λ t. slice_index_or (map_inputs plan) t []) map_began (fresh count slots) (steps_of maps) ++ givens_of (work_of folder Reduce plan.reduce_words plan.reducers) (λ t. slice_index_or (reduce_inputs gives plan) t []) reduce_began (fresh plan.reducers slots) (steps_of reduces))
  pub map_read : tells → ReadTexts (work_of folder Map plan.map_words count) (map_inputs plan) map_began maps e
  pub reduce_read : tells → ReadTexts (work_of folder Reduce plan.reduce_words plan.reducers) (reduce_inputs gives plan) reduce_began reduces e
  pub calls : tells → IfTaskFailed result (λ id. clock e ≡ of_phase id.phase (map_began + commit_calls TaskFolder (fresh count slots) (steps_of maps)) (reduce_began + commit_calls TaskFolder (fresh plan.reducers slots) (steps_of reduces)))
  pub stopped : tells → IfGivenUp result (λ exact. StopsJob S exact (fresh count slots) (fresh plan.reducers slots) maps reduces map_began reduce_began (clock e))
  pub start_faults : old.start_faults ≤ new.start_faults
  pub answer : JobAnswers S (work_of folder Map plan.map_words count) (work_of folder Reduce plan.reduce_words plan.reducers) slots maps reduces result

-- of no task have four attempts failed
abbrev pub HasFewFailures : Names → List LogEntry → Type 0
HasFewFailures folder entries =
    (phase : Phase) (t : ℕ) → failed_of (task_id folder phase t) entries < 4

-- before a refusal of no task had four attempts failed, and after it no attempt was made
pub record IsCutShort (folder : Names) (entries : List LogEntry) : Type 0 where
  pub front : List LogEntry
  pub ends : List LogEntry
  pub parts : entries ≡ front ++ ends
  pub few : HasFewFailures folder front
  pub none_made : made_in ends ≡ 0

-- what the entries that the log gained tell by themselves: how many attempts were made; or the least task, of its phase, of which four attempts failed; or that there was none before a refusal
abbrev pub TellsOfJob : Names → List LogEntry → Result JobReport JobFault → Type 0
TellsOfJob folder entries (Ok report) =
    (report.attempts ≡ made_in entries) × HasFewFailures folder entries
TellsOfJob folder entries (Err (TaskFailed id)) =
    (id ≡ task_id folder id.phase id.task) × (failed_of id entries ≡ 4) × ((t : ℕ) → t < id.task → failed_of (task_id folder id.phase t) entries < 4)
TellsOfJob folder entries (Err Disk) = IsCutShort folder entries
TellsOfJob folder entries (Err NoMemory) = IsCutShort folder entries

-- each reduce task has succeeded
abbrev pub AreReduced : Names → ℕ → List LogEntry → Type 0
AreReduced folder reducers entries =
    (t : ℕ) → t < reducers → 1 ≤ done_of (task_id folder Reduce t) entries

-- the folder of a job that was refused is whole in no image; but at its commit, when each reduce task had succeeded, it may be
abbrev pub IsLeftBy : Names → ℕ → List LogEntry → State → Result JobReport JobFault → Type 0
IsLeftBy folder reducers entries state (Ok report) = AreReduced folder reducers entries
IsLeftBy folder reducers entries state (Err (TaskFailed id)) = IsUnmarked folder state
IsLeftBy folder reducers entries state (Err Disk) = IsUnmarked folder state ⊎ AreReduced folder reducers entries
IsLeftBy folder reducers entries state (Err NoMemory) = IsUnmarked folder state ⊎ AreReduced folder reducers entries

-- no task has succeeded twice
abbrev pub NoneTwice : Names → List LogEntry → Type 0
NoneTwice folder entries =
    (phase : Phase) (t : ℕ) → done_of (task_id folder phase t) entries ≤ 1
