-- What the entries that the log gained tell of the answer.
use Rattle.std.specs.Prelude.{◌≡◌, ℕ, ◌<◌, List, ◌++◌, Result, Ok, Err}
use Rattle.peg_base.specs.declared.tasks.TaskId.{TaskId}
use Rattle.dir_disk.specs.declared.site.LogEntry.{LogEntry}
use Rattle.job.specs.Failing.{failed_of, made_in}
use Rattle.job.specs.Work.{task_id}
use Rattle.mining.specs.declared.stop.Stop.{Stop}
use Rattle.mining.specs.declared.stop.Stop.TheVariants.{TaskFailed, BadStore, BadEdge, BigNode, TooLarge, OtherJob, OtherEdges, Disk, Read, Say, NoMemory}

-- of no task have four attempts failed
abbrev pub NoneFailed : List LogEntry → Type 0
NoneFailed entries = (id : TaskId) → failed_of id entries < 4

-- four attempts of this task failed, and fewer of each lesser one of its phase
abbrev pub IsFirstFailed : List LogEntry → TaskId → Type 0
IsFirstFailed entries id =
    (failed_of id entries ≡ 4) × ((t : ℕ) → t < id.task → failed_of (task_id id.job id.phase t) entries < 4)

-- before a refusal of no task had four attempts failed, and after it no attempt was made
pub record IsCutOff (entries : List LogEntry) : Type 0 where
  pub front : List LogEntry
  pub ends : List LogEntry
  pub parts : entries ≡ front ++ ends
  pub none_failed : NoneFailed front
  pub none_made : made_in ends ≡ 0

-- what the entries tell of a refusal
abbrev pub TellsOfStop : List LogEntry → Stop → Type 0
TellsOfStop entries (TaskFailed task) = IsFirstFailed entries task
TellsOfStop entries (BadStore path line) = NoneFailed entries
TellsOfStop entries (BadEdge line) = NoneFailed entries
TellsOfStop entries (BigNode line id) = NoneFailed entries
TellsOfStop entries TooLarge = NoneFailed entries
TellsOfStop entries (OtherJob line) = NoneFailed entries
TellsOfStop entries (OtherEdges line) = NoneFailed entries
TellsOfStop entries Disk = IsCutOff entries
TellsOfStop entries Read = NoneFailed entries
TellsOfStop entries Say = NoneFailed entries
TellsOfStop entries NoMemory = IsCutOff entries

-- what the entries tell of an answer
abbrev pub TellsOfAnswer : {T : Type 0} → List LogEntry → Result T Stop → Type 0
TellsOfAnswer entries (Ok value) = NoneFailed entries
TellsOfAnswer entries (Err stop) = TellsOfStop entries stop

-- a refusal that names no task
abbrev pub IsOfNoTask : Stop → Type 0
IsOfNoTask (TaskFailed task) = ⊥
IsOfNoTask (BadStore path line) = Unit {0}
IsOfNoTask (BadEdge line) = Unit {0}
IsOfNoTask (BigNode line id) = Unit {0}
IsOfNoTask TooLarge = Unit {0}
IsOfNoTask (OtherJob line) = Unit {0}
IsOfNoTask (OtherEdges line) = Unit {0}
IsOfNoTask Disk = Unit {0}
IsOfNoTask Read = Unit {0}
IsOfNoTask Say = Unit {0}
IsOfNoTask NoMemory = Unit {0}
