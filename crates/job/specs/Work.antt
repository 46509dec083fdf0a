-- The tasks of one phase of a job, and where they read and write.
use Rattle.std.specs.Prelude.{◌≡◌, ◌≢◌, ℕ, true, ◌<◌, ◌≤◌, false, List, [], ◌∷◌, ◌++◌, length}
use Rattle.peg_base.specs.Names.{Names, under}
use Rattle.peg_base.specs.declared.tasks.Phase.{Phase}
use Rattle.peg_base.specs.declared.tasks.TaskId.{TaskId}
use Rattle.dir_disk.specs.State.{State, bytes_of}
use Rattle.dir_disk.specs.Moments.{Told, Through, Both, files}
use Rattle.committer.specs.Paths.{temporary_of, attempt_name, output_name, task_of, task_input_of}

-- where the output of a task goes: into a folder of its own, from where the job is made whole
pub data Home : Type 0 where
  TaskFolder : Home

abbrev pub home_of : Home → Names → Phase → ℕ → Names
home_of TaskFolder folder phase task = task_of folder phase task

-- how many calls of the directory it takes to deliver an output there
abbrev pub calls_at : Home → ℕ
calls_at TaskFolder = 1

-- so many tasks of one phase, the words of their children, the folder that the job makes, and the folder where the output of a task goes
pub record Work : Type 0 where
  pub folder : Names
  pub phase : Phase
  pub words : List (List ℕ)
  pub count : ℕ
  pub home : Home

abbrev pub work_of : Names → Phase → List (List ℕ) → ℕ → Work
work_of folder phase words count =
    record { folder = folder; phase = phase; words = words; count = count; home = TaskFolder }

abbrev pub task_id : Names → Phase → ℕ → TaskId
task_id folder phase task = record { job = folder; phase = phase; task = task }

-- ---- paths

-- where task t reads
abbrev pub input_at : Work → ℕ → Names
input_at w t = task_input_of w.folder w.phase t

-- the folder of attempt a of task t, and where its child writes
abbrev pub folder_at : Work → ℕ → ℕ → Names
folder_at w t a = temporary_of w.folder ++ attempt_name w.phase t a ∷ []

abbrev pub output_at : Work → ℕ → ℕ → Names
output_at w t a = folder_at w t a ++ output_name w.phase t ∷ []

-- the folder of task t, and where its output is once an attempt is committed
abbrev pub home_at : Work → ℕ → Names
home_at w t = home_of w.home w.folder w.phase t

abbrev pub result_at : Work → ℕ → Names
result_at w t = home_at w t ++ output_name w.phase t ∷ []

-- the folders of the tasks lie apart from one another, from those of the attempts and from the inputs
pub record HomesApart (w : Work) : Type 0 where
  pub each : (t u : ℕ) (path : Names) → t < 1000000 → u < 1000000 → t ≢ u → under (home_at w t) path ≡ true → under (home_at w u) path ≡ false
  pub folders : (t u a : ℕ) (path : Names) → under (folder_at w t a) path ≡ true → under (home_at w u) path ≡ false
  pub inputs : (t u : ℕ) → under (home_at w t) (input_at w u) ≡ false

-- a phase of a job in this folder, of which only the paths matter
abbrev pub place_of : Names → Phase → Home → Work
place_of folder phase home =
    record { folder = folder; phase = phase; words = []; count = 0; home = home }

-- within the limits
pub record IsSmall (w : Work) : Type 0 where
  pub few : w.count ≤ 524288
  pub short : length w.folder < 6
  pub words : 1 ≤ length w.words
  pub homes : HomesApart w

-- ---- contents

-- the bytes of the input of task t
abbrev pub text_at : Work → State → ℕ → List ℕ
text_at w state t = bytes_of (state (input_at w t)).now

-- ---- what stands

-- attempts are numbered from 1 to 4
pub record IsAttempt (a : ℕ) : Type 0 where
  pub first : 1 ≤ a
  pub last : a ≤ 4

-- outside the folders of the attempts and of the tasks
pub record IsOutside (w : Work) (path : Names) : Type 0 where
  pub attempts : (t a : ℕ) → t < w.count → IsAttempt a → under (folder_at w t a) path ≡ false
  pub tasks : (t : ℕ) → t < w.count → under (home_at w t) path ≡ false

-- all outside these folders is as at entry
abbrev pub StandsAround : Work → State → State → Type 0
StandsAround w entry state = (path : Names) → IsOutside w path → state path ≡ entry path

-- it was so at each moment since old
abbrev pub Keeps : Work → Told → Told → Type 0
Keeps w old new = Through (Both (StandsAround w (files old))) old new

-- outside the folders of task t and of its attempts
pub record IsFar (w : Work) (t : ℕ) (path : Names) : Type 0 where
  pub attempts : (a : ℕ) → IsAttempt a → under (folder_at w t a) path ≡ false
  pub task : under (home_at w t) path ≡ false

-- all outside the folders of task t and of its attempts is as before
abbrev pub IsLocal : Work → ℕ → State → State → Type 0
IsLocal w t before after = (path : Names) → IsFar w t path → after path ≡ before path
