-- What the files and folders within a job's folder are called.
use Rattle.std.specs.Prelude.{ℕ, List, [], ◌∷◌, ◌++◌, codes}
use Rattle.peg_base.specs.Names.{Names}
use Rattle.peg_base.specs.declared.tasks.Phase.{Phase}
use Rattle.peg_base.specs.declared.tasks.Phase.TheVariants.{Map, Combine, Reduce}
use Rattle.peg_base.specs.declared.tasks.Attempt.{Attempt}
use Rattle.digit_names.specs.Digits.{digits}

-- ---- names

unfoldable pub success_name : List ℕ
success_name = codes "_SUCCESS"

unfoldable pub temporary_name : List ℕ
temporary_name = codes "_temporary"

-- the part of this number of a folder's content
unfoldable pub part_name : ℕ → List ℕ
part_name part = codes "part-" ++ digits 5 part

abbrev pub task_front : Phase → List ℕ
task_front Map = codes "task-m-"
task_front Combine = codes "task-c-"
task_front Reduce = codes "task-r-"

-- the folder of a task that is committed
unfoldable pub task_name : Phase → ℕ → List ℕ
task_name phase task = task_front phase ++ digits 6 task

abbrev pub attempt_front : Phase → List ℕ
attempt_front Map = codes "attempt-m-"
attempt_front Combine = codes "attempt-c-"
attempt_front Reduce = codes "attempt-r-"

-- the folder of an attempt
unfoldable pub attempt_name : Phase → ℕ → ℕ → List ℕ
attempt_name phase task number = attempt_front phase ++ digits 6 task ++ 45 ∷ [] ++ digits 1 number

abbrev pub input_front : Phase → List ℕ
input_front Map = codes "m-"
input_front Combine = codes "c-"
input_front Reduce = codes "r-"

-- the file that the children of a task read
unfoldable pub input_name : Phase → ℕ → List ℕ
input_name phase task = input_front phase ++ digits 6 task ++ codes ".in"

-- where map outputs become reduce inputs
unfoldable pub shuffle_name : List ℕ
shuffle_name = codes "shuffle"

-- what a task's output is called: a reduce task makes the part of its own number
abbrev pub output_name : Phase → ℕ → List ℕ
output_name Map task = codes "out"
output_name Combine task = codes "out"
output_name Reduce task = part_name task

-- ---- paths

-- the file that says that the folder is whole
abbrev pub success_of : Names → Names
success_of folder = folder ++ success_name ∷ []

abbrev pub part_of : Names → ℕ → Names
part_of folder part = folder ++ part_name part ∷ []

-- what a job needs while it runs
abbrev pub temporary_of : Names → Names
temporary_of folder = folder ++ temporary_name ∷ []

abbrev pub task_of : Names → Phase → ℕ → Names
task_of folder phase task = temporary_of folder ++ task_name phase task ∷ []

-- where the commit of its reduce task leaves a part
abbrev pub task_part_of : Names → ℕ → Names
task_part_of folder part = task_of folder Reduce part ++ part_name part ∷ []

-- where the commit of a task leaves its output
abbrev pub task_output_of : Names → Phase → ℕ → Names
task_output_of folder phase task =
    task_of folder phase task ++ output_name phase task ∷ []

abbrev pub attempt_of : Names → Attempt → Names
attempt_of folder attempt =
    temporary_of folder ++ attempt_name attempt.task.phase attempt.task.task attempt.number ∷ []

-- the folder of its task, which the commit of an attempt fills
abbrev pub committed_of : Names → Attempt → Names
committed_of folder attempt = task_of folder attempt.task.phase attempt.task.task

-- where the child of an attempt writes
abbrev pub output_of : Names → Attempt → Names
output_of folder attempt =
    attempt_of folder attempt ++ output_name attempt.task.phase attempt.task.task ∷ []

-- where its output is then
abbrev pub committed_output_of : Names → Attempt → Names
committed_output_of folder attempt =
    task_output_of folder attempt.task.phase attempt.task.task

abbrev pub task_input_of : Names → Phase → ℕ → Names
task_input_of folder phase task = temporary_of folder ++ input_name phase task ∷ []

-- the folder of the sorted runs
abbrev pub shuffle_of : Names → Names
shuffle_of folder = temporary_of folder ++ shuffle_name ∷ []
