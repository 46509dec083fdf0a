-- The children that run, and the machine's state.
use Rattle.std.specs.Prelude.{◌≡◌, ◌≢◌, ℕ, List, [], ◌∷◌, length}
use Rattle.std.specs.List.{AllByRecursion}
use Rattle.dir_disk.specs.Children.{Child}
use Rattle.task_core.specs.Board.{Board, Tried, Runs, running_of, AreNumbered}
use Rattle.job.specs.Work.{Work, IsSmall, input_at, output_at}

abbrev pub task_no : Child → ℕ
task_no child = child.attempt.task.task

abbrev pub number_no : Child → ℕ
number_no child = child.attempt.number

-- not of one attempt
abbrev pub AreOthers : Child → Child → Type 0
AreOthers child other = task_no child ≡ task_no other → number_no child ≢ number_no other

-- no two of the children are of one attempt
abbrev pub AreApart : List Child → Type 0
AreApart [] = Unit {0}
AreApart (child ∷ children) = AllByRecursion (λ other. AreOthers other child) children × AreApart children

-- the child is that of an attempt of its task that runs
pub record IsChildOf (w : Work) (tasks : List Tried) (child : Child) : Type 0 where
  pub job : child.attempt.task.job ≡ w.folder
  pub phase : child.attempt.task.phase ≡ w.phase
  pub words : child.words ≡ w.words
  pub input : child.input ≡ input_at w (task_no child)
  pub output : child.output ≡ output_at w (task_no child) (number_no child)
  pub runs : Runs tasks (task_no child) (number_no child)

-- the children that run are those of the attempts that run, each once
pub record AreChildrenOf (w : Work) (m : Board) (running : List Child) : Type 0 where
  pub small : IsSmall w
  pub size : length m.tasks ≡ w.count
  pub numbered : AreNumbered m.tasks
  pub each : AllByRecursion (IsChildOf w m.tasks) running
  pub apart : AreApart running
  pub count : length running ≡ running_of m.tasks
