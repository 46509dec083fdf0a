-- What the directory has for the tasks of a phase, by what the machine knows of them.
use Rattle.std.specs.Prelude.{◌≡◌, ◌≢◌, ℕ, ◌<◌, ◌≤◌, true, false, List, None, Some}
use Rattle.std.specs.List.{AllByRecursion}
use Rattle.peg_base.specs.Names.{Names, under, same_path}
use Rattle.dir_disk.specs.State.{State}
use Rattle.dir_disk.specs.Calls.{IsOpen}
use Rattle.dir_disk.specs.Children.{Child, CanStart}
use Rattle.committer.specs.Commits.{HasNoFile}
use Rattle.task_core.specs.Board.{Board, Tried, Open, Finished, tried_at}
use Rattle.job.specs.Work.{Work, IsAttempt, input_at, folder_at, output_at, home_at, result_at, text_at}
use Rattle.job.specs.Children.{task_no}

-- no file is in the folder but at this one path
abbrev pub HasOnly : Names → Names → State → Type 0
HasOnly folder file state =
    (path : Names) → under folder path ≡ true → same_path file path ≡ false → (state path).now ≡ None

-- each attempt of task t from this one on can be started, and each can be committed
pub record IsOpenFrom (w : Work) (state : State) (t next : ℕ) : Type 0 where
  pub starts : (a : ℕ) → next ≤ a → IsAttempt a → CanStart state (input_at w t) (output_at w t a)
  pub bare : (a : ℕ) → IsAttempt a → HasOnly (folder_at w t a) (output_at w t a) state
  pub empty : HasNoFile (home_at w t) state
  pub is_open : IsOpen state (home_at w t)

-- what a phase needs of the directory: each attempt of each task can be started, and can be committed
abbrev pub CanRun : Work → State → Type 0
CanRun w state = (t : ℕ) → t < w.count → IsOpenFrom w state t 1

-- the folder of task t has its output, which is what its words give for the input that it had at entry, and no other file
pub record IsMade (w : Work) (gives : List (List ℕ) → List ℕ → List ℕ) (entry state : State) (t : ℕ) : Type 0 where
  pub output : (state (result_at w t)).now ≡ Some (gives w.words (text_at w entry t))
  pub alone : HasOnly (home_at w t) (result_at w t) state

-- what was in the folder of attempt a is in that of task t, and no other file is there
pub record IsMoved (w : Work) (t a : ℕ) (before after : State) : Type 0 where
  pub output : (after (result_at w t)).now ≡ (before (output_at w t a)).now
  pub alone : HasOnly (home_at w t) (result_at w t) after

abbrev pub AllMade : Work → (List (List ℕ) → List ℕ → List ℕ) → State → State → Type 0
AllMade w gives entry state = (t : ℕ) → t < w.count → IsMade w gives entry state t

-- what the directory has for task t
abbrev pub TaskStands : Work → (List (List ℕ) → List ℕ → List ℕ) → State → ℕ → Tried → Type 0
TaskStands w gives state t (Open next running) = IsOpenFrom w state t next
TaskStands w gives state t (Finished running) = IsMade w gives state state t

-- each child was given what its task's input has
abbrev pub AreFed : Work → State → List Child → Type 0
AreFed w state running = AllByRecursion (λ child. child.given ≡ text_at w state (task_no child)) running

-- the directory has what all tasks and children need
pub record HasWork (w : Work) (gives : List (List ℕ) → List ℕ → List ℕ) (state : State) (m : Board) (running : List Child) : Type 0 where
  pub tasks : (t : ℕ) → t < w.count → TaskStands w gives state t (tried_at m.tasks t)
  pub fed : AreFed w state running

-- the same, but that the output of task t, which is done, is still where its attempt a wrote it
pub record Delivers (w : Work) (gives : List (List ℕ) → List ℕ → List ℕ) (state : State) (m : Board) (running : List Child) (t a : ℕ) : Type 0 where
  pub others : (u : ℕ) → u < w.count → u ≢ t → TaskStands w gives state u (tried_at m.tasks u)
  pub fed : AreFed w state running
  pub rest : IsOpenFrom w state t 5
  pub output : (state (output_at w t a)).now ≡ Some (gives w.words (text_at w state t))
