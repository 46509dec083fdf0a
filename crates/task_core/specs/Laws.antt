-- The laws of the machine, over every list of steps. Each is the contract of a function in `laws`.
use Rattle.std.specs.Prelude.{◌≡◌, ℕ, ℤ, ◌+◌, ◌*◌, ◌<◌, ◌≤◌, ◌↔◌, ◌&&◌, ◌==◌, true, false, if◌then◌else◌, Bool, Some, List, [], ◌∷◌, ◌++◌, length, All}
use Rattle.task_core.specs.Board.{Rule, Board, Step, Start, Refuse, End, Runs, tried_at, is_dead, is_done, is_success, becomes_done, fresh, after, after_all, MayStart, IsStep, IsRun, IsBusy, IsBusyRun, IsStepWhere}
use Rattle.task_core.specs.Log.{attempts_of, failures_of, successes_of, attempts_in, running_attempt, NamesTask}

-- ---- by every rule of starting

-- a task has at most four attempts
abbrev pub AtMostFourAttempts : Rule → Type 0
AtMostFourAttempts S = (tasks slots t : ℕ) (steps : List Step) → IsRun S (fresh tasks slots) steps → attempts_of t steps ≤ 4

-- task t becomes done by the step
abbrev pub is_first : ℕ → Board → Step → Bool
is_first t b (Start u a) = false
is_first t b (Refuse u a) = false
is_first t b (End u a status) = u == t && becomes_done (tried_at b.tasks u) (is_success status)

-- how often task t becomes done
abbrev pub firsts_of : ℕ → Board → List Step → ℕ
firsts_of t b [] = 0
firsts_of t b (x ∷ xs) = (if is_first t b x then 1 else 0) + firsts_of t (after b x) xs

-- a task becomes done at most once
abbrev pub DoneAtMostOnce : Rule → Type 0
DoneAtMostOnce S = (tasks slots t : ℕ) (steps : List Step) → IsRun S (fresh tasks slots) steps → firsts_of t (fresh tasks slots) steps ≤ 1

-- a task is dead exactly where four of its attempts failed
abbrev pub DeadByFourFailures : Rule → Type 0
DeadByFourFailures S = (tasks slots t : ℕ) (steps : List Step) → IsRun S (fresh tasks slots) steps → (is_dead (tried_at (after_all (fresh tasks slots) steps).tasks t) ≡ true) ↔ (failures_of t steps ≡ 4)

-- once a task is dead no attempt is made
abbrev pub NothingStartsAfterDeath : Rule → Type 0
NothingStartsAfterDeath S = (b : Board) (t : ℕ) (steps : List Step) → is_dead (tried_at b.tasks t) ≡ true → IsRun S b steps → attempts_in steps ≡ 0

-- the tasks that are done are those with a success
abbrev pub DoneBySuccess : Rule → Type 0
DoneBySuccess S = (tasks slots t : ℕ) (steps : List Step) → IsRun S (fresh tasks slots) steps → t < tasks → (is_done (tried_at (after_all (fresh tasks slots) steps).tasks t) ≡ true) ↔ (1 ≤ successes_of t steps)

-- the attempts of a task are numbered in the order in which they are made, from 1
abbrev pub StartsCountUp : Rule → Type 0
StartsCountUp S = (tasks slots t a : ℕ) (before rest : List Step) → IsRun S (fresh tasks slots) (before ++ Start t a ∷ rest) → a ≡ attempts_of t before + 1

abbrev pub RefusalsCountUp : Rule → Type 0
RefusalsCountUp S = (tasks slots t a : ℕ) (before rest : List Step) → IsRun S (fresh tasks slots) (before ++ Refuse t a ∷ rest) → a ≡ attempts_of t before + 1

-- each step names a task of the phase, and an attempt from 1 to 4
abbrev pub StepsNameTasks : Rule → Type 0
StepsNameTasks S = (tasks slots : ℕ) (steps : List Step) → IsRun S (fresh tasks slots) steps → All (NamesTask tasks) steps

-- a run makes at most four attempts a task, and so has at most eight steps a task
abbrev pub RunsEnd : Rule → Type 0
RunsEnd S = (tasks slots : ℕ) (steps : List Step) → IsRun S (fresh tasks slots) steps → (attempts_in steps ≤ 4 * tasks) × (length steps ≤ 8 * tasks)

-- a step that may be made after a run makes it longer
abbrev pub RunsGrow : Rule → Type 0
RunsGrow S = (b : Board) (steps : List Step) (x : Step) → IsRun S b steps → IsStep S (after_all b steps) x → IsRun S b (steps ++ x ∷ []) × (after_all b (steps ++ x ∷ []) ≡ after (after_all b steps) x)

abbrev pub BusyRunsGrow : Rule → Type 0
BusyRunsGrow S = (b : Board) (steps : List Step) (x : Step) → IsBusyRun S b steps → IsStepWhere S (IsBusy S) (after_all b steps) x → IsBusyRun S b (steps ++ x ∷ []) × (after_all b (steps ++ x ∷ []) ≡ after (after_all b steps) x)

-- a busy run is a run
abbrev pub BusyRunsAreRuns : Rule → Type 0
BusyRunsAreRuns S = (b : Board) (steps : List Step) → IsBusyRun S b steps → IsRun S b steps

-- ---- where at most one attempt of a task runs at once

-- a task has at most one success
abbrev pub AtMostOneSuccess : Type 0
AtMostOneSuccess = (tasks slots t : ℕ) (steps : List Step) → IsRun MayStart (fresh tasks slots) steps → successes_of t steps ≤ 1

-- the tasks that are done are those with just one success
abbrev pub DoneByOneSuccess : Type 0
DoneByOneSuccess = (tasks slots t : ℕ) (steps : List Step) → IsRun MayStart (fresh tasks slots) steps → t < tasks → (is_done (tried_at (after_all (fresh tasks slots) steps).tasks t) ≡ true) ↔ (successes_of t steps ≡ 1)

-- in each state at most one attempt may be started
abbrev pub OneMayStart : Type 0
OneMayStart = (b : Board) (t a u c : ℕ) → MayStart b t a → MayStart b u c → (t ≡ u) × (a ≡ c)

-- in each state that a run leads to at most one attempt of a task may end
abbrev pub OneMayEnd : Type 0
OneMayEnd = (tasks slots t a c : ℕ) (steps : List Step) → IsRun MayStart (fresh tasks slots) steps → Runs (after_all (fresh tasks slots) steps).tasks t a → Runs (after_all (fresh tasks slots) steps).tasks t c → a ≡ c

-- the attempt that runs is the one that was started and has not ended
abbrev pub RunsUntilItEnds : Type 0
RunsUntilItEnds = (tasks slots t a : ℕ) (steps : List Step) → IsRun MayStart (fresh tasks slots) steps → Runs (after_all (fresh tasks slots) steps).tasks t a ↔ (running_attempt t steps ≡ Some a)

-- each end names the attempt that runs
abbrev pub EndsNameWhatRuns : Type 0
EndsNameWhatRuns = (tasks slots t a : ℕ) (status : ℤ) (before rest : List Step) → IsRun MayStart (fresh tasks slots) (before ++ End t a status ∷ rest) → running_attempt t before ≡ Some a
