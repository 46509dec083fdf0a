-- The laws of two attempts of a task at once. Each is a clause of the law function in `laws`.
use Rattle.std.specs.Prelude.{◌≡◌, ℕ, ◌≤◌, List}
use Rattle.task_core.specs.Board.{Board, Step, IsIdle, IsRun, MayStart, after_all, fresh, runs, tried_at}
use Rattle.twins.specs.Rules.{MayStartTwin}

-- at most two attempts of a task run at once
abbrev pub AtMostTwoRun : Type 0
AtMostTwoRun = (tasks slots t : ℕ) (steps : List Step) → IsRun MayStartTwin (fresh tasks slots) steps
    → runs (tried_at (after_all (fresh tasks slots) steps).tasks t) ≤ 2

-- in each state at most one attempt may be started
abbrev pub OneTwinMayStart : Type 0
OneTwinMayStart = (b : Board) (t a u c : ℕ) → MayStartTwin b t a → MayStartTwin b u c → (t ≡ u) × (a ≡ c)

-- while a task is idle, only an attempt that could be started with one of a task at once may be started
abbrev pub NoTwinWhereOneIsIdle : Type 0
NoTwinWhereOneIsIdle = (b : Board) (t a u c : ℕ) → IsIdle b.tasks u c → MayStartTwin b t a → MayStart b t a
