-- Which attempt may be started, where two of a task may run at once, and what that rule keeps to.
use Rattle.std.specs.Prelude.{◌≡◌, ℕ, ◌<◌, ◌≤◌, ◌⊎◌, List, [], ◌∷◌}
use Rattle.std.proofs.Common.{inl, inr}
use Rattle.task_core.specs.Board.{Board, Tried, Open, tried_at, IsFree, IsIdle, IsNext, IsRule, MayStart, NoneDead}
use Rattle.task_core.specs.Rules.{rule_alone}

-- a task of which one attempt runs and that has an attempt left, and its number
pub record IsLone (tasks : List Tried) (t a : ℕ) : Type 0 where
  pub one : ℕ
  pub is : tried_at tasks t ≡ Open a (one ∷ [])
  pub left : a ≤ 4

-- attempt a of task t may be started as a second one: no task is idle, and it is the next of the least lone task
pub record MayStartSecond (b : Board) (t a : ℕ) : Type 0 where
  pub free : IsFree b
  pub none_idle : (u c : ℕ) → IsIdle b.tasks u c → ⊥
  pub lone : IsLone b.tasks t a
  pub least : (u c : ℕ) → u < t → IsLone b.tasks u c → ⊥

-- attempt a of task t may be started, where at most two attempts of a task run at once
abbrev pub MayStartTwin : Board → ℕ → ℕ → Type 0
MayStartTwin b t a = MayStart b t a ⊎ MayStartSecond b t a

twin_next : (b : Board) (t a : ℕ) → MayStartTwin b t a → IsNext b.tasks t a
twin_next b t a (inl may) = rule_alone.next b t a may
twin_next b t a (inr may) = record { running = may.lone.one ∷ []; is = may.lone.is; left = may.lone.left }

twin_alive : (b : Board) (t a : ℕ) → MayStartTwin b t a → NoneDead b.tasks
twin_alive b t a (inl may) = may.free.none_dead
twin_alive b t a (inr may) = may.free.none_dead

pub rule_twin : IsRule MayStartTwin
rule_twin = record {
  next = twin_next;
  alive = twin_alive;
  rests = λ b some numbered rests busy alive. rule_alone.rests b some numbered rests (λ u a may. busy u a (inl may)) alive;
}
