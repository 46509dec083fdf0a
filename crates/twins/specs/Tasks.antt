-- What the fields of `Twins` keep.
use Rattle.std.specs.Prelude.{◌≡◌, ℕ, ◌<◌, Bool, true, false, nat_le, Option, MatchOption, List, [], ◌∷◌, length, map, slice_set, sum_by}
use Rattle.task_core.specs.Board.{Tried, Open, Finished, AreNumbered, IsLeastDead, IsNumbered, NoneDead, is_dead, is_done, running_of, tried_at}
use Rattle.twins.specs.declared.task.Pair.{Pair}
use Rattle.twins.specs.declared.task.Pair.TheVariants.{Neither, One, Both}
use Rattle.twins.specs.declared.task.Twin.{Twin}
use Rattle.twins.specs.declared.task.Twin.TheVariants.{Open as OpenTwin, Finished as FinishedTwin}

-- the attempts that run
abbrev pub list_of : Pair → List ℕ
list_of Neither = []
list_of (One a) = a ∷ []
list_of (Both a b) = a ∷ b ∷ []

-- what a task has tried
abbrev pub twin_tried : Twin → Tried
twin_tried (OpenTwin next running) = Open next (list_of running)
twin_tried (FinishedTwin running) = Finished (list_of running)

abbrev pub tasks_of : List Twin → List Tried
tasks_of twins = map twin_tried twins

-- nothing of the task runs, and it has an attempt left
abbrev pub is_idle : Tried → Bool
is_idle (Open n []) = nat_le n 4
is_idle (Open n (a ∷ rs)) = false
is_idle (Finished rs) = false

-- one attempt of the task runs, and it has one left
abbrev pub is_lone : Tried → Bool
is_lone (Open n []) = false
is_lone (Open n (a ∷ [])) = nat_le n 4
is_lone (Open n (a ∷ b ∷ rs)) = false
is_lone (Finished rs) = false

-- how many tasks that aren't done a task is
abbrev pub lacks : Tried → ℕ
lacks (Open n rs) = 1
lacks (Finished rs) = 0

pub record AreTwins (twins : List Twin) (idle lone : List Bool) (running unfinished : ℕ) (least_dead : Option ℕ) : Type 0 where
  pub numbered : AreNumbered (tasks_of twins)
  pub idle_is : idle ≡ map is_idle (tasks_of twins)
  pub lone_is : lone ≡ map is_lone (tasks_of twins)
  pub running_is : running ≡ running_of (tasks_of twins)
  pub unfinished_is : unfinished ≡ sum_by lacks (tasks_of twins)
  pub least_dead_is : MatchOption least_dead (NoneDead (tasks_of twins)) (λ t. IsLeastDead (tasks_of twins) t)

-- v may be written in the place of task t, which isn't dead, and then so many attempts run
pub record MayPut (tasks : List Tried) (t : ℕ) (v : Tried) (running : ℕ) : Type 0 where
  pub below : t < length tasks
  pub alive : is_dead (tried_at tasks t) ≡ false
  pub done : is_done (tried_at tasks t) ≡ true → is_done v ≡ true
  pub numbered : IsNumbered v
  pub running_is : running ≡ running_of (slice_set tasks t v)
