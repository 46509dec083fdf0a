-- One machine for all runners of a phase: what each task has tried, and what each step makes of it. Runners differ in which attempt may be started.
use Rattle.std.specs.Prelude.{◌≡◌, ℕ, ℤ, pos, negsuc, ◌+◌, ◌<◌, ◌≤◌, ◌==◌, ◌&&◌, ◌||◌, Bool, true, false, nat_le, if◌then◌else◌, List, [], ◌∷◌, length, slice_index_or, slice_set, replicate, sum_by}

-- what a task has tried: it is open, and this is the number of its next attempt and these attempts run; or an attempt has succeeded, and these still run
pub data Tried : Type 0 where
  Open : ℕ → List ℕ → Tried
  Finished : List ℕ → Tried

-- how many attempts may run at once, and the tasks in the order of their numbers, from 0
pub record Board : Type 0 where
  pub slots : ℕ
  pub tasks : List Tried

-- the task of this number; a number past the last task counts as finished
abbrev pub tried_at : List Tried → ℕ → Tried
tried_at tasks t = slice_index_or tasks t (Finished [])

abbrev pub with_tried : Board → ℕ → Tried → Board
with_tried b t v = record { slots = b.slots; tasks = slice_set b.tasks t v }

-- each of so many tasks is untried
abbrev pub fresh : ℕ → ℕ → Board
fresh tasks slots = record { slots = slots; tasks = replicate tasks (Open 1 []) }

-- ---- what runs

abbrev pub running_in : Tried → List ℕ
running_in (Open n rs) = rs
running_in (Finished rs) = rs

abbrev pub has : ℕ → List ℕ → Bool
has a [] = false
has a (b ∷ bs) = b == a || has a bs

abbrev pub without : ℕ → List ℕ → List ℕ
without a [] = []
without a (b ∷ bs) = if b == a then bs else b ∷ without a bs

-- attempt a of task t runs
abbrev pub Runs : List Tried → ℕ → ℕ → Type 0
Runs tasks t a = has a (running_in (tried_at tasks t)) ≡ true

abbrev pub runs : Tried → ℕ
runs v = length (running_in v)

-- how many attempts run
abbrev pub running_of : List Tried → ℕ
running_of tasks = sum_by runs tasks

-- ---- done and dead

abbrev pub is_done : Tried → Bool
is_done (Open n rs) = false
is_done (Finished rs) = true

-- four attempts failed: none is left, and none runs
abbrev pub is_dead : Tried → Bool
is_dead (Open n rs) = nat_le 5 n && length rs == 0
is_dead (Finished rs) = false

abbrev pub AllDone : List Tried → Type 0
AllDone tasks = (t : ℕ) → is_done (tried_at tasks t) ≡ true

abbrev pub NoneDead : List Tried → Type 0
NoneDead tasks = (t : ℕ) → is_dead (tried_at tasks t) ≡ false

pub record IsLeastDead (tasks : List Tried) (t : ℕ) : Type 0 where
  pub dead : is_dead (tried_at tasks t) ≡ true
  pub least : (u : ℕ) → u < t → is_dead (tried_at tasks u) ≡ false

-- ---- steps

-- what happens to an attempt of a task: it starts, its start is refused, or it ends with a status
pub data Step : Type 0 where
  Start : ℕ → ℕ → Step
  Refuse : ℕ → ℕ → Step
  End : ℕ → ℕ → ℤ → Step

-- status 0 alone is success
abbrev pub is_success : ℤ → Bool
is_success (pos n) = n == 0
is_success (negsuc n) = false

abbrev pub started : ℕ → Tried → Tried
started a (Open n rs) = Open (a + 1) (a ∷ rs)
started a (Finished rs) = Finished (a ∷ rs)

abbrev pub refused : ℕ → Tried → Tried
refused a (Open n rs) = Open (a + 1) rs
refused a (Finished rs) = Finished rs

abbrev pub ended_open : ℕ → List ℕ → Bool → Tried
ended_open n rs true = Finished rs
ended_open n rs false = Open n rs

abbrev pub ended : ℕ → Bool → Tried → Tried
ended a ok (Open n rs) = ended_open n (without a rs) ok
ended a ok (Finished rs) = Finished (without a rs)

-- whether a task becomes done by the end of an attempt: by the first success alone
abbrev pub becomes_done : Tried → Bool → Bool
becomes_done (Open n rs) ok = ok
becomes_done (Finished rs) ok = false

abbrev pub after : Board → Step → Board
after b (Start t a) = with_tried b t (started a (tried_at b.tasks t))
after b (Refuse t a) = with_tried b t (refused a (tried_at b.tasks t))
after b (End t a status) = with_tried b t (ended a (is_success status) (tried_at b.tasks t))

abbrev pub after_all : Board → List Step → Board
after_all b [] = b
after_all b (x ∷ xs) = after_all (after b x) xs

-- ---- which attempt may be started

-- a slot is free, and no task is dead
pub record IsFree (b : Board) : Type 0 where
  pub slot : running_of b.tasks < b.slots
  pub none_dead : NoneDead b.tasks

-- a task of which nothing runs and that has an attempt left, and its number
pub record IsIdle (tasks : List Tried) (t a : ℕ) : Type 0 where
  pub is : tried_at tasks t ≡ Open a []
  pub left : a ≤ 4

-- attempt a of task t may be started, where at most one attempt of a task runs at once: it is the next of the least idle task
pub record MayStart (b : Board) (t a : ℕ) : Type 0 where
  pub free : IsFree b
  pub idle : IsIdle b.tasks t a
  pub least : (u c : ℕ) → u < t → IsIdle b.tasks u c → ⊥

-- ---- runs, by which attempt S lets start

-- which attempt of which task may be started
abbrev pub Rule : Type 1
Rule = Board → ℕ → ℕ → Type 0

-- nothing may be started
abbrev pub IsBusy : Rule → Board → Type 0
IsBusy S b = (t a : ℕ) → S b t a → ⊥

-- the step may be made, and an end only in a state of which E holds
abbrev pub IsStepWhere : Rule → (Board → Type 0) → Board → Step → Type 0
IsStepWhere S E b (Start t a) = S b t a
IsStepWhere S E b (Refuse t a) = S b t a
IsStepWhere S E b (End t a status) = Runs b.tasks t a × E b

abbrev pub IsRunWhere : Rule → (Board → Type 0) → Board → List Step → Type 0
IsRunWhere S E b [] = Unit {0}
IsRunWhere S E b (x ∷ xs) = IsStepWhere S E b x × IsRunWhere S E (after b x) xs

abbrev pub AtAnyTime : Board → Type 0
AtAnyTime b = Unit {0}

abbrev pub IsRun : Rule → Board → List Step → Type 0
IsRun S b xs = IsRunWhere S AtAnyTime b xs

-- no slot is left free while an attempt may be started
abbrev pub IsBusyRun : Rule → Board → List Step → Type 0
IsBusyRun S b xs = IsRunWhere S (IsBusy S) b xs

-- ---- what holds of the tasks at any time

-- attempts are numbered from 1, and those that run were made
abbrev pub AreMade : ℕ → List ℕ → Type 0
AreMade n rs = (a : ℕ) → has a rs ≡ true → (1 ≤ a) × (a < n)

abbrev pub IsNumbered : Tried → Type 0
IsNumbered (Open n rs) = (1 ≤ n) × (n ≤ 5) × AreMade n rs
IsNumbered (Finished rs) = AreMade 5 rs

abbrev pub AreNumbered : List Tried → Type 0
AreNumbered tasks = (t : ℕ) → IsNumbered (tried_at tasks t)

-- ---- what each runner keeps to

-- attempt a is the next of task t, which is open, and one of four
pub record IsNext (tasks : List Tried) (t a : ℕ) : Type 0 where
  pub running : List ℕ
  pub is : tried_at tasks t ≡ Open a running
  pub left : a ≤ 4

-- what each rule keeps to: only such attempts are started, and none once a task is dead; and where nothing runs, nothing may be started and no task is dead, each task is done
pub record IsRule (S : Rule) : Type 0 where
  pub next : (b : Board) (t a : ℕ) → S b t a → IsNext b.tasks t a
  pub alive : (b : Board) (t a : ℕ) → S b t a → NoneDead b.tasks
  pub rests : (b : Board) → 1 ≤ b.slots → AreNumbered b.tasks → running_of b.tasks ≡ 0 → IsBusy S b → NoneDead b.tasks → AllDone b.tasks

abbrev pub IsStep : Rule → Board → Step → Type 0
IsStep S b x = IsStepWhere S AtAnyTime b x
