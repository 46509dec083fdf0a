-- The tasks of `Attempts`, and their board.
use Rattle.std.proofs.Common.{zero, suc, replicate, ◌≡◌, ◌≢◌, ℕ, ℤ, pos, ◌+◌, ◌<◌, ◌≤◌, ◌⊎◌, inl, ⊎_elim, Bool, true, false, eqb, ◌&&◌, ◌||◌, List, [], ◌∷◌, Option, Some, None, MatchOption, length, map, set, refl, sym, ap, ◌∙◌, arith, eqb-true, leb-true}
use Rattle.std.proofs.lemmas.Bool.{false≢true, cases_Bool, eq-eqb}
use Rattle.std.proofs.lemmas.List.{map-set, set-set, get_or_default}
use Rattle.std.proofs.lemmas.List.Sums.{sum_by-cons}
use Rattle.std.proofs.Math.ListN as N
use Rattle.std.proofs.Common.{get_or}
use Rattle.std.specs.Option.{is_some}
use Rattle.std.specs.Prelude.{nat_le, sum_by}
use Rattle.task_core.specs.declared.task.Task.{Task}
use Rattle.task_core.specs.declared.task.Task.TheVariants.{Ready, Running, Done, Dead}
use Rattle.task_core.specs.Sound.{tried_of, task_at, works, NotDead, IsLeastLost, IsLeastReady, AreNumbered}
use Rattle.task_core.specs.Board.{Board, Start, Refuse, End, Tried, Open, tried_at, with_tried, runs, running_of, running_in, has, without, Runs, is_dead, is_done, is_success, started, refused, ended, ended_open, AllDone, NoneDead, IsLeastDead, IsIdle, IsBusy, MayStart, after, fresh}
use Rattle.task_core.proofs.TriedLemmas.{set_same}
use Rattle.task_core.specs.Rules.{below_from_open}

abbrev pub tries : List Task → List Tried
tries tasks = map tried_of tasks

abbrev pub board_of : ℕ → List Task → Board
board_of slots tasks = record { slots = slots; tasks = tries tasks }

pub at_board : (tasks : List Task) (t : ℕ) → tried_at (tries tasks) t ≡ tried_of (task_at tasks t)
at_board tasks t = N.get_or-map tried_of tasks t Done

runs_same : (task : Task) → runs (tried_of task) ≡ works task
runs_same (Ready a) = refl
runs_same (Running a) = refl
runs_same Done = refl
runs_same Dead = refl

pub running_same : (tasks : List Task) → running_of (tries tasks) ≡ sum_by works tasks
running_same [] = refl
running_same (x ∷ xs) =
    let one = sum_by-cons runs (tried_of x) (map tried_of xs) in
    let two = sum_by-cons works x xs in
    omega (arith, one, two, running_same xs, runs_same x)

-- ---- dead and done tasks

alive_low : (a : ℕ) → a ≤ 4 → (nat_le 5 a && true) ≡ false
alive_low a few =
    ⊎_elim (λ (high : nat_le 5 a ≡ true). let five : 5 ≤ a = leb-true 5 a high in absurd (omega (arith, five, few))) (λ (low : nat_le 5 a ≡ false). rw low refl) (cases_Bool (nat_le 5 a))

alive_of : (task : Task) → ((a : ℕ) → (task ≡ Ready a) ⊎ (task ≡ Running a) → (1 ≤ a) × (a ≤ 4)) → task ≢ Dead → is_dead (tried_of task) ≡ false
alive_of (Ready a) numbered alive = alive_low a (numbered a (inl refl)).1
alive_of (Running a) numbered alive = false_and (nat_le 5 (a + 1))
  where
    false_and : (b : Bool) → (b && false) ≡ false
    false_and true = refl
    false_and false = refl
alive_of Done numbered alive = refl
alive_of Dead numbered alive = absurd (alive refl)

dead_of : (task : Task) → is_dead (tried_of task) ≡ false → task ≢ Dead
dead_of task alive is = cc_dead (rw is at alive)
  where
    cc_dead : is_dead (tried_of Dead) ≡ false → ⊥
    cc_dead e = cc

pub none_dead : (tasks : List Task) → AreNumbered tasks → NotDead tasks → NoneDead (tries tasks)
none_dead tasks numbered none t = ap is_dead (at_board tasks t) ∙ alive_of (task_at tasks t) (numbered t) (none t)

pub doomed_same : (o : Option ℕ) (tasks : List Task) → AreNumbered tasks → MatchOption o (NotDead tasks) (IsLeastLost tasks) → MatchOption o (NoneDead (tries tasks)) (λ t. IsLeastDead (tries tasks) t)
doomed_same None tasks numbered none = none_dead tasks numbered none
doomed_same (Some t) tasks numbered least = record {
  dead = ap is_dead (at_board tasks t) ∙ ap (λ (x : Task). is_dead (tried_of x)) least.dead;
  least = λ u before. ap is_dead (at_board tasks u) ∙ alive_of (task_at tasks u) (numbered u) (least.least u before);
}

done_of : (task : Task) → is_done (tried_of task) ≡ true → task ≡ Done
done_of (Ready a) done = absurd cc
done_of (Running a) done = absurd cc
done_of Done done = refl
done_of Dead done = absurd cc

pub all_done_from : (tasks : List Task) → ((t : ℕ) → task_at tasks t ≡ Done) → AllDone (tries tasks)
all_done_from tasks all t = ap is_done (at_board tasks t ∙ ap tried_of (all t))

pub all_done_back : (tasks : List Task) → AllDone (tries tasks) → (t : ℕ) → task_at tasks t ≡ Done
all_done_back tasks all t = done_of (task_at tasks t) (sym (ap is_done (at_board tasks t)) ∙ all t)

-- ---- which start may be made

ready_of : (task : Task) (a : ℕ) → a ≤ 4 → tried_of task ≡ Open a [] → task ≡ Ready a
ready_of (Ready b) a few is = let same : b ≡ a = cc in ap Ready same
ready_of (Running b) a few is = absurd cc
ready_of Done a few is = absurd cc
ready_of Dead a few is = let same : 5 ≡ a = cc in absurd (omega (arith, same, few))

pub idle_of : (tasks : List Task) (t a : ℕ) → AreNumbered tasks → task_at tasks t ≡ Ready a → IsIdle (tries tasks) t a
idle_of tasks t a numbered ready = record { is = at_board tasks t ∙ ap tried_of ready; left = (numbered t a (inl ready)).1 }

pub ready_from : (tasks : List Task) (t a : ℕ) → IsIdle (tries tasks) t a → task_at tasks t ≡ Ready a
ready_from tasks t a idle = ready_of (task_at tasks t) a idle.left (sym (at_board tasks t) ∙ idle.is)

-- the least idle task is the least ready one
pub least_ready : (slots : ℕ) (tasks : List Task) (t a : ℕ) → AreNumbered tasks → MayStart (board_of slots tasks) t a → IsLeastReady tasks t a
least_ready slots tasks t a numbered may =
    record {
      ready = ready_from tasks t a may.idle;
      least = λ u c before ready. may.least u c before (idle_of tasks u c numbered ready);
    }

pub may_board : (slots : ℕ) (tasks : List Task) (t a : ℕ) → AreNumbered tasks → IsLeastReady tasks t a → sum_by works tasks < slots → NotDead tasks → MayStart (board_of slots tasks) t a
may_board slots tasks t a numbered next free alive =
    record {
      free = record { slot = omega (arith, running_same tasks, free); none_dead = none_dead tasks numbered alive };
      idle = idle_of tasks t a numbered next.ready;
      least = λ u c before idle. next.least u c before (ready_from tasks u c idle);
    }

-- no slot is free
pub busy_full : (slots running : ℕ) (tasks : List Task) → running ≡ sum_by works tasks → slots ≤ running → IsBusy MayStart (board_of slots tasks)
busy_full slots running tasks running_is full t a may = absurd (omega (arith, running_same tasks, running_is, full, may.free.slot))

-- a task is dead
pub busy_dead : (slots : ℕ) (o : Option ℕ) (tasks : List Task) → is_some o ≡ true → MatchOption o (NotDead tasks) (IsLeastLost tasks) → IsBusy MayStart (board_of slots tasks)
busy_dead slots None tasks some dead t a may = absurd (false≢true some)
busy_dead slots (Some d) tasks some dead t a may =
    false≢true (sym (may.free.none_dead d) ∙ ap is_dead (at_board tasks d ∙ ap tried_of dead.dead))

-- no task is ready
pub busy_empty : (slots : ℕ) (tasks : List Task) → ((t a : ℕ) → task_at tasks t ≡ Ready a → ⊥) → IsBusy MayStart (board_of slots tasks)
busy_empty slots tasks none t a may = none t a (ready_from tasks t a may.idle)

-- ---- steps

pub set_board : (slots : ℕ) (tasks : List Task) (t : ℕ) (s : Task) (v : Tried) → tried_of s ≡ v → board_of slots (set tasks t s) ≡ with_tried (board_of slots tasks) t v
set_board slots tasks t s v is =
    ap (λ (l : List Tried). let b : Board = record { slots = slots; tasks = l } in b) (map-set tried_of tasks t s ∙ ap (set (tries tasks) t) is)

pub start_board : (slots : ℕ) (tasks : List Task) (t a b : ℕ) → IsIdle (tries tasks) t a → IsIdle (tries tasks) t b → board_of slots (set tasks t (Running b)) ≡ after (board_of slots tasks) (Start t a)
start_board slots tasks t a b idle other =
    let same : Open b [] ≡ Open a [] = sym other.is ∙ idle.is in
    let number : b ≡ a = cc in
    rw (number, idle.is) (set_board slots tasks t (Running a) (Open (a + 1) (a ∷ [])) refl)

-- the attempt that runs
running_from : (task : Task) (a : ℕ) → has a (running_in (tried_of task)) ≡ true → task ≡ Running a
running_from (Ready b) a is = absurd cc
running_from (Running b) a is = ap Running (same (eqb b a) refl is)
  where
    same : (x : Bool) → eqb b a ≡ x → (x || false) ≡ true → b ≡ a
    same true equal or = eqb-true b a equal
    same false equal or = absurd cc
running_from Done a is = absurd cc
running_from Dead a is = absurd cc

pub runs_from : (tasks : List Task) (t a : ℕ) → Runs (tries tasks) t a → task_at tasks t ≡ Running a
runs_from tasks t a runs' = running_from (task_at tasks t) a (sym (ap (λ (v : Tried). has a (running_in v)) (at_board tasks t)) ∙ runs')

pub runs_of : (tasks : List Task) (t a : ℕ) → task_at tasks t ≡ Running a → Runs (tries tasks) t a
runs_of tasks t a is =
    ap (λ (v : Tried). has a (running_in v)) (at_board tasks t ∙ ap tried_of is) ∙ ap (λ (x : Bool). x || false) (eq-eqb a a refl)

pub open_of : (tasks : List Task) (t a : ℕ) → task_at tasks t ≡ Running a → is_done (tried_at (tries tasks) t) ≡ false
open_of tasks t a is = ap is_done (at_board tasks t ∙ ap tried_of is)

none_other : (a : ℕ) → without a (a ∷ []) ≡ []
none_other a = rw (eq-eqb a a refl) refl

pub end_board : (slots : ℕ) (tasks : List Task) (t a b : ℕ) (status : ℤ) (s : Task) → task_at tasks t ≡ Running b → Runs (tries tasks) t a → tried_of s ≡ ended_open (b + 1) [] (is_success status) → board_of slots (set tasks t s) ≡ after (board_of slots tasks) (End t a status)
end_board slots tasks t a b status s is runs' after_is =
    let same : Running b ≡ Running a = sym is ∙ runs_from tasks t a runs' in
    let number : b ≡ a = cc in
    let here : task_at tasks t ≡ Running a = is ∙ same in
    rw (at_board tasks t, here, none_other a) (set_board slots tasks t s (ended_open (a + 1) [] (is_success status)) (rw number at after_is))

-- ---- a start that is refused

pub started_runs : (b : Board) (t a : ℕ) → IsIdle b.tasks t a → Runs (after b (Start t a)).tasks t a
started_runs b t a idle =
    let below = below_from_open b.tasks t a [] idle.is in
    let is : tried_at (after b (Start t a)).tasks t ≡ Open (a + 1) (a ∷ []) = set_same b.tasks t (started a (tried_at b.tasks t)) below ∙ ap (started a) idle.is in
    ap (λ (v : Tried). has a (running_in v)) is ∙ ap (λ (x : Bool). x || false) (eq-eqb a a refl)

pub started_then_failed : (b : Board) (t a : ℕ) → IsIdle b.tasks t a → after (after b (Start t a)) (End t a (pos 1)) ≡ after b (Refuse t a)
started_then_failed b t a idle =
    let below = below_from_open b.tasks t a [] idle.is in
    let is : tried_at (after b (Start t a)).tasks t ≡ Open (a + 1) (a ∷ []) = set_same b.tasks t (started a (tried_at b.tasks t)) below ∙ ap (started a) idle.is in
    let now : ended a false (tried_at (after b (Start t a)).tasks t) ≡ refused a (tried_at b.tasks t) = ap (ended a false) is ∙ ap (Open (a + 1)) (none_other a) ∙ sym (ap (refused a) idle.is) in
    ap (with_tried (after b (Start t a)) t) now ∙ ap (λ (l : List Tried). let k : Board = record { slots = b.slots; tasks = l } in k) (set-set b.tasks t (started a (tried_at b.tasks t)) (refused a (tried_at b.tasks t)))

-- ---- the beginning

map_fresh : (n : ℕ) → map tried_of (replicate n (Ready 1)) ≡ replicate n (Open 1 [])
map_fresh zero = refl
map_fresh (suc n) = map_more n ∙ ap (λ (l : List Tried). Open 1 [] ∷ l) (map_fresh n)
  where
    map_more : (n : ℕ) → map tried_of (replicate (suc n) (Ready 1)) ≡ Open 1 [] ∷ map tried_of (replicate n (Ready 1))
    map_more n = refl

pub fresh_same : (n slots : ℕ) (tasks : List Task) → tasks ≡ replicate n (Ready 1) → board_of slots tasks ≡ fresh n slots
fresh_same n slots tasks is = ap (λ (l : List Tried). let b : Board = record { slots = slots; tasks = l } in b) (ap (map tried_of) is ∙ map_fresh n)

-- a read at t
pub read_is : (tasks : List Task) (t : ℕ) (v : Task) → t < length tasks → v ≡ get_or tasks t v → v ≡ task_at tasks t
read_is tasks t v below read = read ∙ get_or_default tasks t v Done below
