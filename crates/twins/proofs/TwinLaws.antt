-- How many attempts of a task run at once, and which one may be started.
use Rattle.std.proofs.Common.{◌≡◌, ℕ, ◌<◌, ◌≤◌, inl, inr, ⊎_elim, Bool, true, false, cond, eqb, List, [], ◌∷◌, length, set, sym, ◌∙◌, subst, arith}
use Rattle.std.proofs.lemmas.Bool.{cases_order}
use Rattle.task_core.specs.Board.{Board, Step, Start, Refuse, End, Tried, Open, Finished, tried_at, runs, started, refused, ended, is_success, after, after_all, fresh, IsRun, IsStep}
use Rattle.task_core.specs.Rules.{tried_at-set}
use Rattle.task_core.proofs.OneAtOnce.{one_may_start}
use Rattle.task_core.proofs.TriedLemmas.{below_from_next, below_from_runs, ended_runs, fresh_at}
use Rattle.twins.specs.Rules.{IsLone, MayStartSecond, MayStartTwin}
use Rattle.twins.specs.Laws.{AtMostTwoRun, OneTwinMayStart}
use Rattle.twins.proofs.TwinLemmas.{next_twin}

-- ---- at most two attempts of a task run

abbrev AreFew : Board → Type 0
AreFew b = (t : ℕ) → runs (tried_at b.tasks t) ≤ 2

few_of : (same : Bool) (v w : Tried) → runs v ≤ 2 → runs w ≤ 2 → runs (cond same v w) ≤ 2
few_of true v w one other = one
few_of false v w one other = other

few_set : (b : Board) (u t : ℕ) (v : Tried) → u < length b.tasks → runs v ≤ 2 → AreFew b → runs (tried_at (set b.tasks u v) t) ≤ 2
few_set b u t v below few all = rw (tried_at-set b.tasks u t v below) (few_of (eqb u t) v (tried_at b.tasks t) few (all t))

few_started : (v : Tried) (a : ℕ) (rs : List ℕ) → v ≡ Open a rs → length rs ≤ 1 → runs (started a v) ≤ 2
few_started v a rs is few = rw is (let more : length (a ∷ rs) ≤ 2 = omega (arith, few) in more)

few_refused : (v : Tried) (a : ℕ) (rs : List ℕ) → v ≡ Open a rs → length rs ≤ 1 → runs (refused a v) ≤ 2
few_refused v a rs is few = rw is (let same : length rs ≤ 2 = omega (arith, few) in same)

few_after : (b : Board) (x : Step) → IsStep MayStartTwin b x → AreFew b → AreFew (after b x)
few_after b (Start u a) may all t =
    let next = next_twin b u a may in
    few_set b u t (started a (tried_at b.tasks u)) (below_from_next b.tasks u a next.0) (few_started (tried_at b.tasks u) a next.0.running next.0.is next.1) all
few_after b (Refuse u a) may all t =
    let next = next_twin b u a may in
    few_set b u t (refused a (tried_at b.tasks u)) (below_from_next b.tasks u a next.0) (few_refused (tried_at b.tasks u) a next.0.running next.0.is next.1) all
few_after b (End u a status) may all t =
    let less = ended_runs (tried_at b.tasks u) a (is_success status) may.0 in
    few_set b u t (ended a (is_success status) (tried_at b.tasks u)) (below_from_runs b.tasks u a may.0) (omega (arith, less, all u)) all

few_after_all : (b : Board) (steps : List Step) → IsRun MayStartTwin b steps → AreFew b → AreFew (after_all b steps)
few_after_all b [] run all = all
few_after_all b (x ∷ xs) run all = few_after_all (after b x) xs run.1 (few_after b x run.0 all)

few_fresh : (n slots : ℕ) → AreFew (fresh n slots)
few_fresh n slots t =
    ⊎_elim
    (λ (is : tried_at (fresh n slots).tasks t ≡ Open 1 []). rw is (let none : 0 ≤ 2 = omega arith in none))
    (λ (is : tried_at (fresh n slots).tasks t ≡ Finished []). rw is (let none : 0 ≤ 2 = omega arith in none))
    (fresh_at n t)

pub at_most_two_run : AtMostTwoRun
at_most_two_run tasks slots t steps run = few_after_all (fresh tasks slots) steps run (few_fresh tasks slots) t

-- ---- one attempt may be started

same_lone : (tasks : List Tried) (t a c : ℕ) → IsLone tasks t a → IsLone tasks t c → a ≡ c
same_lone tasks t a c one other = let same : Open a (one.one ∷ []) ≡ Open c (other.one ∷ []) = sym one.is ∙ other.is in cc

one_second : (b : Board) (t a u c : ℕ) → MayStartSecond b t a → MayStartSecond b u c → (t ≡ u) × (a ≡ c)
one_second b t a u c one other =
    ⊎_elim
    (λ (same : t ≡ u). (same, same_lone b.tasks t a c one.lone (subst (λ (k : ℕ). IsLone b.tasks k c) (sym same) other.lone)))
    (λ differ. ⊎_elim (λ (less : t < u). absurd (other.least t a less one.lone)) (λ (more : u < t). absurd (one.least u c more other.lone)) differ)
    (cases_order t u)

pub one_twin_may_start : OneTwinMayStart
one_twin_may_start b t a u c (inl one) (inl other) = one_may_start b t a u c one other
one_twin_may_start b t a u c (inl one) (inr other) = absurd (other.none_idle t a one.idle)
one_twin_may_start b t a u c (inr one) (inl other) = absurd (one.none_idle u c other.idle)
one_twin_may_start b t a u c (inr one) (inr other) = one_second b t a u c one other
