-- The laws of every machine of attempts.
use Rattle.std.proofs.Common.{◌≡◌, ℕ, ◌+◌, ◌≤◌, Bool, true, false, cond, eqb, ◌&&◌, List, [], ◌∷◌, refl, sym, ap, ◌∙◌, subst, arith, eqb-true}
use Rattle.std.proofs.lemmas.Bool.{cases_Bool, false≢true, and_parts}
use Rattle.std.proofs.Common.{⊎_elim}
use Rattle.std.proofs.lemmas.List.Sums.{sum_by-cons}
use Rattle.task_core.specs.Log.{is_attempt, attempts_of, failures_of, successes_of}
use Rattle.task_core.specs.Board.{Rule, IsRule, Board, Step, Start, Refuse, End, is_success, Tried, Open, Finished, tried_at, has, running_in, is_dead, is_done, becomes_done, started, refused, ended, fresh, after, after_all, IsRun, IsStep, IsNext, AtAnyTime}
use Rattle.task_core.specs.Laws.{AtMostFourAttempts, DeadByFourFailures, NothingStartsAfterDeath, DoneAtMostOnce, DoneBySuccess, StartsCountUp, RefusalsCountUp, RunsEnd, is_first, firsts_of}
use Rattle.task_core.proofs.TriedLemmas.{below_from_next, below_from_runs, alive_running, IsRunWhere-front, IsRunWhere-back}
use Rattle.task_core.proofs.History.{Counts, tells_run, most_counts, dead_counts, alive_counts, done_counts, at_moved, few_attempts, few_steps}

pub four_at_most : (S : Rule) → IsRule S → AtMostFourAttempts S
four_at_most S rule n slots t xs run =
    most_counts n t (tried_at (after_all (fresh n slots) xs).tasks t) _ (failures_of t xs) (successes_of t xs) (tells_run S rule AtAnyTime n slots t xs run)

pub dead_by_four : (S : Rule) → IsRule S → DeadByFourFailures S
dead_by_four S rule n slots t xs run =
    let v = tried_at (after_all (fresh n slots) xs).tasks t in
    let told = tells_run S rule AtAnyTime n slots t xs run in (
      λ dead. (dead_counts n t v (attempts_of t xs) (failures_of t xs) (successes_of t xs) dead told).0,
      λ four. ⊎_elim (λ (dead : is_dead v ≡ true). dead) (λ (alive : is_dead v ≡ false). let few = alive_counts n t v (attempts_of t xs) (failures_of t xs) (successes_of t xs) alive told in absurd (omega (arith, few, four))) (cases_Bool (is_dead v)),
    )

-- ---- done once

abbrev number : Bool → ℕ
number b = cond b 1 0

end_done : (v : Tried) (a : ℕ) (ok : Bool) → is_done v ≡ true → is_done (ended a ok v) ≡ true
end_done (Open n rs) a ok done = absurd (false≢true done)
end_done (Finished rs) a ok done = refl

first_done : (v : Tried) (a : ℕ) (ok : Bool) → becomes_done v ok ≡ true → is_done (ended a ok v) ≡ true
first_done (Open n rs) a true first = refl
first_done (Open n rs) a false first = absurd (false≢true first)
first_done (Finished rs) a ok first = absurd (false≢true first)

none_done : (v : Tried) (ok : Bool) → is_done v ≡ true → becomes_done v ok ≡ false
none_done (Open n rs) ok done = absurd (false≢true done)
none_done (Finished rs) ok done = refl

either : (b : Bool) (v w : Tried) → is_done v ≡ true → is_done w ≡ true → is_done (cond b v w) ≡ true
either true v w one other = one
either false v w one other = other

start_done : (v : Tried) (a : ℕ) → is_done v ≡ true → is_done (started a v) ≡ true
start_done (Open n rs) a done = absurd (false≢true done)
start_done (Finished rs) a done = refl

refuse_done : (v : Tried) (a : ℕ) → is_done v ≡ true → is_done (refused a v) ≡ true
refuse_done (Open n rs) a done = absurd (false≢true done)
refuse_done (Finished rs) a done = refl

stays_done : (S : Rule) → IsRule S → (b : Board) (t : ℕ) (x : Step) → IsStep S b x → is_done (tried_at b.tasks t) ≡ true → is_done (tried_at (after b x).tasks t) ≡ true
stays_done S rule b t (Start u a) may done =
    ap is_done (at_moved b.tasks u t (started a) (below_from_next b.tasks u a (rule.next b u a may))) ∙ either (eqb u t) (started a (tried_at b.tasks t)) (tried_at b.tasks t) (start_done (tried_at b.tasks t) a done) done
stays_done S rule b t (Refuse u a) may done =
    ap is_done (at_moved b.tasks u t (refused a) (below_from_next b.tasks u a (rule.next b u a may))) ∙ either (eqb u t) (refused a (tried_at b.tasks t)) (tried_at b.tasks t) (refuse_done (tried_at b.tasks t) a done) done
stays_done S rule b t (End u a status) may done =
    let ok = is_success status in
    ap is_done (at_moved b.tasks u t (ended a ok) (below_from_runs b.tasks u a may.0)) ∙ either (eqb u t) (ended a ok (tried_at b.tasks t)) (tried_at b.tasks t) (end_done (tried_at b.tasks t) a ok done) done

-- by this step it becomes done, and then it is
first_makes : (b : Board) (t : ℕ) (S : Rule) (x : Step) → IsStep S b x → is_first t b x ≡ true → is_done (tried_at (after b x).tasks t) ≡ true
first_makes b t S (Start u a) may first = absurd (false≢true first)
first_makes b t S (Refuse u a) may first = absurd (false≢true first)
first_makes b t S (End u a status) may first =
    let ok = is_success status in
    let parts = and_parts (eqb u t) (becomes_done (tried_at b.tasks u) ok) first in
    let here : becomes_done (tried_at b.tasks t) ok ≡ true = subst (λ (k : ℕ). becomes_done (tried_at b.tasks k) ok ≡ true) (eqb-true u t parts.0) parts.1 in
    ap is_done (at_moved b.tasks u t (ended a ok) (below_from_runs b.tasks u a may.0)) ∙ ap (λ (x : Bool). is_done (cond x (ended a ok (tried_at b.tasks t)) (tried_at b.tasks t))) parts.0 ∙ first_done (tried_at b.tasks t) a ok here

-- a task that is done doesn't become done
first_late : (b : Board) (t : ℕ) (x : Step) → is_done (tried_at b.tasks t) ≡ true → is_first t b x ≡ false
first_late b t (Start u a) done = refl
first_late b t (Refuse u a) done = refl
first_late b t (End u a status) done = late (eqb u t) refl
  where
    late : (x : Bool) → eqb u t ≡ x → (x && becomes_done (tried_at b.tasks u) (is_success status)) ≡ false
    late true same = none_done (tried_at b.tasks u) (is_success status) (ap (λ (k : ℕ). is_done (tried_at b.tasks k)) (eqb-true u t same) ∙ done)
    late false same = refl

none_more : (S : Rule) → IsRule S → (t : ℕ) (b : Board) (xs : List Step) → IsRun S b xs → is_done (tried_at b.tasks t) ≡ true → firsts_of t b xs ≡ 0
none_more S rule t b [] run done = refl
none_more S rule t b (x ∷ xs) run done =
    let rest = none_more S rule t (after b x) xs run.1 (stays_done S rule b t x run.0 done) in
    let late : number (is_first t b x) ≡ 0 = ap number (first_late b t x done) in
    omega (arith, late, rest)

once_step : (S : Rule) → IsRule S → (t : ℕ) (b : Board) (x : Step) (xs : List Step) → IsStep S b x → IsRun S (after b x) xs → firsts_of t (after b x) xs ≤ 1 → (y : Bool) → is_first t b x ≡ y → number y + firsts_of t (after b x) xs ≤ 1
once_step S rule t b x xs may run few true first =
    let rest = none_more S rule t (after b x) xs run (first_makes b t S x may first) in omega (arith, rest)
once_step S rule t b x xs may run few false first = omega (arith, few)

once : (S : Rule) → IsRule S → (t : ℕ) (b : Board) (xs : List Step) → IsRun S b xs → firsts_of t b xs ≤ 1
once S rule t b [] run = omega arith
once S rule t b (x ∷ xs) run =
    once_step S rule t b x xs run.0 run.1 (once S rule t (after b x) xs run.1) (is_first t b x) refl

pub done_once : (S : Rule) → IsRule S → DoneAtMostOnce S
done_once S rule n slots t xs run = once S rule t (fresh n slots) xs run

-- ---- dead for good

dead_stays : (b : Board) (t u a : ℕ) (ok : Bool) → (y : Bool) → eqb u t ≡ y → has a (running_in (tried_at b.tasks u)) ≡ true → is_dead (tried_at b.tasks t) ≡ true → is_dead (cond y (ended a ok (tried_at b.tasks t)) (tried_at b.tasks t)) ≡ true
dead_stays b t u a ok true same runs dead =
    let here : has a (running_in (tried_at b.tasks t)) ≡ true = subst (λ (k : ℕ). has a (running_in (tried_at b.tasks k)) ≡ true) (eqb-true u t same) runs in
    absurd (false≢true (sym (alive_running (tried_at b.tasks t) a here) ∙ dead))
dead_stays b t u a ok false same runs dead = dead

dead_allows : (S : Rule) → IsRule S → (b : Board) (t : ℕ) (x : Step) → is_dead (tried_at b.tasks t) ≡ true → IsStep S b x → (is_attempt x ≡ false) × (is_dead (tried_at (after b x).tasks t) ≡ true)
dead_allows S rule b t (Start u a) dead may = absurd (false≢true (sym (rule.alive b u a may t) ∙ dead))
dead_allows S rule b t (Refuse u a) dead may = absurd (false≢true (sym (rule.alive b u a may t) ∙ dead))
dead_allows S rule b t (End u a status) dead may =
    let ok = is_success status in
    (refl, ap is_dead (at_moved b.tasks u t (ended a ok) (below_from_runs b.tasks u a may.0)) ∙ dead_stays b t u a ok (eqb u t) refl may.0 dead)

pub nothing_starts : (S : Rule) → IsRule S → NothingStartsAfterDeath S
nothing_starts S rule b t [] dead run = refl
nothing_starts S rule b t (x ∷ xs) dead run =
    let here = dead_allows S rule b t x dead run.0 in
    let rest = nothing_starts S rule (after b x) t xs here.1 run.1 in
    let none : number (is_attempt x) ≡ 0 = ap number here.0 in
    omega (arith, sum_by-cons (λ y. number (is_attempt y)) x xs, none, rest)

-- ---- what a list of steps tells

success_done : (n t : ℕ) (v : Tried) (c f w : ℕ) → 1 ≤ w → Counts n t v c f w → is_done v ≡ true
success_done n t (Open next rs) c f w some k = absurd (omega (arith, some, k.none))
success_done n t (Finished rs) c f w some k = refl

pub done_by_success : (S : Rule) → IsRule S → DoneBySuccess S
done_by_success S rule n slots t xs run below =
    let v = tried_at (after_all (fresh n slots) xs).tasks t in
    let told = tells_run S rule AtAnyTime n slots t xs run in (
      λ done. done_counts n t v (attempts_of t xs) (failures_of t xs) (successes_of t xs) done below told,
      λ some. success_done n t v (attempts_of t xs) (failures_of t xs) (successes_of t xs) some told,
    )

next_number : (n t : ℕ) (tasks : Board) (a c f w : ℕ) → IsNext tasks.tasks t a → Counts n t (tried_at tasks.tasks t) c f w → a ≡ c + 1
next_number n t b a c f w next told =
    let here : Counts n t (Open a next.running) c f w = subst (λ (v : Tried). Counts n t v c f w) next.is told in here.next

pub starts_count_up : (S : Rule) → IsRule S → StartsCountUp S
starts_count_up S rule n slots t a xs ys run =
    let front = IsRunWhere-front S AtAnyTime (fresh n slots) xs (Start t a ∷ ys) run in
    let back = IsRunWhere-back S AtAnyTime (fresh n slots) xs (Start t a ∷ ys) run in
    let b = after_all (fresh n slots) xs in
    next_number n t b a (attempts_of t xs) (failures_of t xs) (successes_of t xs) (rule.next b t a back.0) (tells_run S rule AtAnyTime n slots t xs front)

pub refusals_count_up : (S : Rule) → IsRule S → RefusalsCountUp S
refusals_count_up S rule n slots t a xs ys run =
    let front = IsRunWhere-front S AtAnyTime (fresh n slots) xs (Refuse t a ∷ ys) run in
    let back = IsRunWhere-back S AtAnyTime (fresh n slots) xs (Refuse t a ∷ ys) run in
    let b = after_all (fresh n slots) xs in
    next_number n t b a (attempts_of t xs) (failures_of t xs) (successes_of t xs) (rule.next b t a back.0) (tells_run S rule AtAnyTime n slots t xs front)

pub runs_end : (S : Rule) → IsRule S → RunsEnd S
runs_end S rule n slots xs run = (few_attempts S rule AtAnyTime n slots xs run, few_steps S rule AtAnyTime n slots xs run)
