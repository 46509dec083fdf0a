-- What the steps of a run tell of each task, where at most one attempt of a task runs at once.
use Rattle.std.proofs.Common.{◌≡◌, ℕ, ◌+◌, ◌<◌, ◌≤◌, ◌↔◌, ⊎_elim, Bool, true, false, cond, eqb, ◌||◌, ◌&&◌, Option, Some, None, List, [], ◌∷◌, ◌++◌, replicate, refl, sym, ap, ◌∙◌, subst, arith, eqb-true, add-zero}
use Rattle.std.proofs.lemmas.Bool.{cases_lt, cases_order, eq-eqb, false≢true}
use Rattle.std.proofs.lemmas.List.{append-nil, append_assoc, get_or-replicate, get_or_past, length-replicate}
use Rattle.std.proofs.lemmas.List.Sums.{fold_push, sum_by_push}
use Rattle.task_core.specs.Board.{Board, Step, Start, Refuse, End, Tried, Open, Finished, tried_at, has, without, running_in, is_done, is_success, started, refused, ended, after, after_all, fresh, MayStart, IsStepWhere, IsRunWhere, AtAnyTime}
use Rattle.task_core.specs.Rules.{rule_alone}
use Rattle.task_core.specs.Log.{is_success_of, successes_of, running_after, running_attempt}
use Rattle.task_core.specs.Laws.{AtMostOneSuccess, DoneByOneSuccess, OneMayStart, OneMayEnd, RunsUntilItEnds, EndsNameWhatRuns}
use Rattle.task_core.proofs.TriedLemmas.{below_from_next, below_from_runs, IsRunWhere-front, IsRunWhere-back}
use Rattle.task_core.proofs.History.{at_moved}

abbrev listed : Option ℕ → List ℕ
listed None = []
listed (Some a) = a ∷ []

record IsOpenSo (rs : List ℕ) (w : ℕ) (r : Option ℕ) : Type 0 where
  runs : rs ≡ listed r
  none : w ≡ 0

record IsDoneSo (n t : ℕ) (rs : List ℕ) (w : ℕ) (r : Option ℕ) : Type 0 where
  rest : rs ≡ []
  none : r ≡ None
  few : w ≤ 1
  one : t < n → w ≡ 1

-- a task after w successes, with attempt r running
abbrev IsSo : ℕ → ℕ → Tried → ℕ → Option ℕ → Type 0
IsSo n t (Open next rs) w r = IsOpenSo rs w r
IsSo n t (Finished rs) w r = IsDoneSo n t rs w r

abbrev number : Bool → ℕ
number b = cond b 1 0

same_so : (n t : ℕ) (v : Tried) (w : ℕ) (r : Option ℕ) → IsSo n t v w r → IsSo n t v (w + 0) r
same_so n t v w r k = subst (λ (x : ℕ). IsSo n t v x r) (sym (add-zero w)) k

start_so : (b : Bool) (n t a : ℕ) (v : Tried) (w : ℕ) (r : Option ℕ) → (b ≡ true → v ≡ Open a []) → IsSo n t v w r → IsSo n t (cond b (started a v) v) (w + 0) (cond b (Some a) r)
start_so true n t a v w r meets k =
    let is = meets refl in
    let here : IsSo n t (Open a []) w r = subst (λ (x : Tried). IsSo n t x w r) is k in
    let more : IsSo n t (Open (a + 1) (a ∷ [])) (w + 0) (Some a) = record { runs = refl; none = omega (arith, here.none) } in
    subst (λ (x : Tried). IsSo n t (started a x) (w + 0) (Some a)) (sym is) more
start_so false n t a v w r meets k = same_so n t v w r k

refuse_so : (b : Bool) (n t a : ℕ) (v : Tried) (w : ℕ) (r : Option ℕ) → (b ≡ true → v ≡ Open a []) → IsSo n t v w r → IsSo n t (cond b (refused a v) v) (w + 0) r
refuse_so true n t a v w r meets k =
    let is = meets refl in
    let here : IsSo n t (Open a []) w r = subst (λ (x : Tried). IsSo n t x w r) is k in
    let more : IsSo n t (Open (a + 1) []) (w + 0) r = record { runs = here.runs; none = omega (arith, here.none) } in
    subst (λ (x : Tried). IsSo n t (refused a x) (w + 0) r) (sym is) more
refuse_so false n t a v w r meets k = same_so n t v w r k

-- the attempt that ends is the one that runs
only : (a c : ℕ) → (eqb c a || false) ≡ true → c ≡ a
only a c is = same (eqb c a) refl is
  where
    same : (x : Bool) → eqb c a ≡ x → (x || false) ≡ true → c ≡ a
    same true equal or = eqb-true c a equal
    same false equal or = absurd (false≢true or)

that_one : (a : ℕ) (rs : List ℕ) (r : Option ℕ) → rs ≡ listed r → has a rs ≡ true → r ≡ Some a
that_one a rs None runs is = absurd (false≢true (sym (ap (has a) runs) ∙ is))
that_one a rs (Some c) runs is = ap Some (only a c (sym (ap (has a) runs) ∙ is))

none_left : (a : ℕ) (rs : List ℕ) (r : Option ℕ) → rs ≡ listed r → has a rs ≡ true → without a rs ≡ []
none_left a rs r runs is =
    let one : rs ≡ a ∷ [] = runs ∙ ap listed (that_one a rs r runs is) in
    ap (without a) one ∙ ap (λ (x : Bool). cond x [] (a ∷ [])) (eq-eqb a a refl)

end_so : (b ok : Bool) (n t a : ℕ) (v : Tried) (w : ℕ) (r : Option ℕ) → (b ≡ true → has a (running_in v) ≡ true) → IsSo n t v w r → IsSo n t (cond b (ended a ok v) v) (w + number (b && ok)) (cond b None r)
end_so true true n t a (Open next rs) w r runs k =
    record { rest = none_left a rs r k.runs (runs refl); none = refl; few = omega (arith, k.none); one = λ below. omega (arith, k.none) }
end_so true false n t a (Open next rs) w r runs k =
    record { runs = none_left a rs r k.runs (runs refl); none = omega (arith, k.none) }
end_so true ok n t a (Finished rs) w r runs k = absurd (false≢true (sym (ap (has a) k.rest) ∙ runs refl))
end_so false ok n t a v w r runs k = same_so n t v w r k

idle_at : (b : Board) (u a t : ℕ) → MayStart b u a → eqb u t ≡ true → tried_at b.tasks t ≡ Open a []
idle_at b u a t may same = ap (tried_at b.tasks) (sym (eqb-true u t same)) ∙ may.idle.is

so_step : (E : Board → Type 0) (b : Board) (n t : ℕ) (x : Step) (w : ℕ) (r : Option ℕ) → IsStepWhere MayStart E b x → IsSo n t (tried_at b.tasks t) w r → IsSo n t (tried_at (after b x).tasks t) (w + number (is_success_of t x)) (running_after t r x)
so_step E b n t (Start u a) w r may k =
    let next = rule_alone.next b u a may in
    subst (λ (v : Tried). IsSo n t v (w + 0) (cond (eqb u t) (Some a) r)) (sym (at_moved b.tasks u t (started a) (below_from_next b.tasks u a next))) (start_so (eqb u t) n t a (tried_at b.tasks t) w r (idle_at b u a t may) k)
so_step E b n t (Refuse u a) w r may k =
    let next = rule_alone.next b u a may in
    subst (λ (v : Tried). IsSo n t v (w + 0) r) (sym (at_moved b.tasks u t (refused a) (below_from_next b.tasks u a next))) (refuse_so (eqb u t) n t a (tried_at b.tasks t) w r (idle_at b u a t may) k)
so_step E b n t (End u a status) w r may k =
    let ok = is_success status in
    subst (λ (v : Tried). IsSo n t v (w + number (eqb u t && ok)) (cond (eqb u t) None r)) (sym (at_moved b.tasks u t (ended a ok) (below_from_runs b.tasks u a may.0))) (end_so (eqb u t) ok n t a (tried_at b.tasks t) w r (λ same. ap (λ (k : ℕ). has a (running_in (tried_at b.tasks k))) (sym (eqb-true u t same)) ∙ may.0) k)

abbrev IsToldSo : ℕ → ℕ → Board → List Step → Type 0
IsToldSo n t b xs = IsSo n t (tried_at b.tasks t) (successes_of t xs) (running_attempt t xs)

so_push : (E : Board → Type 0) (n t : ℕ) (b : Board) (xs : List Step) (x : Step) → IsStepWhere MayStart E b x → IsToldSo n t b xs → IsToldSo n t (after b x) (xs ++ x ∷ [])
so_push E n t b xs x may k =
    rw (sum_by_push (λ y. number (is_success_of t y)) xs x, fold_push (running_after t) None xs x)
    (so_step E b n t x (successes_of t xs) (running_attempt t xs) may k)

so_append : (E : Board → Type 0) (n t : ℕ) (b : Board) (xs ys : List Step) → IsRunWhere MayStart E b ys → IsToldSo n t b xs → IsToldSo n t (after_all b ys) (xs ++ ys)
so_append E n t b xs [] run k = subst (λ (l : List Step). IsToldSo n t b l) (sym (append-nil xs)) k
so_append E n t b xs (y ∷ ys) run k =
    subst (λ (l : List Step). IsToldSo n t (after_all (after b y) ys) l) (append_assoc xs (y ∷ []) ys) (so_append E n t (after b y) (xs ++ y ∷ []) ys run.1 (so_push E n t b xs y run.0 k))

so_fresh : (n slots t : ℕ) → IsToldSo n t (fresh n slots) []
so_fresh n slots t =
    ⊎_elim
    (λ (below : t < n). subst (λ (v : Tried). IsSo n t v 0 None) (sym (get_or-replicate n t (Open 1 []) (Finished []) below)) (record { runs = refl; none = refl }))
    (λ (over : n ≤ t). subst (λ (v : Tried). IsSo n t v 0 None) (sym (get_or_past (replicate n (Open 1 [])) t (Finished []) (omega (arith, over, length-replicate n (Open 1 []))))) (record { rest = refl; none = refl; few = omega arith; one = λ below. absurd (omega (arith, over, below)) }))
    (cases_lt t n)

so_run : (n slots t : ℕ) (xs : List Step) → IsRunWhere MayStart AtAnyTime (fresh n slots) xs → IsToldSo n t (after_all (fresh n slots) xs) xs
so_run n slots t xs run = so_append AtAnyTime n t (fresh n slots) [] xs run (so_fresh n slots t)

-- ---- the laws

few_of : (n t : ℕ) (v : Tried) (w : ℕ) (r : Option ℕ) → IsSo n t v w r → w ≤ 1
few_of n t (Open next rs) w r k = omega (arith, k.none)
few_of n t (Finished rs) w r k = k.few

pub at_most_one : AtMostOneSuccess
at_most_one n slots t xs run = few_of n t (tried_at (after_all (fresh n slots) xs).tasks t) (successes_of t xs) (running_attempt t xs) (so_run n slots t xs run)

done_iff : (n t : ℕ) (v : Tried) (w : ℕ) (r : Option ℕ) → t < n → IsSo n t v w r → (is_done v ≡ true) ↔ (w ≡ 1)
done_iff n t (Open next rs) w r below k = (λ done. absurd (false≢true done), λ one. absurd (omega (arith, one, k.none)))
done_iff n t (Finished rs) w r below k = (λ done. k.one below, λ one. refl)

pub done_by_one : DoneByOneSuccess
done_by_one n slots t xs run below = done_iff n t (tried_at (after_all (fresh n slots) xs).tasks t) (successes_of t xs) (running_attempt t xs) below (so_run n slots t xs run)

runs_iff : (n t a : ℕ) (v : Tried) (w : ℕ) (r : Option ℕ) → IsSo n t v w r → (has a (running_in v) ≡ true) ↔ (r ≡ Some a)
runs_iff n t a (Open next rs) w r k =
    (λ runs. that_one a rs r k.runs runs, λ is. ap (has a) (k.runs ∙ ap listed is) ∙ ap (λ (x : Bool). x || false) (eq-eqb a a refl))
runs_iff n t a (Finished rs) w r k =
    (λ runs. absurd (false≢true (sym (ap (has a) k.rest) ∙ runs)), λ is. let clash : None ≡ Some a = sym k.none ∙ is in cc)

pub runs_until : RunsUntilItEnds
runs_until n slots t a xs run = runs_iff n t a (tried_at (after_all (fresh n slots) xs).tasks t) (successes_of t xs) (running_attempt t xs) (so_run n slots t xs run)

pub ends_name : EndsNameWhatRuns
ends_name n slots t a status xs ys run =
    let front = IsRunWhere-front MayStart AtAnyTime (fresh n slots) xs (End t a status ∷ ys) run in
    let back = IsRunWhere-back MayStart AtAnyTime (fresh n slots) xs (End t a status ∷ ys) run in
    (runs_until n slots t a xs front).0 back.0.0

pub one_may_end : OneMayEnd
one_may_end n slots t a c xs run one other =
    let first = (runs_until n slots t a xs run).0 one in
    let second = (runs_until n slots t c xs run).0 other in
    let same : Some a ≡ Some c = sym first ∙ second in cc

same_number : (b : Board) (t a c : ℕ) → MayStart b t a → MayStart b t c → a ≡ c
same_number b t a c one other = let same : Open a [] ≡ Open c [] = sym one.idle.is ∙ other.idle.is in cc

pub one_may_start : OneMayStart
one_may_start b t a u c one other =
    ⊎_elim
    (λ (same : t ≡ u). (same, same_number b t a c one (subst (λ (k : ℕ). MayStart b k c) (sym same) other)))
    (λ differ. ⊎_elim (λ (less : t < u). absurd (other.least t a less one.idle)) (λ (more : u < t). absurd (one.least u c more other.idle)) differ)
    (cases_order t u)
