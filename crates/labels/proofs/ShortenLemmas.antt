-- Each label lowered to the label of the node that it names.
use Rattle.std.proofs.Common.{◌≡◌, ◌≢◌, ℕ, zero, suc, ◌+◌, ◌<◌, ◌≤◌, ◌⊎◌, List, [], ◌∷◌, length, get_or, sum, refl, sym, ap, subst, ◌∙◌, inl, inr, arith, zero-le}
use Rattle.std.proofs.Math.ListN.{set}
use Rattle.std.proofs.lemmas.Bool.{cases_lt, cases_eq}
use Rattle.std.proofs.lemmas.List.{get_or-set_same, get_or-set_other}
use Rattle.std.proofs.lemmas.List.Sums.{sum_by-cons}
use Rattle.graph.specs.declared.edges.Edge.{Edge}
use Rattle.graph.specs.Walks.{Reaches}
use Rattle.graph.specs.Laws.{AreReached}
use Rattle.graph.proofs.WalkLemmas.{Reaches-trans}
use Rattle.labels.specs.Labels.{AreLow, IsShortened, Shortens}

pub shortens_none : (before : List ℕ) → Shortens 0 before before
shortens_none before = record { shortened = λ i lt. absurd (omega arith); others = λ i le. refl; lower = λ i. omega arith }

module _ (before now : List ℕ) (k : ℕ) (low : AreLow before) (had : Shortens k before now) (in_now : k < length now) (in_before : k < length before) where
  after : List ℕ
  after = set now k (get_or now (get_or now k 0) 0)

  label_is : get_or now k 0 ≡ get_or before k 0
  label_is = had.others k (omega arith)

  after_here : get_or after k 0 ≡ get_or now (get_or before k 0) 0
  unfolding after
  after_here = get_or-set_same now k (get_or now (get_or now k 0) 0) 0 in_now ∙ ap (λ j. get_or now j 0) label_is

  after_other : (i : ℕ) → i ≢ k → get_or after i 0 ≡ get_or now i 0
  unfolding after
  after_other i other = get_or-set_other now k i (get_or now (get_or now k 0) 0) 0 other

  shortened_here : IsShortened before after k
  shortened_here =
      let le : get_or before k 0 ≤ k = low k in_before in
      elim (cases_lt (get_or before k 0) k) [
        | inl lt ↦ inr (lt, after_here ∙ sym (after_other (get_or before k 0) (λ same. absurd (omega arith))))
        | inr ge ↦
            let itself : get_or before k 0 ≡ k = omega arith in
            inl (after_here ∙ ap (λ j. get_or now j 0) itself ∙ label_is)
      ]

  shortened_before : (i : ℕ) → i < k → IsShortened before now i → IsShortened before after i
  shortened_before i lt (inl stays) = inl (after_other i (λ same. absurd (omega arith)) ∙ stays)
  shortened_before i lt (inr falls) =
      inr (falls.0, after_other i (λ same. absurd (omega arith)) ∙ falls.1 ∙ sym (after_other (get_or before i 0) (λ same. absurd (omega (arith, falls.0)))))

  lower_here : get_or now (get_or before k 0) 0 ≤ get_or before k 0
  lower_here =
      let le : get_or before k 0 ≤ k = low k in_before in
      omega (arith, had.lower (get_or before k 0), low (get_or before k 0) (omega arith))

  pub shortens_more : Shortens (k + 1) before (set now k (get_or now (get_or now k 0) 0))
  unfolding after
  shortens_more = record {
    shortened = λ i lt. elim (cases_eq i k) [
      | inl same ↦ subst (IsShortened before after) (sym same) shortened_here
      | inr other ↦ shortened_before i (omega arith) (had.shortened i (omega arith))
    ];
    others = λ i le. after_other i (λ same. absurd (omega arith)) ∙ had.others i (omega arith);
    lower = λ i. elim (cases_eq i k) [
      | inl same ↦ subst (λ j. get_or after j 0 ≤ get_or before j 0) (sym same) (omega (arith, after_here, lower_here))
      | inr other ↦ omega (arith, after_other i other, had.lower i)
    ];
  }

-- shortened labels are reached

module _ (n : ℕ) (edges : List Edge) (before now : List ℕ) (had : AreReached n edges (λ i. get_or before i 0)) (shortens : Shortens n before now) where
  reached_from : (i : ℕ) → i < n → Reaches edges (get_or before i 0) (get_or now (get_or before i 0) 0) ⊎ (i ≤ get_or before i 0) → IsShortened before now i → Reaches edges i (get_or now i 0)
  reached_from i lt further (inl stays) = subst (Reaches edges i) (sym stays) (had.reached i lt)
  reached_from i lt (inl on) (inr falls) = subst (Reaches edges i) (sym falls.1) (Reaches-trans (had.reached i lt) on)
  reached_from i lt (inr stuck) (inr falls) = absurd (omega (arith, falls.0))

  reached_below : (m i : ℕ) → i < m → i < n → Reaches edges i (get_or now i 0)
  reached_below zero i less lt = absurd (omega arith)
  reached_below (suc m) i less lt =
      reached_from i lt
      (elim (cases_lt (get_or before i 0) i) [ inl falls ↦ inl (reached_below m (get_or before i 0) (omega arith) (omega arith)) | inr stuck ↦ inr stuck ])
      (shortens.shortened i lt)

  pub shortened_reached : AreReached n edges (λ i. get_or now i 0)
  shortened_reached = record {
    reached = λ i lt. reached_below n i lt lt;
    low = λ i lt. omega (arith, shortens.lower i, had.low i lt);
  }

-- a list that is nowhere greater has no greater sum
pub sum-le : (xs ys : List ℕ) → length xs ≡ length ys → ((i : ℕ) → get_or xs i 0 ≤ get_or ys i 0) → sum xs ≤ sum ys
sum-le [] ys same le = zero-le
sum-le (x ∷ xs) [] same le = absurd (omega arith)
sum-le (x ∷ xs) (y ∷ ys) same le =
    omega
    (arith, sum_by-cons (λ k. k) x xs, sum_by-cons (λ k. k) y ys, le 0, sum-le xs ys (omega arith) (λ i. le (suc i)))
