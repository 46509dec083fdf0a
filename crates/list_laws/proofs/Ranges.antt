-- Numbers of a range, and lists of one item.
use Rattle.std.proofs.Common.{◌≡◌, sym, ap, ◌∙◌, ℕ, zero, suc, ◌+◌, ◌<◌, ◌≤◌, eqb, true, false, List, [], ◌∷◌, length, inl, inr, arith}
use Rattle.std.specs.List.{All, filter, range_with_len}
use Rattle.std.proofs.lemmas.Bool.{cases_eq, eq-eqb, ne_eqb}
use Rattle.std.proofs.lemmas.List.Elements.{All-nil, All-cons, All-head, All-weaker}
use Rattle.list_laws.proofs.Filters.{filter_none}

-- a list of just one item
pub one_item : {A : Type 0} (x : A) (xs : List A) → length xs ≡ 1 → All (λ y. y ≡ x) xs → xs ≡ x ∷ []
one_item x [] len all = absurd (omega (arith, len))
one_item x (y ∷ []) len all = ap (λ z. z ∷ []) (All-head (λ z. z ≡ x) y [] all)
one_item x (y ∷ z ∷ zs) len all = absurd (omega (arith, len))

-- ---- ranges

pub all_in_range : (a n : ℕ) → All (λ i. (a ≤ i) × (i < a + n)) (range_with_len a n)
all_in_range a zero = All-nil (λ i. (a ≤ i) × (i < a + 0))
all_in_range a (suc n) =
    All-cons (λ i. (a ≤ i) × (i < a + suc n)) a (range_with_len (a + 1) n) (omega arith, omega arith) (All-weaker (λ i. (a + 1 ≤ i) × (i < (a + 1) + n)) (λ i. (a ≤ i) × (i < a + suc n)) (λ i h. (omega (arith, h.0), omega (arith, h.1))) (range_with_len (a + 1) n) (all_in_range (a + 1) n))

-- a number of a range is there once
pub once_in_range : (j a n : ℕ) → a ≤ j → j < a + n → filter (λ i. eqb j i) (range_with_len a n) ≡ j ∷ []
once_in_range j a zero low high = absurd (omega arith)
once_in_range j a (suc n) low high =
    elim (cases_eq j a) [
      | inl is ↦
          let yes : eqb j a ≡ true = eq-eqb j a is in
          rw yes (ap (λ (i : ℕ). i ∷ filter (λ k. eqb j k) (range_with_len (a + 1) n)) (sym is) ∙ ap (λ (ks : List ℕ). j ∷ ks) (filter_none (λ k. eqb j k) (range_with_len (a + 1) n) (All-weaker (λ i. (a + 1 ≤ i) × (i < (a + 1) + n)) (λ i. eqb j i ≡ false) (λ i h. ne_eqb j i (λ e. absurd (omega (arith, e, is, h.0)))) (range_with_len (a + 1) n) (all_in_range (a + 1) n))))
      | inr isnt ↦
          let no : eqb j a ≡ false = ne_eqb j a isnt in
          rw no (once_in_range j (a + 1) n (omega (arith, isnt)) (omega arith))
    ]

-- what holds of each number below n holds of the range
pub all_below : (n : ℕ) (P : ℕ → Type 0) → ((i : ℕ) → i < n → P i) → All P (range_with_len 0 n)
all_below n P each = All-weaker (λ i. (0 ≤ i) × (i < 0 + n)) P (λ i h. each i (omega (arith, h.1))) (range_with_len 0 n) (all_in_range 0 n)
