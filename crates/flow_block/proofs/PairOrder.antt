-- Pairs of numbers in their order.
use Rattle.std.proofs.Common.{◌≡◌, sym, ap, ◌∙◌, Bool, true, false, cond, eqb, leb, ℕ, ◌<◌, ◌≤◌, ◌⊎◌, inl, inr, arith}
use Rattle.std.proofs.lemmas.Bool.{cases_Bool, eqb-true, eqb-false, eq-eqb, ne_eqb, leb-true, leb-false, le-leb, cond-true, cond-false}
use Rattle.pairs.proofs.Sorting.{IsOrder}

-- the first numbers decide, and where they are the same the second ones
abbrev pub pair_first : ℕ × ℕ → ℕ × ℕ → Bool
pair_first p q = cond (eqb p.0 q.0) (leb p.1 q.1) (leb p.0 q.0)

abbrev IsNotBehind : ℕ × ℕ → ℕ × ℕ → Type 0
IsNotBehind p q = (p.0 < q.0) ⊎ ((p.0 ≡ q.0) × (p.1 ≤ q.1))

pair_le : (p q : ℕ × ℕ) → pair_first p q ≡ true → IsNotBehind p q
pair_le p q is =
    elim (cases_Bool (eqb p.0 q.0)) [
      | inl same ↦ inr (eqb-true p.0 q.0 same, leb-true p.1 q.1 (sym (cond-true _ _ _ same) ∙ is))
      | inr apart ↦ inl (omega (arith, leb-true p.0 q.0 (sym (cond-false _ _ _ apart) ∙ is), eqb-false p.0 q.0 apart))
    ]

pair_lt : (p q : ℕ × ℕ) → p.0 < q.0 → pair_first p q ≡ true
pair_lt p q lt = cond-false (eqb p.0 q.0) (leb p.1 q.1) (leb p.0 q.0) (ne_eqb p.0 q.0 (λ e. omega (arith, e))) ∙ le-leb p.0 q.0 (omega arith)

pair_tied : (p q : ℕ × ℕ) → p.0 ≡ q.0 → p.1 ≤ q.1 → pair_first p q ≡ true
pair_tied p q same le = cond-true (eqb p.0 q.0) (leb p.1 q.1) (leb p.0 q.0) (eq-eqb p.0 q.0 same) ∙ le-leb p.1 q.1 le

pairs_total : (x y : ℕ × ℕ) → pair_first x y ≡ false → pair_first y x ≡ true
pairs_total x y fails =
    elim (cases_Bool (eqb x.0 y.0)) [
      | inl same ↦ let le = leb-false x.1 y.1 (sym (cond-true (eqb x.0 y.0) (leb x.1 y.1) (leb x.0 y.0) same) ∙ fails) in pair_tied y x (sym (eqb-true x.0 y.0 same)) (omega (arith, le))
      | inr apart ↦ let lt = leb-false x.0 y.0 (sym (cond-false (eqb x.0 y.0) (leb x.1 y.1) (leb x.0 y.0) apart) ∙ fails) in pair_lt y x (omega (arith, lt))
    ]

pairs_same : (x y : ℕ × ℕ) → IsNotBehind x y → IsNotBehind y x → x ≡ y
pairs_same x y (inl lt) (inl gt) = absurd (omega (arith, lt, gt))
pairs_same x y (inl lt) (inr eq) = let same = eq.0 in absurd (omega (arith, lt, same))
pairs_same x y (inr eq) (inl gt) = let same = eq.0 in absurd (omega (arith, gt, same))
pairs_same x y (inr one) (inr other) =
    let le = one.1 in
    let ge = other.1 in
    let same : x.1 ≡ y.1 = omega (arith, le, ge) in
    ap (λ (j : ℕ). (j, x.1)) one.0 ∙ ap (λ (i : ℕ). (y.0, i)) same

pairs_further : (x y z : ℕ × ℕ) → IsNotBehind x y → IsNotBehind y z → pair_first x z ≡ true
pairs_further x y z (inl lt) (inl gt) = pair_lt x z (omega (arith, lt, gt))
pairs_further x y z (inl lt) (inr eq) = let same = eq.0 in pair_lt x z (omega (arith, lt, same))
pairs_further x y z (inr eq) (inl gt) = let same = eq.0 in pair_lt x z (omega (arith, gt, same))
pairs_further x y z (inr one) (inr other) = let le = one.1 in let more = other.1 in pair_tied x z (one.0 ∙ other.0) (omega (arith, le, more))

pub pairs_order : IsOrder pair_first
pairs_order = record {
  total = pairs_total;
  same = λ x y one other. pairs_same x y (pair_le x y one) (pair_le y x other);
  further = λ x y z one other. pairs_further x y z (pair_le x y one) (pair_le y z other);
}
