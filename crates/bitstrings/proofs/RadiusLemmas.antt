-- The radius, and what its test says of estimates.
use Rattle.std.proofs.Common.{◌≡◌, ℕ, suc, ◌+◌, ◌-◌, ◌*◌, ◌<◌, ◌≤◌, ◌^◌, ◌↔◌, sym, ap, subst, ◌∙◌, inl, inr, arith, mul_comm, mul_assoc, lit≤, lit<}
use Rattle.std.proofs.Math.Nat.{pow-le-pow_right, suc-mul}
use Rattle.std.proofs.lemmas.Nat.{pow-add, pow_pos, mul-le}
use Rattle.std.proofs.lemmas.Bool.{cases_lt}
use Rattle.bitstrings.specs.Radius.{WithinFourIsNineTenths}

-- a common factor
scaled : (a b p : ℕ) → a ≤ b → a * p ≤ b * p
scaled a b p le = mul-le a p b p le (omega arith)

unscaled : (a b p : ℕ) → 0 < p → a * p ≤ b * p → a ≤ b
unscaled a b p some le =
    elim (cases_lt b a) [ inl lt ↦ absurd (omega (arith, mul-le (suc b) p a p (omega arith) (omega arith), suc-mul b p)) | inr ge ↦ ge ]

four_fits : 9 ^ 32 * 16 ≤ 10 ^ 32
four_fits = lit≤ tt

five_does_not : 10 ^ 32 < 9 ^ 32 * 32
five_does_not = lit< tt

-- how much the last estimate is above the other
nine_tenths_of : (d : ℕ) → (d ≤ 4) ↔ (9 ^ 32 * 2 ^ d ≤ 10 ^ 32)
nine_tenths_of d = (
  λ few. omega (arith, four_fits, mul-le (9 ^ 32) (2 ^ d) (9 ^ 32) 16 (omega arith) (pow-le-pow_right {n = 2} (omega arith) {i = d} {j = 4} few)),
  λ le. elim (cases_lt 4 d) [
    | inl many ↦ absurd (omega (arith, five_does_not, mul-le (9 ^ 32) 32 (9 ^ 32) (2 ^ d) (omega arith) (pow-le-pow_right {n = 2} (omega arith) {i = 5} {j = d} many)))
    | inr few ↦ few
  ],
)

pub within_four : WithinFourIsNineTenths
within_four sum last le =
    let d = last - sum in
    let whole : last ≡ sum + d = omega arith in
    let power : 2 ^ last ≡ 2 ^ sum * 2 ^ d = ap (λ x. 2 ^ x) whole ∙ pow-add 2 sum d in
    let turned : 9 ^ 32 * 2 ^ last ≡ 9 ^ 32 * 2 ^ d * 2 ^ sum = ap (λ x. 9 ^ 32 * x) (power ∙ mul_comm (2 ^ sum) (2 ^ d)) ∙ sym (mul_assoc (9 ^ 32) (2 ^ d) (2 ^ sum)) in (
      λ few. subst (λ x. x ≤ 10 ^ 32 * 2 ^ sum) (sym turned) (scaled (9 ^ 32 * 2 ^ d) (10 ^ 32) (2 ^ sum) ((nine_tenths_of d).0 few)),
      λ low. (nine_tenths_of d).1 (unscaled (9 ^ 32 * 2 ^ d) (10 ^ 32) (2 ^ sum) (pow_pos sum) (subst (λ x. x ≤ 10 ^ 32 * 2 ^ sum) turned low)),
    )
