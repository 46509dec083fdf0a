-- The first number of a range that passes a test.
use Rattle.std.proofs.Common.{◌≡◌, refl, ap, ◌∙◌, subst, sym, Bool, true, false, ℕ, zero, suc, ◌+◌, ◌<◌, ◌≤◌, List, [], ◌∷◌, Option, Some, inl, inr, arith}
use Rattle.std.specs.Prelude.{if◌then◌else◌}
use Rattle.std.specs.List.{find, range_with_len}
use Rattle.std.proofs.lemmas.Bool.{cases_Bool, cases_eq, false≢true}

pub find_agree : (p q : ℕ → Bool) (xs : List ℕ) → ((x : ℕ) → p x ≡ q x) → find p xs ≡ find q xs
find_agree p q [] same = refl
find_agree p q (x ∷ xs) same =
    ap (λ (b : Bool). if b then Some x else find p xs) (same x) ∙ ap (λ (found : Option ℕ). if q x then Some x else found) (find_agree p q xs same)

-- the first number of n numbers from a on that passes, which is at most k
pub record IsFound (p : ℕ → Bool) (a n k : ℕ) : Type 0 where
  pub at : ℕ
  pub found : find p (range_with_len a n) ≡ Some at
  pub low : a ≤ at
  pub high : at ≤ k
  pub passes : p at ≡ true
  pub earlier : (j : ℕ) → a ≤ j → j < at → p j ≡ false

pub found_up_to : (p : ℕ → Bool) (a n k : ℕ) → a ≤ k → k < a + n → p k ≡ true → IsFound p a n k
found_up_to p a zero k from to is = absurd (omega arith)
found_up_to p a (suc n) k from to is =
    elim (cases_Bool (p a)) [
      | inl here ↦ record {
        at = a;
        found = ap (λ (b : Bool). if b then Some a else find p (range_with_len (a + 1) n)) here;
        low = omega arith;
        high = from;
        passes = here;
        earlier = λ j low lt. absurd (omega arith);
      }
      | inr fails ↦
          let rest = found_up_to p (a + 1) n k (further fails) (omega arith) is in record {
            at = rest.at;
            found = ap (λ (b : Bool). if b then Some a else find p (range_with_len (a + 1) n)) fails ∙ rest.found;
            low = omega (arith, rest.low);
            high = rest.high;
            passes = rest.passes;
            earlier = λ j low lt. elim (cases_eq j a) [
              | inl same ↦ subst (λ (i : ℕ). p i ≡ false) (sym same) fails
              | inr apart ↦ rest.earlier j (omega arith) lt
            ];
          }
    ]
  where
    further : p a ≡ false → a + 1 ≤ k
    further fails =
        elim (cases_eq k a) [
          | inl same ↦ absurd (false≢true (sym fails ∙ subst (λ (i : ℕ). p i ≡ true) same is))
          | inr apart ↦ omega arith
        ]
