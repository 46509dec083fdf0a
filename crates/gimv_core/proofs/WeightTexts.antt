-- The text `1` is plain.
use Rattle.std.proofs.Common.{ℕ, true, IsTrue, List, [], ◌∷◌, eqb, IfSome, refl, subst, sym, inl, inr, eqb-true}
use Rattle.std.proofs.lemmas.Bool.{cases_Bool}
use Rattle.gimv_core.specs.Texts.{IsPlainItem}
use Rattle.gimv_core.specs.Weights.{one_of}
use Rattle.gimv_core.proofs.DecimalTexts.{digits_plain}

pub one_of_fits : (text : List ℕ) → IfSome (one_of text) (λ w. IsTrue true)
one_of_fits [] = tt
one_of_fits (b ∷ []) = elim (cases_Bool (eqb b 49)) [ inl is ↦ rw is refl | inr isnt ↦ rw isnt tt ]
one_of_fits (b ∷ c ∷ bs) = tt

pub one_of_plain : (text : List ℕ) → IfSome (one_of text) (λ w. IsPlainItem text)
one_of_plain [] = tt
one_of_plain (b ∷ []) =
    elim (cases_Bool (eqb b 49)) [
      | inl is ↦ rw is (subst (λ d. IsPlainItem (d ∷ [])) (sym (eqb-true b 49 is)) (digits_plain (49 ∷ []) refl))
      | inr isnt ↦ rw isnt tt
    ]
one_of_plain (b ∷ c ∷ bs) = tt
