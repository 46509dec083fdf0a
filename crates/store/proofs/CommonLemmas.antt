-- What two texts have in common.
use Rattle.std.proofs.Common.{◌≡◌, ◌≢◌, ℕ, zero, suc, ◌≤◌, ◌⊎◌, List, [], ◌∷◌, ◌++◌, length, take, drop, refl, sym, ap, ◌∙◌, subst, arith, inl, inr, eqb}
use Rattle.std.proofs.lemmas.Bool.{cases_Bool, cond-true, cond-false, eqb-true, eqb-false, eq-eqb, ne_eqb}
use Rattle.std.proofs.lemmas.List.{append-nil, take-take, drop_all}
use Rattle.store.specs.Differing.{common}

-- ---- one byte

pub common-more : (b c : ℕ) (bs cs : List ℕ) → b ≡ c → common (b ∷ bs) (c ∷ cs) ≡ b ∷ common bs cs
common-more b c bs cs same = cond-true _ _ _ (eq-eqb b c same)

pub common-stop : (b c : ℕ) (bs cs : List ℕ) → b ≢ c → common (b ∷ bs) (c ∷ cs) ≡ []
common-stop b c bs cs other = cond-false _ _ _ (ne_eqb b c other)

pub common-nil_right : (bs : List ℕ) → common bs [] ≡ []
common-nil_right [] = refl
common-nil_right (b ∷ bs) = refl

same_or_not : (b c : ℕ) → (b ≡ c) ⊎ (b ≢ c)
same_or_not b c =
    elim (cases_Bool (eqb b c)) [ inl is ↦ inl (eqb-true b c is) | inr isnt ↦ inr (eqb-false b c isnt) ]

-- ---- fronts

pub common-append : (p a b : List ℕ) → common (p ++ a) (p ++ b) ≡ p ++ common a b
common-append [] a b = refl
common-append (x ∷ p) a b = common-more x x (p ++ a) (p ++ b) refl ∙ ap (λ l. x ∷ l) (common-append p a b)

pub common-front : (p a : List ℕ) → common (p ++ a) p ≡ p
common-front p a =
    ap (λ l. common (p ++ a) l) (sym (append-nil p)) ∙ common-append p a [] ∙ ap (λ l. p ++ l) (common-nil_right a) ∙ append-nil p

pub common-self : (p : List ℕ) → common p p ≡ p
common-self p = ap (λ l. common l p) (sym (append-nil p)) ∙ common-front p []

-- the common front is a front of both
pub common-take : (a b : List ℕ) → (take (length (common a b)) a ≡ common a b) × (take (length (common a b)) b ≡ common a b)
common-take [] b = (refl, refl)
common-take (x ∷ a) [] = (refl, refl)
common-take (x ∷ a) (y ∷ b) =
    elim (same_or_not x y) [
      | inl same ↦
          let is : common (x ∷ a) (y ∷ b) ≡ x ∷ common a b = common-more x y a b same in
          let rest = common-take a b in (
            subst (λ l. take (length l) (x ∷ a) ≡ l) (sym is) (ap (λ l. x ∷ l) rest.0),
            subst (λ l. take (length l) (y ∷ b) ≡ l) (sym is) (ap (λ l. y ∷ l) rest.1 ∙ ap (λ z. z ∷ common a b) (sym same)),
          )
      | inr other ↦
          let is : common (x ∷ a) (y ∷ b) ≡ [] = common-stop x y a b other in
          (subst (λ l. take (length l) (x ∷ a) ≡ l) (sym is) refl, subst (λ l. take (length l) (y ∷ b) ≡ l) (sym is) refl)
    ]

-- the fronts of that length are the same
pub common-fronts : (a b : List ℕ) → take (length (common a b)) a ≡ take (length (common a b)) b
common-fronts a b = (common-take a b).0 ∙ sym (common-take a b).1

-- ---- the loop that counts

pub count_end_other : (one other : List ℕ) (count : ℕ) → length other ≤ count → length (common (drop count one) (drop count other)) ≡ 0
count_end_other one other count past =
    ap (λ l. length (common (drop count one) l)) (drop_all count other past) ∙ ap length (common-nil_right (drop count one))

-- ---- a piece of the file

-- nothing in common with a piece is nothing in common with the whole
pub common-piece_none : (bytes text : List ℕ) (most : ℕ) → 1 ≤ most → 1 ≤ length text → length (common (take most bytes) text) ≡ 0 → common bytes text ≡ []
common-piece_none bytes text zero some_most some none = absurd (omega arith)
common-piece_none bytes [] (suc most) some_most some none = absurd (omega arith)
common-piece_none [] (c ∷ text) (suc most) some_most some none = refl
common-piece_none (b ∷ bytes) (c ∷ text) (suc most) some_most some none =
    elim (same_or_not b c) [
      | inl same ↦ absurd (omega (arith, none, ap length (common-more b c (take most bytes) text same)))
      | inr other ↦ common-stop b c bytes text other
    ]

-- what is in common with a piece is in common with the whole
pub common-piece : (bytes piece text : List ℕ) (most : ℕ) → piece ≡ take most bytes → length (common piece text) ≤ most → take (length (common piece text)) bytes ≡ take (length (common piece text)) text
common-piece bytes piece text most read few =
    sym (take-take (length (common piece text)) most bytes few) ∙ ap (take (length (common piece text))) (sym read) ∙ common-fronts piece text

pub common-comm : (a b : List ℕ) → common a b ≡ common b a
common-comm [] [] = refl
common-comm [] (y ∷ b) = refl
common-comm (x ∷ a) [] = refl
common-comm (x ∷ a) (y ∷ b) =
    elim (same_or_not x y) [
      | inl same ↦ common-more x y a b same ∙ ap (λ z. z ∷ common a b) same ∙ ap (λ l. y ∷ l) (common-comm a b) ∙ sym (common-more y x b a (sym same))
      | inr other ↦ common-stop x y a b other ∙ sym (common-stop y x b a (λ same. other (sym same)))
    ]
