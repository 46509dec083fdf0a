-- `filter`: tests that agree, and of images.
use Rattle.std.proofs.Common.{◌≡◌, refl, ap, ◌∙◌, Bool, true, false, cond, List, [], ◌∷◌, ◌++◌, map, inl, inr}
use Rattle.std.specs.List.{All, filter, flat_map}
use Rattle.std.proofs.lemmas.Bool.{cases_Bool}
use Rattle.std.proofs.lemmas.List.Elements.{All-head, All-tail, filter-append}

module _ {A : Type 0} where
  pub filter_agree_on : (p q : A → Bool) (xs : List A) → All (λ x. p x ≡ q x) xs → filter p xs ≡ filter q xs
  filter_agree_on p q [] all = refl
  filter_agree_on p q (x ∷ xs) all =
      let later = filter_agree_on p q xs (All-tail (λ y. p y ≡ q y) x xs all) in
      ap (λ b. cond b (x ∷ filter p xs) (filter p xs)) (All-head (λ y. p y ≡ q y) x xs all) ∙ ap (λ ys. cond (q x) (x ∷ ys) ys) later

  pub filter_none : (p : A → Bool) (xs : List A) → All (λ x. p x ≡ false) xs → filter p xs ≡ []
  filter_none p [] all = refl
  filter_none p (x ∷ xs) all =
      let here = All-head (λ y. p y ≡ false) x xs all in rw here (filter_none p xs (All-tail (λ y. p y ≡ false) x xs all))

  -- what passes the narrow test passes the wide one
  pub filter_within : (p q : A → Bool) → ((x : A) → p x ≡ true → q x ≡ true) → (xs : List A) → filter p (filter q xs) ≡ filter p xs
  filter_within p q wide [] = refl
  filter_within p q wide (x ∷ xs) =
      elim (cases_Bool (p x)) [
        | inl is ↦ let also = wide x is in rw (also, is) (ap (λ ys. x ∷ ys) (filter_within p q wide xs))
        | inr isnt ↦ elim (cases_Bool (q x)) [
          | inl also ↦ rw (also, isnt) (filter_within p q wide xs)
          | inr neither ↦ rw (neither, isnt) (filter_within p q wide xs)
        ]
      ]

  pub filter-map : {I : Type 0} (p : A → Bool) (f : I → A) (is : List I) → filter p (map f is) ≡ map f (filter (λ i. p (f i)) is)
  filter-map p f [] = refl
  filter-map p f (i ∷ is) =
      elim (cases_Bool (p (f i))) [
        | inl is' ↦ rw is' (ap (λ xs. f i ∷ xs) (filter-map p f is))
        | inr isnt ↦ rw isnt (filter-map p f is)
      ]

pub filter-flat_map : {I A : Type 0} (test : A → Bool) (f : I → List A) (is : List I) → filter test (flat_map f is) ≡ flat_map (λ i. filter test (f i)) is
filter-flat_map test f [] = refl
filter-flat_map test f (i ∷ is) = filter-append test (f i) (flat_map f is) ∙ ap (λ l. filter test (f i) ++ l) (filter-flat_map test f is)

-- one and the same item, for each that passes
pub flat_map_if : {I A : Type 0} (test : I → Bool) (x : A) (is : List I) → flat_map (λ i. cond (test i) (x ∷ []) []) is ≡ map (λ i. x) (filter test is)
flat_map_if test x [] = refl
flat_map_if test x (i ∷ is) =
    elim (cases_Bool (test i)) [
      | inl is' ↦ rw is' (ap (λ l. x ∷ l) (flat_map_if test x is))
      | inr isnt ↦ rw isnt (flat_map_if test x is)
    ]
