-- A list in the order of a test: what is made of its items, and which of them pass another test.
use Rattle.std.proofs.Common.{◌≡◌, refl, sym, ap, ◌∙◌, subst, Bool, List, [], ◌∷◌, ◌++◌, map, inl, inr}
use Rattle.std.specs.List.{filter, flat_map}
use Rattle.std.specs.List.Sorted.{IsPermutation}
use Rattle.std.proofs.lemmas.Bool.{cases_Bool}
use Rattle.std.proofs.lemmas.List.Sorted.{IsPermutation-refl, IsPermutation-cons, IsPermutation-trans, IsPermutation-sym, IsPermutation-middle, IsPermutation-append_right}
use Rattle.pairs.specs.Sorting.{inserted, in_order}
use Rattle.pairs.proofs.Sorting.{IsOrder, in_order-IsPermutation}
use Rattle.list_laws.proofs.Permutations.{turned}

module _ {A : Type 0} (before : A → A → Bool) where
  pub inserted_permuted : (x : A) (ys : List A) → IsPermutation (x ∷ ys) (inserted before x ys)
  inserted_permuted x [] = IsPermutation-refl (x ∷ [])
  inserted_permuted x (y ∷ ys) =
      elim (cases_Bool (before x y)) [
        | inl is ↦ rw is (IsPermutation-refl (x ∷ y ∷ ys))
        | inr isnt ↦ rw isnt (IsPermutation-trans (x ∷ y ∷ ys) (y ∷ x ∷ ys) (y ∷ inserted before x ys) (IsPermutation-sym (y ∷ x ∷ ys) (x ∷ y ∷ ys) (IsPermutation-middle (y ∷ []) x ys)) (IsPermutation-cons y (x ∷ ys) (inserted before x ys) (inserted_permuted x ys)))
      ]

  pub in_order_permuted : (xs : List A) → IsPermutation xs (in_order before xs)
  in_order_permuted [] = IsPermutation-refl []
  in_order_permuted (x ∷ xs) =
      IsPermutation-trans (x ∷ xs) (x ∷ in_order before xs) (inserted before x (in_order before xs)) (IsPermutation-cons x xs (in_order before xs) (in_order_permuted xs)) (inserted_permuted x (in_order before xs))

  module _ {B : Type 0} (f : A → List B) where
    inserted_flat : (x : A) (ys : List A) → IsPermutation (f x ++ flat_map f ys) (flat_map f (inserted before x ys))
    inserted_flat x [] = IsPermutation-refl (f x ++ [])
    inserted_flat x (y ∷ ys) =
        elim (cases_Bool (before x y)) [
          | inl is ↦ rw is (IsPermutation-refl (f x ++ (f y ++ flat_map f ys)))
          | inr isnt ↦
              rw isnt (IsPermutation-trans (f x ++ (f y ++ flat_map f ys)) (f y ++ (f x ++ flat_map f ys)) (f y ++ flat_map f (inserted before x ys)) (turned [] (f x) (f y) (flat_map f ys)) (IsPermutation-append_right (f y) (f x ++ flat_map f ys) (flat_map f (inserted before x ys)) (inserted_flat x ys)))
        ]

    -- what is made of each item is made in another order
    pub in_order_flat : (xs : List A) → IsPermutation (flat_map f xs) (flat_map f (in_order before xs))
    in_order_flat [] = IsPermutation-refl []
    in_order_flat (x ∷ xs) =
        IsPermutation-trans (f x ++ flat_map f xs) (f x ++ flat_map f (in_order before xs)) (flat_map f (inserted before x (in_order before xs))) (IsPermutation-append_right (f x) (flat_map f xs) (flat_map f (in_order before xs)) (in_order_flat xs)) (inserted_flat x (in_order before xs))

    -- and so in any order, where some test orders all items
    pub permuted_flat : IsOrder before → (xs ys : List A) → IsPermutation xs ys → IsPermutation (flat_map f xs) (flat_map f ys)
    permuted_flat order xs ys moved =
        IsPermutation-trans (flat_map f xs) (flat_map f (in_order before xs)) (flat_map f ys) (in_order_flat xs) (subst (λ zs. IsPermutation (flat_map f zs) (flat_map f ys)) (sym (in_order-IsPermutation before order xs ys moved)) (IsPermutation-sym (flat_map f ys) (flat_map f (in_order before ys)) (in_order_flat ys)))

  -- a filter as such a function
  abbrev pub kept : (A → Bool) → A → List A
  kept p x = filter p (x ∷ [])

  filter_flat : (p : A → Bool) (xs : List A) → flat_map (kept p) xs ≡ filter p xs
  filter_flat p [] = refl
  filter_flat p (x ∷ xs) =
      elim (cases_Bool (p x)) [
        | inl is ↦ rw is (ap (λ ys. x ∷ ys) (filter_flat p xs))
        | inr isnt ↦ rw isnt (filter_flat p xs)
      ]

  pub in_order_filter : (p : A → Bool) (xs : List A) → IsPermutation (filter p xs) (filter p (in_order before xs))
  in_order_filter p xs =
      subst (λ zs. IsPermutation zs (filter p (in_order before xs))) (filter_flat p xs) (subst (λ zs. IsPermutation (flat_map (kept p) xs) zs) (filter_flat p (in_order before xs)) (in_order_flat (kept p) xs))

  pub permuted_filter : IsOrder before → (p : A → Bool) (xs ys : List A) → IsPermutation xs ys → IsPermutation (filter p xs) (filter p ys)
  permuted_filter order p xs ys moved =
      subst (λ zs. IsPermutation zs (filter p ys)) (filter_flat p xs) (subst (λ zs. IsPermutation (flat_map (kept p) xs) zs) (filter_flat p ys) (permuted_flat (kept p) order xs ys moved))

  -- the items' images in their order
  pub in_order-map : {I : Type 0} (f : I → A) (is : List I) → in_order before (map f is) ≡ map f (in_order (λ i j. before (f i) (f j)) is)
  in_order-map f [] = refl
  in_order-map {I} f (i ∷ is) = ap (inserted before (f i)) (in_order-map f is) ∙ along (in_order (λ j k. before (f j) (f k)) is)
    where
      along : (js : List I) → inserted before (f i) (map f js) ≡ map f (inserted (λ j k. before (f j) (f k)) i js)
      along [] = refl
      along (j ∷ js) =
          elim (cases_Bool (before (f i) (f j))) [
            | inl is' ↦ rw is' refl
            | inr isnt ↦ rw isnt (ap (λ xs. f j ∷ xs) (along js))
          ]
