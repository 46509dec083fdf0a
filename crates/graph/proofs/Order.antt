-- Folds over lists in another order, and in groups.
use Rattle.std.proofs.Common.{◌≡◌, ℕ, zero, suc, ◌<◌, Bool, cond, List, [], ◌∷◌, map, filter, fold, All, length, get_or, refl, sym, ap, ◌∙◌, arith, inl, inr}
use Rattle.std.proofs.Math.ListN.{set}
use Rattle.std.specs.List.{flat_map, swap}
use Rattle.std.specs.List.Sorted.{IsPermutation}
use Rattle.std.proofs.lemmas.Bool.{cases_Bool}
use Rattle.std.proofs.lemmas.List.Elements.{All-head, All-tail, All-get_or}
use Rattle.std.proofs.lemmas.List.Sorted.{All-permutation, IsPermutation-keeps, IsPermutation-swap}
use Rattle.std.proofs.lemmas.List.Sums.{fold-append}

-- a function that takes its elements in any order, from the states and at the elements that are good
module _ {A B : Type 0} (h : B → A → B) (Q : B → Type 0) (P : A → Type 0)
    (keeps : (x : B) (a : A) → Q x → P a → Q (h x a))
    (turns : (x : B) (a b : A) → Q x → P a → P b → h (h x a) b ≡ h (h x b) a) where
  -- the first element and the one at j change places
  fold_exchange_first : (x : B) (a : A) (xs : List A) (j : ℕ) (d : A) → Q x → P a → All P xs → j < length xs → fold h (h x (get_or xs j d)) (set xs j a) ≡ fold h (h x a) xs
  fold_exchange_first x a [] j d q p all lt = absurd (omega arith)
  fold_exchange_first x a (b ∷ xs) zero d q p all lt = ap (λ y. fold h y xs) (turns x b a q (All-head P b xs all) p)
  fold_exchange_first x a (b ∷ xs) (suc j) d q p all lt =
      let pb = All-head P b xs all in
      let rest = All-tail P b xs all in
      let lt' : j < length xs = omega arith in
      let c = get_or xs j d in
      let pc = All-get_or P xs j d lt' rest in
      ap (λ y. fold h y (set xs j a)) (turns x c b q pc pb)
      ∙ fold_exchange_first (h x b) a xs j d (keeps x b q pb) p rest lt'
      ∙ ap (λ y. fold h y xs) (turns x b a q pb p)

  fold_exchange : (x : B) (xs : List A) (i j : ℕ) (d : A) → Q x → All P xs → i < length xs → j < length xs → fold h x (set (set xs i (get_or xs j d)) j (get_or xs i d)) ≡ fold h x xs
  fold_exchange x [] i j d q all lt lt' = absurd (omega arith)
  fold_exchange x (a ∷ xs) zero zero d q all lt lt' = refl
  fold_exchange x (a ∷ xs) zero (suc j) d q all lt lt' = fold_exchange_first x a xs j d q (All-head P a xs all) (All-tail P a xs all) (omega arith)
  fold_exchange x (a ∷ xs) (suc i) zero d q all lt lt' = fold_exchange_first x a xs i d q (All-head P a xs all) (All-tail P a xs all) (omega arith)
  fold_exchange x (a ∷ xs) (suc i) (suc j) d q all lt lt' =
      fold_exchange (h x a) xs i j d (keeps x a q (All-head P a xs all)) (All-tail P a xs all) (omega arith) (omega arith)

  fold_swap : (x : B) (xs : List A) (i j : ℕ) → Q x → All P xs → i < length xs → j < length xs → fold h x (swap xs i j) ≡ fold h x xs
  fold_swap x [] i j q all lt lt' = refl
  fold_swap x (d ∷ xs) i j q all lt lt' = fold_exchange x (d ∷ xs) i j d q all lt lt'

  pub fold-IsPermutation : (x : B) (xs ys : List A) → Q x → All P xs → IsPermutation xs ys → fold h x xs ≡ fold h x ys
  fold-IsPermutation x xs ys q all moved =
      (IsPermutation-keeps xs (λ l. All P l × (fold h x xs ≡ fold h x l)) (all, refl)
      (λ l i j lt lt' so_far.
      (All-permutation P l (swap l i j) (IsPermutation-swap l (swap l i j) i j lt lt' refl) so_far.0, so_far.1 ∙ sym (fold_swap x l i j q so_far.0 lt lt')))
      ys moved).1

-- a filter and a map within a fold
pub fold-map-filter : {A B C : Type 0} (h : B → C → B) (g : A → C) (test : A → Bool) (x : B) (xs : List A) → fold h x (map g (filter test xs)) ≡ fold (λ y a. cond (test a) (h y (g a)) y) x xs
fold-map-filter h g test x [] = refl
fold-map-filter h g test x (a ∷ xs) =
    elim (cases_Bool (test a)) [
      | inl is ↦ rw is (fold-map-filter h g test (h x (g a)) xs)
      | inr isnt ↦ rw isnt (fold-map-filter h g test x xs)
    ]

-- what is folded in groups
module _ {M : Type 0} (h : M → M → M) (Q : M → Type 0) (unit : M)
    (keeps : (x y : M) → Q x → Q y → Q (h x y))
    (joins : (x y z : M) → Q x → Q y → Q z → h (h x y) z ≡ h x (h y z))
    (neutral : (x : M) → Q x → h x unit ≡ x) (unit_good : Q unit) where
  fold_from : (x y : M) (xs : List M) → Q x → Q y → All Q xs → h x (fold h y xs) ≡ fold h (h x y) xs
  fold_from x y [] qx qy all = refl
  fold_from x y (z ∷ xs) qx qy all =
      let qz = All-head Q z xs all in
      fold_from x (h y z) xs qx (keeps y z qy qz) (All-tail Q z xs all) ∙ ap (λ w. fold h w xs) (sym (joins x y z qx qy qz))

  fold_good : (x : M) (xs : List M) → Q x → All Q xs → Q (fold h x xs)
  fold_good x [] q all = q
  fold_good x (z ∷ xs) q all = fold_good (h x z) xs (keeps x z q (All-head Q z xs all)) (All-tail Q z xs all)

  pub fold-groups : (x : M) (groups : List (List M)) → Q x → All (All Q) groups → fold h x (map (fold h unit) groups) ≡ fold h x (flat_map (λ group. group) groups)
  fold-groups x [] q all = refl
  fold-groups x (g ∷ gs) q all =
      let good = All-head (All Q) g gs all in
      let first : h x (fold h unit g) ≡ fold h x g = fold_from x unit g q unit_good good ∙ ap (λ w. fold h w g) (neutral x q) in
      ap (λ w. fold h w (map (fold h unit) gs)) first
      ∙ fold-groups (fold h x g) gs (fold_good x g q good) (All-tail (All Q) g gs all)
      ∙ sym (fold-append h x g (flat_map (λ group. group) gs))
