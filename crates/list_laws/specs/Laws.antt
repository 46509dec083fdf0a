-- What holds of lists that are permuted, and of items by classes.
use Rattle.std.specs.Prelude.{◌≡◌, ℕ, ◌+◌, ◌<◌, ◌≤◌, ◌==◌, Bool, List, [], ◌∷◌, map, All}
use Rattle.std.specs.List.{filter, flat_map, range_with_len}
use Rattle.std.specs.List.Sorted.{IsPermutation}
use Rattle.pairs.specs.Sorting.{in_order}
use Rattle.list_laws.specs.Classes.{IsOnce, class}

-- ---- a list in the order of a test, whatever the test

-- lists made of each item
abbrev pub MadeInOrder : Type 0 → Type 0 → Type 0
MadeInOrder A B =
    (before : A → A → Bool) (f : A → List B) (xs : List A)
    → IsPermutation (flat_map f xs) (flat_map f (in_order before xs))

-- the items that pass a test
abbrev pub KeptInOrder : Type 0 → Type 0
KeptInOrder A =
    (before : A → A → Bool) (test : A → Bool) (xs : List A)
    → IsPermutation (filter test xs) (filter test (in_order before xs))

-- images stand in the order of their items by them
abbrev pub ImagesInOrder : Type 0 → Type 0 → Type 0
ImagesInOrder A B =
    (before : B → B → Bool) (f : A → B) (xs : List A)
    → in_order before (map f xs) ≡ map f (in_order (λ x y. before (f x) (f y)) xs)

-- ---- classes

-- items of which each is in just one class, class by class
abbrev pub ClassByClass : Type 0 → Type 0 → Type 0
ClassByClass A K =
    (same : A → K → Bool) (ks : List K) (xs : List A) → All (λ x. IsOnce (same x) ks) xs
    → IsPermutation xs (flat_map (class same xs) ks)

-- what is made of such items, class by class
abbrev pub MadeClassByClass : Type 0 → Type 0 → Type 0 → Type 0
MadeClassByClass A K B =
    (same : A → K → Bool) (f : A → List B) (ks : List K) (xs : List A) → All (λ x. IsOnce (same x) ks) xs
    → IsPermutation (flat_map f xs) (flat_map (λ k. flat_map f (class same xs k)) ks)

-- a number of a range is there once
abbrev pub OnceInRange : Type 0
OnceInRange = (j a n : ℕ) → a ≤ j → j < a + n → filter (λ i. j == i) (range_with_len a n) ≡ j ∷ []
