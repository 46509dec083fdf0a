-- Sums over lists.
use Rattle.std.proofs.Common.{◌≡◌, refl, sym, ap, ◌∙◌, ℕ, zero, suc, ◌+◌, List, [], ◌∷◌, map, arith}
use Rattle.std.specs.List.{All, range_with_len, sum_by}
use Rattle.std.proofs.lemmas.List.Elements.{All-head, All-tail}
use Rattle.std.proofs.lemmas.List.Sums.{sum_by-cons}

pub sum_agree : {A : Type 0} (f g : A → ℕ) (xs : List A) → All (λ x. f x ≡ g x) xs → sum_by f xs ≡ sum_by g xs
sum_agree f g [] all = refl
sum_agree f g (x ∷ xs) all =
    sum_by-cons f x xs ∙ ap (λ (k : ℕ). k + sum_by f xs) (All-head (λ y. f y ≡ g y) x xs all) ∙ ap (λ (k : ℕ). g x + k) (sum_agree f g xs (All-tail (λ y. f y ≡ g y) x xs all)) ∙ sym (sum_by-cons g x xs)

pub sum-of_map : {I A : Type 0} (f : A → ℕ) (g : I → A) (is : List I) → sum_by f (map g is) ≡ sum_by (λ i. f (g i)) is
sum-of_map f g [] = refl
sum-of_map f g (i ∷ is) = sum_by-cons f (g i) (map g is) ∙ ap (λ (k : ℕ). f (g i) + k) (sum-of_map f g is) ∙ sym (sum_by-cons (λ j. f (g j)) i is)

-- a sum of ones is the length of the range
pub ones : (a n : ℕ) → sum_by (λ (i : ℕ). 1) (range_with_len a n) ≡ n
ones a zero = refl
ones a (suc n) = let later = ones (a + 1) n in sum_by-cons (λ (i : ℕ). 1) a (range_with_len (a + 1) n) ∙ omega (arith, later)
