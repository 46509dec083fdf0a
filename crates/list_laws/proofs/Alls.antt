-- `All` of the parts of an append, of a `flat_map` and of a `map`.
use Rattle.std.proofs.Common.{List, [], ◌∷◌, ◌++◌, map}
use Rattle.std.specs.List.{All, flat_map}
use Rattle.std.proofs.lemmas.List.Elements.{All-nil, All-cons, All-head, All-tail, All-append}

module _ {A : Type 0} (P : A → Type 0) where
  pub all_left : (xs ys : List A) → All P (xs ++ ys) → All P xs
  all_left [] ys all = All-nil P
  all_left (x ∷ xs) ys all = All-cons P x xs (All-head P x (xs ++ ys) all) (all_left xs ys (All-tail P x (xs ++ ys) all))

  pub all_right : (xs ys : List A) → All P (xs ++ ys) → All P ys
  all_right [] ys all = all
  all_right (x ∷ xs) ys all = all_right xs ys (All-tail P x (xs ++ ys) all)

  pub all_each : ((x : A) → P x) → (xs : List A) → All P xs
  all_each each [] = All-nil P
  all_each each (x ∷ xs) = All-cons P x xs (each x) (all_each each xs)

  pub all_flat_map : {I : Type 0} (f : I → List A) (is : List I) → All (λ i. All P (f i)) is → All P (flat_map f is)
  all_flat_map f [] all = All-nil P
  all_flat_map f (i ∷ is) all =
      All-append P (f i) (flat_map f is) (All-head (λ j. All P (f j)) i is all) (all_flat_map f is (All-tail (λ j. All P (f j)) i is all))

  pub all_both : (Q : A → Type 0) (xs : List A) → All P xs → All Q xs → All (λ x. P x × Q x) xs
  all_both Q [] p q = All-nil (λ x. P x × Q x)
  all_both Q (x ∷ xs) p q = All-cons (λ y. P y × Q y) x xs (All-head P x xs p, All-head Q x xs q) (all_both Q xs (All-tail P x xs p) (All-tail Q x xs q))

  pub all_unmap : {I : Type 0} (f : I → A) (is : List I) → All P (map f is) → All (λ i. P (f i)) is
  all_unmap f [] all = All-nil (λ i. P (f i))
  all_unmap f (i ∷ is) all = All-cons (λ j. P (f j)) i is (All-head P (f i) (map f is) all) (all_unmap f is (All-tail P (f i) (map f is) all))
