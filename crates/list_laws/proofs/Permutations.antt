-- Permutations of lists that are put together from others.
use Rattle.std.proofs.Common.{◌≡◌, refl, sym, subst, List, [], ◌∷◌, ◌++◌}
use Rattle.std.specs.List.{All, flat_map}
use Rattle.std.specs.List.Sorted.{IsPermutation}
use Rattle.std.proofs.lemmas.List.{append_assoc}
use Rattle.std.proofs.lemmas.List.Elements.{All-nil, All-cons, All-head, All-tail}
use Rattle.std.proofs.lemmas.List.Sorted.{IsPermutation-refl, IsPermutation-trans, IsPermutation-append, IsPermutation-append_right, IsPermutation-append_left, IsPermutation-append_comm, All-permutation, length_permutation}
use Rattle.list_laws.proofs.Ranges.{one_item}

pub same_items : {A : Type 0} (xs ys : List A) → xs ≡ ys → IsPermutation xs ys
same_items xs ys is = subst (λ zs. IsPermutation xs zs) is (IsPermutation-refl xs)

-- a permutation of one item
pub permuted_one : {A : Type 0} (x : A) (xs : List A) → IsPermutation (x ∷ []) xs → xs ≡ x ∷ []
permuted_one x xs moved = one_item x xs (length_permutation (x ∷ []) xs moved) (All-permutation (λ y. y ≡ x) (x ∷ []) xs moved (All-cons (λ y. y ≡ x) x [] refl (All-nil (λ y. y ≡ x))))

-- the second and the third of four lists change places
pub turned : {A : Type 0} (ws bs cs ds : List A) → IsPermutation ((ws ++ bs) ++ (cs ++ ds)) ((ws ++ cs) ++ (bs ++ ds))
turned ws bs cs ds =
    subst (λ zs. IsPermutation zs ((ws ++ cs) ++ (bs ++ ds))) (sym (append_assoc ws bs (cs ++ ds))) (subst (λ zs. IsPermutation (ws ++ (bs ++ (cs ++ ds))) zs) (sym (append_assoc ws cs (bs ++ ds))) (IsPermutation-append_right ws (bs ++ (cs ++ ds)) (cs ++ (bs ++ ds)) middle))
  where
    middle : IsPermutation (bs ++ (cs ++ ds)) (cs ++ (bs ++ ds))
    middle = subst (λ zs. IsPermutation zs (cs ++ (bs ++ ds))) (append_assoc bs cs ds) (subst (λ zs. IsPermutation ((bs ++ cs) ++ ds) zs) (append_assoc cs bs ds) (IsPermutation-append_left ds (bs ++ cs) (cs ++ bs) (IsPermutation-append_comm bs cs)))

-- ---- lists of lists

module _ {I A : Type 0} where
  pub permuted_each : (f g : I → List A) (is : List I) → All (λ i. IsPermutation (f i) (g i)) is → IsPermutation (flat_map f is) (flat_map g is)
  permuted_each f g [] all = IsPermutation-refl []
  permuted_each f g (i ∷ is) all =
      IsPermutation-append (f i) (g i) (flat_map f is) (flat_map g is) (All-head (λ j. IsPermutation (f j) (g j)) i is all) (permuted_each f g is (All-tail (λ j. IsPermutation (f j) (g j)) i is all))

  -- two lists for each item, and all first ones before all second ones
  pub permuted_apart : (f g : I → List A) (is : List I) → IsPermutation (flat_map (λ i. f i ++ g i) is) (flat_map f is ++ flat_map g is)
  permuted_apart f g [] = IsPermutation-refl []
  permuted_apart f g (i ∷ is) =
      IsPermutation-trans ((f i ++ g i) ++ flat_map (λ j. f j ++ g j) is) ((f i ++ g i) ++ (flat_map f is ++ flat_map g is)) ((f i ++ flat_map f is) ++ (g i ++ flat_map g is)) (IsPermutation-append_right (f i ++ g i) (flat_map (λ j. f j ++ g j) is) (flat_map f is ++ flat_map g is) (permuted_apart f g is)) (turned (f i) (g i) (flat_map f is) (flat_map g is))
