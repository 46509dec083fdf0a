-- `map` and `flat_map`: functions that agree, and one after the other.
use Rattle.std.proofs.Common.{◌≡◌, refl, ap, ◌∙◌, List, [], ◌∷◌, ◌++◌, map}
use Rattle.std.specs.List.{All, flat_map}
use Rattle.std.proofs.lemmas.Grind.{flat_map-append}
use Rattle.std.proofs.lemmas.List.Elements.{All-head, All-tail}

-- lists that agree item by item
pub map_agree : {I A : Type 0} (f g : I → A) (is : List I) → All (λ i. f i ≡ g i) is → map f is ≡ map g is
map_agree f g [] all = refl
map_agree f g (i ∷ is) all =
    ap (λ x. x ∷ map f is) (All-head (λ j. f j ≡ g j) i is all) ∙ ap (λ xs. g i ∷ xs) (map_agree f g is (All-tail (λ j. f j ≡ g j) i is all))

pub flat_map_agree : {I A : Type 0} (f g : I → List A) (is : List I) → All (λ i. f i ≡ g i) is → flat_map f is ≡ flat_map g is
flat_map_agree f g [] all = refl
flat_map_agree f g (i ∷ is) all =
    ap (λ xs. xs ++ flat_map f is) (All-head (λ j. f j ≡ g j) i is all) ∙ ap (λ xs. g i ++ xs) (flat_map_agree f g is (All-tail (λ j. f j ≡ g j) i is all))

pub map-map : {I U A : Type 0} (f : U → A) (g : I → U) (is : List I) → map f (map g is) ≡ map (λ i. f (g i)) is
map-map f g [] = refl
map-map f g (i ∷ is) = ap (λ xs. f (g i) ∷ xs) (map-map f g is)

pub flat_map-flat_map : {I U A : Type 0} (f : U → List A) (g : I → List U) (is : List I) → flat_map f (flat_map g is) ≡ flat_map (λ i. flat_map f (g i)) is
flat_map-flat_map f g [] = refl
flat_map-flat_map f g (i ∷ is) = flat_map-append f (g i) (flat_map g is) ∙ ap (λ xs. flat_map f (g i) ++ xs) (flat_map-flat_map f g is)

pub map-flat_map : {I U A : Type 0} (f : U → A) (g : I → List U) (is : List I) → map f (flat_map g is) ≡ flat_map (λ i. map f (g i)) is
map-flat_map f g [] = refl
map-flat_map {I} {U} {A} f g (i ∷ is) = along (g i) ∙ ap (λ xs. map f (g i) ++ xs) (map-flat_map f g is)
  where
    along : (xs : List U) → map f (xs ++ flat_map g is) ≡ map f xs ++ map f (flat_map g is)
    along [] = refl
    along (x ∷ xs) = ap (λ ys. f x ∷ ys) (along xs)
