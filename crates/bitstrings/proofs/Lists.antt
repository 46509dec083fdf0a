-- Lists that are written and read element by element.
use Rattle.std.proofs.Common.{◌≡◌, ℕ, ◌+◌, ◌<◌, List, [], ◌∷◌, ◌++◌, length, get_or, take, Option, Some, None, option_map, refl, sym, ap, ◌∙◌, append_assoc}
use Rattle.std.specs.List.{flat_map}
use Rattle.std.proofs.lemmas.List.{take_more}
use Rattle.std.proofs.lemmas.List.Concat.{flat_map-append}
use Rattle.bitstrings.specs.Options.{all_some}

append_nil : {A : Type 0} (xs : List A) → xs ++ [] ≡ xs
append_nil [] = refl
append_nil (x ∷ xs) = ap (λ ys. x ∷ ys) (append_nil xs)

-- the texts of the first elements, and of one more
pub flat_map_more : {X : Type 0} (f : X → List ℕ) (xs : List X) (i : ℕ) (d : X) → i < length xs → flat_map f (take (i + 1) xs) ≡ flat_map f (take i xs) ++ f (get_or xs i d)
flat_map_more f xs i d lt =
    ap (flat_map f) (take_more xs i d lt) ∙ flat_map-append f (take i xs) (get_or xs i d ∷ []) ∙ ap (λ t. flat_map f (take i xs) ++ t) (append_nil (f (get_or xs i d)))

pub written_more : {X : Type 0} (f : X → List ℕ) (xs : List X) (i : ℕ) (d : X) (before now after : List ℕ) → i < length xs → now ≡ before ++ flat_map f (take i xs) → after ≡ now ++ f (get_or xs i d)
    → after ≡ before ++ flat_map f (take (i + 1) xs)
written_more f xs i d before now after lt so_far one =
    one ∙ ap (λ t. t ++ f (get_or xs i d)) so_far ∙ append_assoc before (flat_map f (take i xs)) (f (get_or xs i d)) ∙ ap (λ t. before ++ t) (sym (flat_map_more f xs i d lt))

-- some values read, and then those that follow, if none of these is missing
abbrev pub prefixed : {A : Type 0} → List A → Option (List A) → Option (List A)
prefixed xs o = option_map (λ ys. xs ++ ys) o

after_one : {A : Type 0} (xs : List A) (x : A) (o : Option (List A)) → prefixed (xs ++ x ∷ []) o ≡ prefixed xs (option_map (λ ys. x ∷ ys) o)
after_one xs x None = refl
after_one xs x (Some ys) = ap Some (append_assoc xs (x ∷ []) ys)

pub prefixed_more : {A : Type 0} (xs : List A) (x : A) (o : Option A) (os : List (Option A)) → o ≡ Some x → prefixed (xs ++ x ∷ []) (all_some os) ≡ prefixed xs (all_some (o ∷ os))
prefixed_more xs x o os is = rw is (after_one xs x (all_some os))

pub prefixed_none : {A : Type 0} (xs : List A) (o : Option A) (os : List (Option A)) → o ≡ None → prefixed xs (all_some (o ∷ os)) ≡ None
prefixed_none xs o os is = rw is refl

pub prefixed_nil : {A : Type 0} (o : Option (List A)) → prefixed [] o ≡ o
prefixed_nil None = refl
prefixed_nil (Some ys) = refl

pub prefixed_all : {A : Type 0} (xs : List A) → prefixed xs (Some []) ≡ Some xs
prefixed_all xs = ap Some (append_nil xs)
