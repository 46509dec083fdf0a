-- Lists of children that grow at their end.
use Rattle.std.proofs.Common.{◌≡◌, ◌<◌, ◌+◌, ◌∙◌, arith, ap, sym, length, slice_index_or, List, [], ◌∷◌, ◌++◌}
use Rattle.std.specs.Prelude.{drop, map, take}
use Rattle.std.proofs.lemmas.List.{map-append}
use Rattle.dir_disk.specs.Children.{Child, loan_of, loans_of}
use Rattle.dir_disk.proofs.Lendings.{loans_end}

-- what is seen of one more comes at the end of what is seen of the others
pub mapped_end : {A B : Type 0} (f : A → B) (xs : List A) (x : A) → map f (xs ++ x ∷ []) ≡ map f xs ++ f x ∷ []
mapped_end f xs x = map-append f xs (x ∷ [])

-- the first one, and what is left without it
pub first_and_rest : {A : Type 0} (xs ys : List A) (x : A) → 0 < length xs → x ≡ slice_index_or xs 0 x → ys ≡ take 0 xs ++ drop (0 + 1) xs → xs ≡ x ∷ ys
first_and_rest [] ys x some is rest = absurd (omega (arith, some))
first_and_rest (z ∷ zs) ys x some is rest = ap (λ w. w ∷ zs) (sym is) ∙ ap (λ ws. x ∷ ws) (sym rest)

-- a child that is started last has its loan last
pub lent_last : (children : List Child) (child : Child) → loans_of (children ++ child ∷ []) ≡ loans_of children ++ loan_of child ∷ []
lent_last = loans_end
