-- Different folders have different names.
use Rattle.std.proofs.Common.{◌≡◌, ℕ, ◌==◌, true, false, if◌then◌else◌, ◌⊎◌, inl, inr, ⊎_elim, List, [], ◌∷◌, drop, refl, sym, ◌∙◌, ap, subst}
use Rattle.std.proofs.lemmas.Bool.{cases_Bool}
use Rattle.peg_base.specs.Names.{Names, under, same_path}
use Rattle.peg_base.proofs.Under.{same_path-true, same_path-false, children_apart}
use Rattle.digit_names.proofs.DigitLemmas.{digits_tell_numbers}
use Rattle.mining.specs.declared.place.Place.{Place}
use Rattle.mining.specs.declared.place.Place.TheVariants.{Conf, Edges, Nodes, Placed, Matrix, Blocks, Messages, Vector, Joined, Results}
use Rattle.mining.specs.Places.{name_of, folder_of, IsInTable}

-- the first byte tells the kind of a folder
abbrev first : List ℕ → ℕ
first [] = 0
first (b ∷ bs) = b

abbrev number_of : Place → ℕ
number_of (Messages k) = k
number_of (Vector k) = k
number_of _ = 0

abbrev place_at : ℕ → ℕ → Place
place_at letter k =
    if letter == 99 then Conf
    else if letter == 101 then Edges
    else if letter == 110 then Nodes
    else if letter == 112 then Placed
    else if letter == 109 then Matrix
    else if letter == 98 then Blocks
    else if letter == 115 then Messages k
    else if letter == 118 then Vector k
    else if letter == 106 then Joined
    else Results

read_back : (place : Place) → place_at (first (name_of place)) (number_of place) ≡ place
unfolding name_of
read_back Conf = refl
read_back Edges = refl
read_back Nodes = refl
read_back Placed = refl
read_back Matrix = refl
read_back Blocks = refl
read_back (Messages k) = refl
read_back (Vector k) = refl
read_back Joined = refl
read_back Results = refl

by_letter : (letter : ℕ) (place : Place) → first (name_of place) ≡ letter → place_at letter (number_of place) ≡ place
by_letter letter place is =
    ap (λ (l : ℕ). place_at l (number_of place)) (sym is) ∙ read_back place

pub same_name : (one other : Place) → IsInTable one → IsInTable other → name_of one ≡ name_of other → one ≡ other
unfolding name_of
same_name Conf other one_in other_in same = by_letter 99 other (ap first (sym same))
same_name Edges other one_in other_in same = by_letter 101 other (ap first (sym same))
same_name Nodes other one_in other_in same = by_letter 110 other (ap first (sym same))
same_name Placed other one_in other_in same = by_letter 112 other (ap first (sym same))
same_name Matrix other one_in other_in same = by_letter 109 other (ap first (sym same))
same_name Blocks other one_in other_in same = by_letter 98 other (ap first (sym same))
same_name Joined other one_in other_in same = by_letter 106 other (ap first (sym same))
same_name Results other one_in other_in same = by_letter 114 other (ap first (sym same))
same_name (Messages k) other one_in other_in same =
    let is : Messages (number_of other) ≡ other = by_letter 115 other (ap first (sym same)) in
    let names : name_of (Messages k) ≡ name_of (Messages (number_of other)) = same ∙ ap name_of (sym is) in
    let small : IsInTable (Messages (number_of other)) = subst IsInTable (sym is) other_in in
    ap Messages (digits_tell_numbers 10 k (number_of other) one_in.1 small.1 (ap (drop 2) names)) ∙ is
same_name (Vector k) other one_in other_in same =
    let is : Vector (number_of other) ≡ other = by_letter 118 other (ap first (sym same)) in
    let names : name_of (Vector k) ≡ name_of (Vector (number_of other)) = same ∙ ap name_of (sym is) in
    let small : IsInTable (Vector (number_of other)) = subst IsInTable (sym is) other_in in
    ap Vector (digits_tell_numbers 10 k (number_of other) one_in small (ap (drop 2) names)) ∙ is

-- nothing lies in both folders
abbrev pub AreApart : Place → Place → Type 0
AreApart one other = (path : Names) → under (folder_of one) path ≡ true → under (folder_of other) path ≡ false

abbrev head_of : Names → List ℕ
head_of [] = []
head_of (name ∷ names) = name

pub same_or_apart : (one other : Place) → IsInTable one → IsInTable other → (one ≡ other) ⊎ AreApart one other
same_or_apart one other one_in other_in =
    ⊎_elim (λ same. inl (same_name one other one_in other_in (ap head_of (same_path-true (folder_of one) (folder_of other) same)))) (λ differ. inr (λ path below. children_apart [] (name_of one) (name_of other) path (λ same. same_path-false (folder_of one) (folder_of other) differ (ap (λ (name : List ℕ). name ∷ []) same)) below)) (cases_Bool (same_path (folder_of one) (folder_of other)))
