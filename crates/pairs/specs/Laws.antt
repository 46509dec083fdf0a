-- What holds of sorted lists of pairs, and of the texts of pairs.
use Rattle.std.specs.Prelude.{◌≡◌, true, List, [], ◌∷◌, ◌++◌, All, codes}
use Rattle.std.specs.List.Sorted.{IsPermutation}
use Rattle.pairs.specs.Pairs.{Pair, IsPlain, IsInOrder, pair_before, sorted_pairs, pairs_text, pairs_in}

-- a sorted list is in order
abbrev pub SortedIsInOrder : Type 0
SortedIsInOrder = (pairs : List Pair) → IsInOrder (sorted_pairs pairs)

-- it has each pair as often as the list that was sorted
abbrev pub SortedIsPermutation : Type 0
SortedIsPermutation = (pairs : List Pair) → IsPermutation pairs (sorted_pairs pairs)

-- lists of the same pairs have the same sorted list
abbrev pub PermutationsSortAlike : Type 0
PermutationsSortAlike = (one other : List Pair) → IsPermutation one other → sorted_pairs one ≡ sorted_pairs other

-- a list that has the same pairs and is in order is the sorted list
abbrev pub InOrderIsSorted : Type 0
InOrderIsSorted = (pairs found : List Pair) → IsPermutation pairs found → IsInOrder found → found ≡ sorted_pairs pairs

-- a pair that may stand before all others comes first
abbrev pub LeastComesFirst : Type 0
LeastComesFirst =
    (least : Pair) (others : List Pair) → All (λ p. pair_before least p ≡ true) others → sorted_pairs (least ∷ others) ≡ least ∷ sorted_pairs others

-- pairs that are written as lines are read back
abbrev pub PairsReadBack : Type 0
PairsReadBack = (pairs : List Pair) → All IsPlain pairs → pairs_in (pairs_text pairs) ≡ pairs

-- the text of two lists, one after the other
abbrev pub TextsFollow : Type 0
TextsFollow = (front back : List Pair) → pairs_text (front ++ back) ≡ pairs_text front ++ pairs_text back

-- a key that is the front of another comes first; at one key the values' bytes decide, and repeats stay
abbrev pub OrderByExample : Type 0
OrderByExample =
    sorted_pairs ((codes "b", codes "2") ∷ (codes "a", codes "2") ∷ (codes "a b", codes "") ∷ (codes "a", codes "10") ∷ (codes "b", codes "2") ∷ [])
    ≡ (codes "a", codes "10") ∷ (codes "a", codes "2") ∷ (codes "a b", codes "") ∷ (codes "b", codes "2") ∷ (codes "b", codes "2") ∷ []

-- a value may have TABs, and a line without a TAB has an empty value
abbrev pub TextByExample : Type 0
TextByExample =
    (pairs_text ((codes "a", codes "1\t2") ∷ (codes "b", []) ∷ []) ≡ codes "a\t1\t2\nb\t\n")
    × (pairs_in (codes "a\t1\t2\nb\n") ≡ (codes "a", codes "1\t2") ∷ (codes "b", []) ∷ [])
