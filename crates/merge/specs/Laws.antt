-- What a merge rests on, as laws.
use Rattle.std.specs.Prelude.{◌≡◌, ℕ, ◌+◌, ◌-◌, ◌*◌, ◌^◌, ◌<◌, ◌≤◌, true, List, [], ◌∷◌, All, drop, length, codes, slice_index_or, slice_set}
use Rattle.std.specs.List.Sorted.{IsPermutation}
use Rattle.pairs.specs.Pairs.{Pair, IsInOrder, pair_before, sorted_pairs}
use Rattle.merge.specs.Runs.{after_passes, merge_name, passes}
use Rattle.merge.specs.Sources.{all_of}

-- a pair may stand before the first pair of each list
abbrev pub IsBeforeFirsts : Pair → List (List Pair) → Type 0
IsBeforeFirsts least lists =
    (list : ℕ) (first : Pair) (others : List Pair) → list < length lists → slice_index_or lists list [] ≡ first ∷ others → pair_before least first ≡ true

-- of lists in order, the least of their first pairs comes first, and then what is left of them sorted
abbrev pub LeastFirstPairComesFirst : Type 0
LeastFirstPairComesFirst =
    (lists : List (List Pair)) (list : ℕ) (least : Pair) (others : List Pair) → All IsInOrder lists → list < length lists → slice_index_or lists list [] ≡ least ∷ others → IsBeforeFirsts least lists → sorted_pairs (all_of lists) ≡ least ∷ sorted_pairs (all_of (slice_set lists list others))

-- after some passes the lists that are not merged yet have just the pairs that were there
abbrev pub PassesKeepThePairs : Type 0
PassesKeepThePairs =
    (count : ℕ) (lists : List (List Pair)) → count ≤ passes (length lists) → IsPermutation (all_of lists) (all_of (drop (10 * count) (after_passes count lists)))

-- after all passes ten lists at most are left
abbrev pub TenAreLeftAtMost : Type 0
TenAreLeftAtMost =
    (lists : List (List Pair)) → length (drop (10 * passes (length lists)) (after_passes (passes (length lists)) lists)) ≤ 10

-- a pass comes only where there are more than ten, and leaves nine fewer
abbrev pub PassesAreNeeded : Type 0
PassesAreNeeded =
    (runs : ℕ) → (runs ≤ 10 → passes runs ≡ 0) × (10 < runs → passes runs ≡ passes (runs - 9) + 1)

-- the number of the pass in twenty digits
abbrev pub MergeNamesByExample : Type 0
MergeNamesByExample =
    (merge_name 0 ≡ codes "merge-00000000000000000000") × (merge_name (2 ^ 64 - 1) ≡ codes "merge-18446744073709551615")
