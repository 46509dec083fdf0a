-- What the parts of a folder have: pairs, each in the part of its key, in order.
use Rattle.std.specs.Prelude.{ℕ, List, map}
use Rattle.std.specs.List.{range_with_len}
use Rattle.pairs.specs.Pairs.{Pair, pairs_text, sorted_pairs}
use Rattle.spill.specs.Runs.{of_part}

-- those of these pairs whose key's part it is, by key and then by value, as lines
abbrev pub part_lines : ℕ → List Pair → ℕ → List ℕ
part_lines reducers pairs part = pairs_text (sorted_pairs (of_part reducers part pairs))

-- all parts of these pairs
abbrev pub parts_with : ℕ → List Pair → List (List ℕ)
parts_with reducers pairs = map (part_lines reducers pairs) (range_with_len 0 reducers)
