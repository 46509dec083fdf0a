-- Pairs of a key and a value: their order, their text, and the pairs of a text.
use Rattle.std.specs.Prelude.{ℕ, Bool, List, map}
use Rattle.std.specs.Cmp.Lexicographic.{slice_cmp}
use Rattle.std.specs.List.{flat_map}
use Rattle.std.specs.List.Sorted.{IsSorted}
use Rattle.std.specs.declared.cmp.Ordering.{Ordering}
use Rattle.std.specs.Ordering.{nat_cmp, ordering_then, is_le}
use Rattle.peg_text.specs.Pairs.{key_of, value_of, pair_line, HasNoTab}
use Rattle.peg_text.specs.Records.{records_of, HasNoLf}
use Rattle.pairs.specs.Sorting.{in_order}

-- a key and a value
abbrev pub Pair : Type 0
Pair = List ℕ × List ℕ

-- ---- the order

-- texts by their bytes: the first byte in which they differ decides, and a text comes after its own front
abbrev pub bytes_cmp : List ℕ → List ℕ → Ordering
bytes_cmp = slice_cmp nat_cmp

-- pairs by their keys, and at equal keys by their values
abbrev pub pair_cmp : Pair → Pair → Ordering
pair_cmp p q = ordering_then (bytes_cmp p.0 q.0) (bytes_cmp p.1 q.1)

-- the first pair may stand before the second
abbrev pub pair_before : Pair → Pair → Bool
pair_before p q = is_le (pair_cmp p q)

-- no pair is less than the one before it
abbrev pub IsInOrder : List Pair → Type 0
IsInOrder pairs = IsSorted pair_cmp pairs

-- the pairs by key, then by value, with repeats
abbrev pub sorted_pairs : List Pair → List Pair
sorted_pairs pairs = in_order pair_before pairs

-- ---- texts

-- each pair as a line
abbrev pub pairs_text : List Pair → List ℕ
pairs_text pairs = flat_map (λ p. pair_line p.0 p.1) pairs

-- the pair of a record
abbrev pub pair_of : List ℕ → Pair
pair_of line = (key_of line, value_of line)

-- the pairs of the records of a text
abbrev pub pairs_in : List ℕ → List Pair
pairs_in text = map pair_of (records_of text)

-- a pair that can be written as one line and read back
pub record IsPlain (p : Pair) : Type 0 where
  pub key_tab : HasNoTab p.0
  pub key_lf : HasNoLf p.0
  pub value_lf : HasNoLf p.1
