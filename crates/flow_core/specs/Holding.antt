-- Folders as pairs.
use Rattle.std.specs.Prelude.{◌≡◌, ℕ, List, map, All}
use Rattle.std.specs.List.{flat_map}
use Rattle.std.specs.List.Sorted.{IsPermutation}
use Rattle.peg_text.specs.Pairs.{pair_text}
use Rattle.pairs.specs.Pairs.{Pair, IsPlain, pairs_text}

-- a pair as a record
abbrev pub record_of : Pair → List ℕ
record_of p = pair_text p.0 p.1

-- these texts are lines of pairs, and together they have just these pairs, in some order
pub record Holds (texts : List (List ℕ)) (pairs : List Pair) : Type 0 where
  pub lists : List (List Pair)
  pub are : texts ≡ map pairs_text lists
  pub all : IsPermutation (flat_map (λ list. list) lists) pairs
  pub plain : All IsPlain pairs
