-- What a node keeps.
use Rattle.std.specs.Prelude.{ℕ, ◌^◌, ◌&&◌, ◌==◌, Bool, nat_lt, nat_le, List, length}
use Rattle.std.specs.List.{list_all}

-- the words of a node, and the sum of their first-zero places after each step so far
pub record Bitstrings : Type 0 where
  pub words : List ℕ
  pub sums : List ℕ

-- 32 words of 32 bits
abbrev pub are_words : List ℕ → Bool
are_words words = length words == 32 && list_all (λ w. nat_lt w (2 ^ 32)) words

-- at least one sum, and 257 at the most, each of 32 places of at most 32
abbrev pub are_sums : List ℕ → Bool
are_sums sums = nat_le 1 (length sums) && nat_le (length sums) 257 && list_all (λ s. nat_le s 1024) sums

abbrev pub are_bitstrings : Bitstrings → Bool
are_bitstrings v = are_words v.words && are_sums v.sums
