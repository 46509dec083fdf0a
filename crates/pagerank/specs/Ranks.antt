-- The ranks with their texts.
use Rattle.std.specs.Prelude.{ℕ, ◌&&◌, Bool, nat_le, List, Option, Some, None, option_and_then, decimal, if◌then◌else◌}
use Rattle.peg_text.specs.Decimal.{decimal_of}
use Rattle.graph.specs.Algorithms.{page_rank}
use Rattle.graph.specs.Laws.{is_of_64_bits}
use Rattle.gimv_core.specs.Algebras.{Algebra}

-- how many edges leave a node that some edge leaves
abbrev pub is_degree : ℕ → Bool
is_degree m = nat_le 1 m && is_of_64_bits m

abbrev pub positive : ℕ → Option ℕ
positive m = if nat_le 1 m then Some m else None

-- a decimal of at least 1
abbrev pub degree_of : List ℕ → Option ℕ
degree_of text = option_and_then positive (decimal_of text)

-- the ranks of n nodes are numbers of 64 bits, written as decimals, and an entry is weighed by how many edges leave its column
abbrev pub page_rank_algebra : ℕ → Algebra ℕ ℕ ℕ
page_rank_algebra n = record {
  algorithm = page_rank n;
  fits_val = is_of_64_bits;
  fits_msg = is_of_64_bits;
  fits_weight = is_degree;
  val_text = decimal;
  val_of = decimal_of;
  msg_text = decimal;
  msg_of = decimal_of;
  weight_of = degree_of;
}
