-- The components with their texts.
use Rattle.std.specs.Prelude.{ℕ, true, decimal}
use Rattle.peg_text.specs.Decimal.{decimal_of}
use Rattle.graph.specs.declared.edges.One.{One}
use Rattle.graph.specs.Algorithms.{hcc}
use Rattle.graph.specs.Laws.{is_of_64_bits}
use Rattle.gimv_core.specs.Algebras.{Algebra}
use Rattle.gimv_core.specs.Weights.{one_of}

-- labels are numbers of 64 bits, written as decimals, and each entry weighs one
abbrev pub hcc_algebra : Algebra ℕ ℕ One
hcc_algebra = record {
  algorithm = hcc;
  fits_val = is_of_64_bits;
  fits_msg = is_of_64_bits;
  fits_weight = λ weight. true;
  val_text = decimal;
  val_of = decimal_of;
  msg_text = decimal;
  msg_of = decimal_of;
  weight_of = one_of;
}

-- a label is a message as it is
abbrev pub label_as_message : ℕ → ℕ
label_as_message label = label
