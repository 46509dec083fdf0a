-- The components keep the laws.
use Rattle.std.specs.Prelude.{refl}
use Rattle.std.proofs.Common.{eqb-true, eq-eqb}
use Rattle.graph.proofs.AlgorithmLemmas.{labels_in_any_order}
use Rattle.graph.proofs.StepLemmas.{min_is}
use Rattle.gimv_core.specs.Laws.{IsLawful}
use Rattle.gimv_core.specs.Closings.{IsClosing}
use Rattle.gimv_core.proofs.DecimalTexts.{decimal_of_fits, decimal_reads_back, decimal_item}
use Rattle.gimv_core.proofs.Numbers.{min_itself, node_of_64_bits, small_of_64_bits}
use Rattle.gimv_core.proofs.WeightTexts.{one_of_fits, one_of_plain}
use Rattle.hcc.specs.Components.{hcc_algebra, label_as_message}

pub hcc_is_lawful : IsLawful hcc_algebra
hcc_is_lawful = record {
  in_any_order = labels_in_any_order;
  combine2_fits = λ weight label _ fits. fits;
  assign_fits = labels_in_any_order.combine_fits;
  first_fits = node_of_64_bits;
  number_fits = small_of_64_bits;
  val_of_fits = decimal_of_fits;
  msg_of_fits = decimal_of_fits;
  weight_of_fits = one_of_fits;
  val_reads_back = decimal_reads_back;
  msg_reads_back = decimal_reads_back;
  val_text_plain = λ label fits. (decimal_item label fits).as_val;
  msg_text_plain = decimal_item;
  weight_text_plain = one_of_plain;
}

pub hcc_is_closing : IsClosing hcc_algebra label_as_message
hcc_is_closing = record {
  as_msg_fits = λ label fits. fits;
  idempotent = λ label _. min_itself label;
  selects = λ label other _ _. min_is label other;
  passes_on = λ weight label _ _. refl;
  assigns = λ label message _ _. refl;
  tells_apart = λ label other _ _ same. same;
  same_is = λ label other _ _. (eqb-true label other, eq-eqb label other);
}
