-- The ranks keep the laws.
use Rattle.std.specs.Prelude.{ℕ, ◌*◌, ◌/◌, ◌^◌, IsTrue, nat_le, List, Option, Some, None, IfSome, option_and_then, refl}
use Rattle.std.proofs.Math.Nat.{div-le_self}
use Rattle.std.proofs.lemmas.Bool.{cond_both, and_parts, and_from, leb-true}
use Rattle.graph.specs.Laws.{is_of_64_bits}
use Rattle.graph.proofs.AlgorithmLemmas.{ranks_in_any_order}
use Rattle.peg_text.specs.Decimal.{decimal_of}
use Rattle.gimv_core.specs.Laws.{IsLawful}
use Rattle.gimv_core.specs.Texts.{IsPlainItem}
use Rattle.gimv_core.proofs.DecimalTexts.{decimal_of_fits, decimal_of_plain, decimal_reads_back, decimal_item}
use Rattle.gimv_core.proofs.Numbers.{at_most_of_64_bits, capped_of_64_bits, share_at_most_seventeen, small_of_64_bits}
use Rattle.pagerank.specs.Ranks.{is_degree, positive, page_rank_algebra}

positive_fits : (found : Option ℕ) → IfSome found (λ m. IsTrue (is_of_64_bits m)) → IfSome (option_and_then positive found) (λ m. IsTrue (is_degree m))
positive_fits None fits = tt
positive_fits (Some m) fits =
    cond_both (nat_le 1 m) (Some m) None (λ found. IfSome found (λ d. IsTrue (is_degree d))) (λ some. and_from (nat_le 1 m) (is_of_64_bits m) some fits) (λ _. tt)

positive_plain : (text : List ℕ) (found : Option ℕ) → IfSome found (λ _. IsPlainItem text) → IfSome (option_and_then positive found) (λ _. IsPlainItem text)
positive_plain text None plain = tt
positive_plain text (Some m) plain = cond_both (nat_le 1 m) (Some m) None (λ found. IfSome found (λ _. IsPlainItem text)) (λ _. plain) (λ _. tt)

pub page_rank_is_lawful : (n : ℕ) → IsLawful (page_rank_algebra n)
page_rank_is_lawful n = record {
  in_any_order = ranks_in_any_order n;
  combine2_fits = λ degree rank weighs fits.
      at_most_of_64_bits (17 * rank / (20 * degree)) rank (share_at_most_seventeen degree rank (leb-true 1 degree (and_parts (nat_le 1 degree) (is_of_64_bits degree) weighs).0)) fits;
  assign_fits = λ rank all _ _. capped_of_64_bits (3 * 2 ^ 32 / (20 * n)) all;
  first_fits = λ node _. at_most_of_64_bits (2 ^ 32 / n) (2 ^ 32) (div-le_self (2 ^ 32) n) refl;
  number_fits = small_of_64_bits;
  val_of_fits = decimal_of_fits;
  msg_of_fits = decimal_of_fits;
  weight_of_fits = λ text. positive_fits (decimal_of text) (decimal_of_fits text);
  val_reads_back = decimal_reads_back;
  msg_reads_back = decimal_reads_back;
  val_text_plain = λ rank fits. (decimal_item rank fits).as_val;
  msg_text_plain = decimal_item;
  weight_text_plain = λ text. positive_plain text (decimal_of text) (decimal_of_plain text);
}
