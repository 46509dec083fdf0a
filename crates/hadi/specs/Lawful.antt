-- HADI keeps the laws.
use Rattle.std.specs.Prelude.{ℕ}
use Rattle.std.proofs.lemmas.Bool.{and_parts}
use Rattle.graph.specs.Laws.{CombinesInAnyOrder}
use Rattle.gimv_core.specs.Laws.{IsLawful}
use Rattle.gimv_core.proofs.WeightTexts.{one_of_fits, one_of_plain}
use Rattle.bitstrings.specs.Bitstrings.{are_words, are_sums}
use Rattle.bitstrings.specs.Stream.{first_words}
use Rattle.bitstrings.specs.Words.{or_words}
use Rattle.bitstrings.proofs.FitLemmas.{appended_fit, bitstrings_of_fit, first_fit, first_words_fit, none_fit, radius_small, words_of_fit}
use Rattle.bitstrings.proofs.ReadBack.{bitstrings_plain, bitstrings_read_back, words_plain, words_read_back}
use Rattle.bitstrings.proofs.WordLemmas.{length_of_words, or_words_assoc, or_words_comm, or_words_fit, or_words_none}
use Rattle.hadi.specs.Hadi.{hadi, hadi_algebra}

words_in_any_order : (seed : ℕ) → CombinesInAnyOrder (hadi seed) are_words
words_in_any_order seed = record {
  associative = λ x y z _ _ _. or_words_assoc x y z;
  commutative = λ x y _ _. or_words_comm x y;
  neutral = λ x fits. or_words_none 32 x (length_of_words x fits);
  unit_fits = none_fit;
  combine_fits = or_words_fit;
}

pub hadi_is_lawful : (seed : ℕ) → IsLawful (hadi_algebra seed)
hadi_is_lawful seed = record {
  in_any_order = words_in_any_order seed;
  combine2_fits = λ weight v _ fits. (and_parts (are_words v.words) (are_sums v.sums) fits).0;
  assign_fits = λ v words fits sent.
      let parts = and_parts (are_words v.words) (are_sums v.sums) fits in
      appended_fit (or_words v.words words) v.sums (or_words_fit v.words words parts.0 sent) parts.1;
  first_fits = λ node _. first_fit (first_words seed node) (first_words_fit seed node);
  number_fits = λ v fits. radius_small v.words v.sums fits;
  val_of_fits = bitstrings_of_fit;
  msg_of_fits = words_of_fit;
  weight_of_fits = one_of_fits;
  val_reads_back = bitstrings_read_back;
  msg_reads_back = words_read_back;
  val_text_plain = bitstrings_plain;
  msg_text_plain = λ words _. words_plain words;
  weight_text_plain = one_of_plain;
}
