-- The numbers of nodes within so many steps, by bitstrings.
use Rattle.std.specs.Prelude.{ℕ, true, List, [], replicate, nat_eq}
use Rattle.std.specs.Cmp.Lexicographic.{pointwise}
use Rattle.graph.specs.declared.edges.One.{One}
use Rattle.graph.specs.Steps.{Algorithm}
use Rattle.gimv_core.specs.Algebras.{Algebra}
use Rattle.gimv_core.specs.Weights.{one_of}
use Rattle.bitstrings.specs.Bitstrings.{Bitstrings, are_words, are_bitstrings}
use Rattle.bitstrings.specs.Radius.{radius, appended}
use Rattle.bitstrings.specs.Stream.{first_words}
use Rattle.bitstrings.specs.Texts.{words_text, words_of, bitstrings_text, bitstrings_of}
use Rattle.bitstrings.specs.Words.{or_words, places}

-- words, and the sums with that of these words
abbrev pub kept : List ℕ → List ℕ → Bitstrings
kept words sums = record { words = words; sums = appended sums (places words) }

-- each node takes over the bits of the words that come to it
abbrev pub hadi : ℕ → Algorithm Bitstrings (List ℕ) One
hadi seed = record {
  unit = replicate 32 0;
  combine = or_words;
  combine2 = λ weight v. v.words;
  assign = λ v words. kept (or_words v.words words) v.sums;
  same = λ v w. pointwise nat_eq v.words w.words;
  first = λ node. kept (first_words seed node) [];
  number = λ v. radius v.sums;
}

-- with the texts of its values and messages, and the weight `1`
abbrev pub hadi_algebra : ℕ → Algebra Bitstrings (List ℕ) One
hadi_algebra seed = record {
  algorithm = hadi seed;
  fits_val = are_bitstrings;
  fits_msg = are_words;
  fits_weight = λ weight. true;
  val_text = bitstrings_text;
  val_of = bitstrings_of;
  msg_text = words_text;
  msg_of = words_of;
  weight_of = one_of;
}
