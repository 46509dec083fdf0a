-- No value's text is empty.
use Rattle.std.proofs.Common.{◌≡◌, ap, ℕ, ◌<◌, ◌^◌, List, [], ◌∷◌, ◌++◌, length, decimal, Some, arith}
use Rattle.std.proofs.lemmas.Bool.{eqb-true, and_parts}
use Rattle.std.proofs.lemmas.Fmt.{decimal_digit}
use Rattle.peg_text.proofs.DecimalLemmas.{decimals_read_back}
use Rattle.graph.specs.declared.edges.One.{One}
use Rattle.gimv_core.specs.Algebras.{FitsVal}
use Rattle.gimv_core.specs.Weights.{one_of}
use Rattle.bitstrings.specs.Bitstrings.{Bitstrings, are_words, are_sums}
use Rattle.bitstrings.specs.Texts.{words_text, sums_text}
use Rattle.hadi.specs.Hadi.{hadi_algebra}

pub decimal_some : (n : ℕ) → n < 2 ^ 64 → decimal n ≡ [] → ⊥
decimal_some n small none = let back = decimals_read_back n small in let gone = rw none at back in cc

pub one_back : (w : One) → one_of (decimal 1) ≡ Some w
one_back w = ap one_of (decimal_digit 1 (omega arith))

pub words_some : (v : Bitstrings) → FitsVal (hadi_algebra 0) v → (hadi_algebra 0).val_text v ≡ [] → ⊥
words_some v fits none = text_some v.words (sums_text v.sums) (eqb-true (length v.words) 32 (and_parts _ _ (and_parts (are_words v.words) (are_sums v.sums) fits).0).0) none
  where
    text_some : (words : List ℕ) (rest : List ℕ) → length words ≡ 32 → words_text words ++ rest ≡ [] → ⊥
    text_some [] rest long none' = absurd (omega (arith, long))
    text_some (w ∷ ws) rest long none' = cc
