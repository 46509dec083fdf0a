-- Where the first TAB of a line stands.
use Rattle.std.proofs.Common.{◌≡◌, ◌≢◌, ℕ, ◌+◌, ◌<◌, ◌≤◌, List, [], ◌∷◌, ◌++◌, Some, None, length, get_or, take, drop, refl, sym, ap, ◌∙◌, arith}
use Rattle.std.specs.List.{position_or_len}
use Rattle.std.proofs.lemmas.Bool.{ne_eqb, eq-eqb, eqb-true}
use Rattle.memchr.specs.Find.{IsFirstByte, is_byte}
use Rattle.std.proofs.lemmas.List.{append_assoc, length-append, get_or_append_left, get_or_at, take_at, drop_at, take_all, drop_all}
use Rattle.std.proofs.lemmas.List.Sums.{position_or_len_is}
use Rattle.peg_text.specs.Pairs.{is_tab, key_of, value_of, pair_text, HasNoTab, PairsSplitBack}

-- the first TAB of a line stands here, or the line ends here and has none
pub record HasFirstTab (line : List ℕ) (at : ℕ) : Type 0 where
  pub inside : at ≤ length line
  pub before : (k : ℕ) → k < at → get_or line k 0 ≢ 9
  pub tab : at < length line → get_or line at 0 ≡ 9

first_tab : (line : List ℕ) (at : ℕ) → HasFirstTab line at → position_or_len is_tab line ≡ at
first_tab line at h = position_or_len_is is_tab line at 0 h.inside (λ k below. ne_eqb _ 9 (h.before k below)) (λ inside. eq-eqb _ 9 (h.tab inside))

pub key_of-is : (line : List ℕ) (at : ℕ) → HasFirstTab line at → key_of line ≡ take at line
key_of-is line at h = ap (λ k. take k line) (first_tab line at h)

pub value_of-is : (line : List ℕ) (at : ℕ) → HasFirstTab line at → value_of line ≡ drop (at + 1) line
value_of-is line at h = ap (λ k. drop (k + 1) line) (first_tab line at h)

-- without a TAB all is key
pub key_of-all : (line : List ℕ) → HasFirstTab line (length line) → key_of line ≡ line
key_of-all line h = key_of-is line (length line) h ∙ take_all (length line) line (omega arith)

pub value_of-none : (line : List ℕ) → HasFirstTab line (length line) → value_of line ≡ []
value_of-none line h = value_of-is line (length line) h ∙ drop_all (length line + 1) line (omega arith)

pub pair_has_first_tab : (key value : List ℕ) → HasNoTab key → HasFirstTab (pair_text key value) (length key)
pair_has_first_tab key value unbroken = record {
  inside = omega (arith, length-append key (9 ∷ value));
  before = λ k below there. unbroken k 0 below (sym (get_or_append_left key (9 ∷ value) 0 k below) ∙ there);
  tab = λ _. get_or_at key 9 value 0 (length key) refl;
}

pub pairs_split_back : PairsSplitBack
pairs_split_back key value unbroken =
    let h = pair_has_first_tab key value unbroken in
    let parts : pair_text key value ≡ (key ++ (9 ∷ [])) ++ value = sym (append_assoc key (9 ∷ []) value) in (
      key_of-is (pair_text key value) (length key) h ∙ take_at key (9 ∷ value) (length key) refl,
      value_of-is (pair_text key value) (length key) h ∙ ap (drop (length key + 1)) parts ∙ drop_at (key ++ (9 ∷ [])) value (length key + 1) (length-append key (9 ∷ [])),
    )

pub first_tab_found : (line : List ℕ) (k : ℕ) → IsFirstByte (is_byte 9) line (Some k) → HasFirstTab line k
first_tab_found line k first =
    let high : k < length line = first.0.high in record {
      inside = omega arith;
      before = λ j below there. first.0.before j (omega arith) below (eq-eqb _ 9 there);
      tab = λ _. eqb-true _ 9 first.1;
    }

pub no_tab_found : (line : List ℕ) → IsFirstByte (is_byte 9) line None → HasFirstTab line (length line)
no_tab_found line none = record {
  inside = omega arith;
  before = λ j below there. none j (omega arith) below (eq-eqb _ 9 there);
  tab = λ past. absurd (omega arith);
}
