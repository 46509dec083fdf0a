-- What a node keeps, from the two parts of its text.
use Rattle.std.proofs.Common.{◌≡◌, ◌≢◌, ℕ, ◌<◌, ◌≤◌, ◌&&◌, eqb, ltb, List, length, get_or, take, drop, Some, None, sym, ap, ◌∙◌}
use Rattle.std.proofs.lemmas.Bool.{cond-true, cond-false, and_from, and_left, and_right, lt-ltb, le-ltb, eq-eqb, ne_eqb}
use Rattle.bitstrings.specs.Options.{both_some}
use Rattle.bitstrings.specs.Texts.{made_of, words_of, sums_of, bitstrings_of}

-- without its length or its colon it is none
pub short_is_none : (text : List ℕ) → length text ≤ 256 → None ≡ bitstrings_of text
unfolding bitstrings_of
short_is_none text short = sym (cond-false (ltb 256 (length text) && eqb (get_or text 256 0) 58) _ None (and_left _ _ (le-ltb 256 (length text) short)))

pub other_is_none : (text : List ℕ) → get_or text 256 0 ≢ 58 → None ≡ bitstrings_of text
unfolding bitstrings_of
other_is_none text other = sym (cond-false (ltb 256 (length text) && eqb (get_or text 256 0) 58) _ None (and_right _ _ (ne_eqb (get_or text 256 0) 58 other)))

pub in_two_parts : (text : List ℕ) → 256 < length text → get_or text 256 0 ≡ 58 → bitstrings_of text ≡ both_some made_of (words_of (take 256 text)) (sums_of (drop 257 text))
unfolding bitstrings_of
in_two_parts text long colon =
    cond-true (ltb 256 (length text) && eqb (get_or text 256 0) 58) (both_some made_of (words_of (take 256 text)) (sums_of (drop 257 text))) None
    (and_from _ _ (lt-ltb 256 (length text) long) (eq-eqb (get_or text 256 0) 58 colon))

pub of_two_parts : (text words sums : List ℕ) → 256 < length text → get_or text 256 0 ≡ 58 → Some words ≡ words_of (take 256 text) → Some sums ≡ sums_of (drop 257 text)
    → Some (made_of words sums) ≡ bitstrings_of text
of_two_parts text words sums long colon w s =
    sym (in_two_parts text long colon ∙ ap (λ o. both_some made_of o (sums_of (drop 257 text))) (sym w) ∙ ap (both_some made_of (Some words)) (sym s))

pub none_of_words : (text : List ℕ) → 256 < length text → get_or text 256 0 ≡ 58 → None ≡ words_of (take 256 text) → None ≡ bitstrings_of text
none_of_words text long colon w =
    sym (in_two_parts text long colon ∙ ap (λ o. both_some made_of o (sums_of (drop 257 text))) (sym w))

pub none_of_sums : (text words : List ℕ) → 256 < length text → get_or text 256 0 ≡ 58 → Some words ≡ words_of (take 256 text) → None ≡ sums_of (drop 257 text) → None ≡ bitstrings_of text
none_of_sums text words long colon w s =
    sym (in_two_parts text long colon ∙ ap (λ o. both_some made_of o (sums_of (drop 257 text))) (sym w) ∙ ap (both_some made_of (Some words)) (sym s))
