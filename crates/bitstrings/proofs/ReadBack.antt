-- What is written reads back, and has no byte that lines are cut at.
use Rattle.std.proofs.Common.{◌≡◌, ◌≢◌, ℕ, zero, suc, ◌+◌, ◌*◌, ◌<◌, ◌≤◌, ◌^◌, ◌%◌, ◌/◌, ◌⊎◌, true, false, IsTrue, eqb, ltb, leb, List, [], ◌∷◌, ◌++◌, length, get_or, take, drop, map, All, Option, Some, None, option_map, option_and_then, decimal, refl, sym, ap, ◌∙◌, inl, inr, arith, append_assoc, mod-eq_of_lt}
use Rattle.std.specs.List.{list_all, slice_split}
use Rattle.std.proofs.lemmas.Bool.{cases_lt, and_parts, ltb-true, lt-ltb, le-ltb, leb-true, cond-true, ne_eqb}
use Rattle.std.proofs.lemmas.List.{length-append, take_at}
use Rattle.std.proofs.lemmas.List.Elements.{All-nil, All-cons, All-append, All-weaker}
use Rattle.std.proofs.lemmas.List.Splits.{slice_split_none, slice_split_at}
use Rattle.peg_text.proofs.DecimalLemmas.{decimals_read_back}
use Rattle.gimv_core.specs.Texts.{IsPlainVal, IsPlainItem}
use Rattle.gimv_core.proofs.DecimalTexts.{decimal_plain}
use Rattle.bitstrings.specs.Bitstrings.{Bitstrings, are_words, are_sums, are_bitstrings}
use Rattle.bitstrings.specs.Options.{all_some}
use Rattle.bitstrings.specs.Texts.{hex_digit, hex_digits, word_text, words_text, number_after, word_at, words_from, words_of, sums_text, bounded, sum_of, few, sums_of, made_of, bitstrings_text, bitstrings_of}
use Rattle.bitstrings.proofs.TextLemmas.{digits_read_back, words_of_long}
use Rattle.bitstrings.proofs.ValueTexts.{of_two_parts}
use Rattle.bitstrings.proofs.WordLemmas.{length_of_words}

-- places in a text of two parts

drop_front : (p q : List ℕ) (n : ℕ) → length p ≡ n → drop n (p ++ q) ≡ q
drop_front [] q zero is = refl
drop_front [] q (suc n) is = absurd (omega arith)
drop_front (x ∷ p) q zero is = absurd (omega arith)
drop_front (x ∷ p) q (suc n) is = drop_front p q n (omega arith)

drop_past : (p : List ℕ) (x : ℕ) (q : List ℕ) (n : ℕ) → length p ≡ n → drop (n + 1) (p ++ x ∷ q) ≡ q
drop_past p x q n is = ap (λ t. drop (n + 1) t) (sym (append_assoc p (x ∷ []) q)) ∙ drop_front (p ++ x ∷ []) q (n + 1) (length-append p (x ∷ []) ∙ ap (λ k. k + 1) is)

at_front : (p : List ℕ) (x : ℕ) (q : List ℕ) (n : ℕ) → length p ≡ n → get_or (p ++ x ∷ q) n 0 ≡ x
at_front [] x q zero is = refl
at_front [] x q (suc n) is = absurd (omega arith)
at_front (y ∷ p) x q zero is = absurd (omega arith)
at_front (y ∷ p) x q (suc n) is = at_front p x q n (omega arith)

-- words

length_digits : (n w : ℕ) → length (hex_digits n w) ≡ n
length_digits zero w = refl
length_digits (suc n) w = ap suc (length_digits n w)

length_words : (ws : List ℕ) → length (words_text ws) ≡ 8 * length ws
length_words [] = refl
length_words (w ∷ ws) = omega (arith, length-append (word_text w) (words_text ws), length_digits 8 w, length_words ws)

whole : (w : ℕ) → w < 2 ^ 32 → 0 * 2 ^ (4 * 8) + w % 2 ^ (4 * 8) ≡ w
whole w small = let same : w % 2 ^ 32 ≡ w = mod-eq_of_lt small in omega arith

-- one value more
one_more : (x : ℕ) (xs : List ℕ) (o : Option ℕ) (os : Option (List ℕ)) → o ≡ Some x → os ≡ Some xs → option_and_then (λ y. option_map (λ ys. y ∷ ys) os) o ≡ Some (x ∷ xs)
one_more x xs o os here rest = rw (here, rest) refl

append_none : (xs : List ℕ) → xs ++ [] ≡ xs
append_none [] = refl
append_none (x ∷ xs) = ap (λ ys. x ∷ ys) (append_none xs)

absurd_sums : {P : Type 0} → IsTrue (are_sums []) → P
absurd_sums fits = cc

word_reads_back : (w : ℕ) → w < 2 ^ 32 → number_after 0 (word_text w) ≡ Some w
word_reads_back w small = digits_read_back 8 0 w ∙ ap Some (whole w small)

word_there : (p rest : List ℕ) (l w : ℕ) → length p ≡ 8 * l → w < 2 ^ 32 → word_at (p ++ (word_text w ++ rest)) l ≡ Some w
unfolding word_at
word_there p rest l w is small =
    ap (λ t. number_after 0 (take 8 t)) (drop_front p (word_text w ++ rest) (8 * l) is)
    ∙ ap (number_after 0) (take_at (word_text w) rest 8 (length_digits 8 w)) ∙ word_reads_back w small

words_there : (p ws : List ℕ) (l : ℕ) → length p ≡ 8 * l → list_all (λ w. ltb w (2 ^ 32)) ws ≡ true → words_from (p ++ words_text ws) l (length ws) ≡ Some ws
unfolding words_from
words_there p [] l is all = refl
words_there p (w ∷ ws) l is all =
    let parts = and_parts _ _ all in
    let here = word_there p (words_text ws) l w is (ltb-true w (2 ^ 32) parts.0) in
    let more = words_there (p ++ word_text w) ws (l + 1) (omega (arith, length-append p (word_text w), length_digits 8 w)) parts.1 in
    let same : words_from (p ++ (word_text w ++ words_text ws)) (l + 1) (length ws) ≡ Some ws =
    ap (λ t. words_from t (l + 1) (length ws)) (sym (append_assoc p (word_text w) (words_text ws))) ∙ more in
    one_more w ws (word_at (p ++ (word_text w ++ words_text ws)) l) (words_from (p ++ (word_text w ++ words_text ws)) (l + 1) (length ws)) here same

pub words_read_back : (ws : List ℕ) → IsTrue (are_words ws) → words_of (words_text ws) ≡ Some ws
words_read_back ws fits =
    let long = length_of_words ws fits in
    let size : length (words_text ws) ≡ 256 = omega (arith, length_words ws) in
    words_of_long (words_text ws) size ∙ ap (words_from (words_text ws) 0) (sym long) ∙ words_there [] ws 0 refl (and_parts _ _ fits).1

-- sums

decimal_apart : (n : ℕ) → n < 2 ^ 64 → All (λ b. eqb b 58 ≡ false) (decimal n)
decimal_apart n small =
    All-weaker (λ b. b ≢ 58) (λ b. eqb b 58 ≡ false) (λ b other. ne_eqb b 58 other) (decimal n) (decimal_plain n small).no_colon

sum_reads_back : (s : ℕ) → leb s 1024 ≡ true → sum_of (decimal s) ≡ Some s
sum_reads_back s is =
    let le = leb-true s 1024 is in
    ap (option_and_then bounded) (decimals_read_back s (omega arith)) ∙ cond-true (leb s 1024) (Some s) None is

-- behind their first colon
sums_there : (s : ℕ) (ss : List ℕ) → list_all (λ x. leb x 1024) (s ∷ ss) ≡ true → all_some (map sum_of (slice_split (λ b. eqb b 58) (decimal s ++ sums_text ss))) ≡ Some (s ∷ ss)
sums_there s [] all =
    let is = (and_parts _ _ all).0 in
    let le = leb-true s 1024 is in
    let alone : decimal s ++ [] ≡ decimal s = append_none (decimal s) in
    ap (λ t. all_some (map sum_of (slice_split (λ b. eqb b 58) t))) alone
    ∙ ap (λ ps. all_some (map sum_of ps)) (slice_split_none (λ b. eqb b 58) (decimal s) (decimal_apart s (omega arith)))
    ∙ one_more s [] (sum_of (decimal s)) (Some []) (sum_reads_back s is) refl
sums_there s (t ∷ ts) all =
    let parts = and_parts _ _ all in
    let le = leb-true s 1024 parts.0 in
    let rest = decimal t ++ sums_text ts in
    ap (λ ps. all_some (map sum_of ps)) (slice_split_at (λ b. eqb b 58) (decimal s) 58 rest (decimal_apart s (omega arith)) refl)
    ∙ one_more s (t ∷ ts) (sum_of (decimal s)) (all_some (map sum_of (slice_split (λ b. eqb b 58) rest))) (sum_reads_back s parts.0) (sums_there t ts parts.1)

sums_read_back : (s : ℕ) (ss : List ℕ) → IsTrue (are_sums (s ∷ ss)) → sums_of (decimal s ++ sums_text ss) ≡ Some (s ∷ ss)
unfolding sums_of
sums_read_back s ss fits =
    let parts = and_parts _ _ fits in
    ap (option_and_then few) (sums_there s ss parts.1) ∙ cond-true (leb (length (s ∷ ss)) 257) (Some (s ∷ ss)) None (and_parts _ _ parts.0).1

value_there : (ws ss : List ℕ) → IsTrue (are_words ws) → IsTrue (are_sums ss) → bitstrings_of (words_text ws ++ sums_text ss) ≡ Some (made_of ws ss)
value_there ws [] fw fs = absurd_sums fs
value_there ws (s ∷ ss) fw fs =
    let front = words_text ws in
    let back = decimal s ++ sums_text ss in
    let text = front ++ (58 ∷ back) in
    let long = length_of_words ws fw in
    let size : length front ≡ 256 = omega (arith, length_words ws) in
    sym
    (of_two_parts text ws (s ∷ ss) (omega (arith, length-append front (58 ∷ back))) (at_front front 58 back 256 size)
    (sym (ap words_of (take_at front (58 ∷ back) 256 size) ∙ words_read_back ws fw))
    (sym (ap sums_of (drop_past front 58 back 256 size) ∙ sums_read_back s ss fs)))

pub bitstrings_read_back : (v : Bitstrings) → IsTrue (are_bitstrings v) → bitstrings_of (bitstrings_text v) ≡ Some v
bitstrings_read_back v fits =
    let parts = and_parts (are_words v.words) (are_sums v.sums) fits in value_there v.words v.sums parts.0 parts.1

-- no byte that lines are cut at

abbrev IsDigitOrLetter : ℕ → Type 0
IsDigitOrLetter b = ((48 ≤ b) × (b < 58)) ⊎ (97 ≤ b)

digit_or_letter : (d : ℕ) → IsDigitOrLetter (hex_digit d)
digit_or_letter d =
    elim (cases_lt d 10) [
      | inl lt ↦ let test = lt-ltb d 10 lt in rw test (inl (omega arith, omega arith))
      | inr ge ↦ let test = le-ltb d 10 ge in rw test (inr (omega arith))
    ]

digits_plain : (n w : ℕ) → All IsDigitOrLetter (hex_digits n w)
digits_plain zero w = All-nil IsDigitOrLetter
digits_plain (suc n) w = All-cons IsDigitOrLetter _ (hex_digits n w) (digit_or_letter (w / 2 ^ (4 * n) % 16)) (digits_plain n w)

words_digits : (ws : List ℕ) → All IsDigitOrLetter (words_text ws)
words_digits [] = All-nil IsDigitOrLetter
words_digits (w ∷ ws) = All-append IsDigitOrLetter (word_text w) (words_text ws) (digits_plain 8 w) (words_digits ws)

is_not : (other : ℕ) → (other < 48) ⊎ (other ≡ 58) → (b : ℕ) → IsDigitOrLetter b → b ≢ other
is_not other (inl low) b (inl digit) same = omega (arith, digit.0)
is_not other (inl low) b (inr letter) same = omega arith
is_not other (inr colon) b (inl digit) same = omega (arith, digit.1)
is_not other (inr colon) b (inr letter) same = omega arith

without : (other : ℕ) → (other < 48) ⊎ (other ≡ 58) → (ws : List ℕ) → All (λ b. b ≢ other) (words_text ws)
without other which ws = All-weaker IsDigitOrLetter (λ b. b ≢ other) (is_not other which) (words_text ws) (words_digits ws)

pub words_plain : (ws : List ℕ) → IsPlainItem (words_text ws)
words_plain ws = record {
  as_val = record {
    no_tab = without 9 (inl (omega arith)) ws;
    no_lf = without 10 (inl (omega arith)) ws;
    no_blank = without 32 (inl (omega arith)) ws;
    no_comma = without 44 (inl (omega arith)) ws;
  };
  no_colon = without 58 (inr refl) ws;
}

sums_without : (other : ℕ) → 58 ≢ other → ((s : ℕ) → s < 2 ^ 64 → All (λ b. b ≢ other) (decimal s)) → (ss : List ℕ) → list_all (λ x. leb x 1024) ss ≡ true → All (λ b. b ≢ other) (sums_text ss)
sums_without other colon each [] all = All-nil (λ b. b ≢ other)
sums_without other colon each (s ∷ ss) all =
    let parts = and_parts _ _ all in
    let le = leb-true s 1024 parts.0 in
    All-append (λ b. b ≢ other) (58 ∷ decimal s) (sums_text ss) (All-cons (λ b. b ≢ other) 58 (decimal s) colon (each s (omega arith))) (sums_without other colon each ss parts.1)

pub bitstrings_plain : (v : Bitstrings) → IsTrue (are_bitstrings v) → IsPlainVal (bitstrings_text v)
bitstrings_plain v fits =
    let all = (and_parts _ _ (and_parts (are_words v.words) (are_sums v.sums) fits).1).1 in
    let words = (words_plain v.words).as_val in record {
      no_tab = All-append (λ b. b ≢ 9) (words_text v.words) (sums_text v.sums) words.no_tab (sums_without 9 (λ same. omega arith) (λ s small. (decimal_plain s small).as_val.no_tab) v.sums all);
      no_lf = All-append (λ b. b ≢ 10) (words_text v.words) (sums_text v.sums) words.no_lf (sums_without 10 (λ same. omega arith) (λ s small. (decimal_plain s small).as_val.no_lf) v.sums all);
      no_blank = All-append (λ b. b ≢ 32) (words_text v.words) (sums_text v.sums) words.no_blank (sums_without 32 (λ same. omega arith) (λ s small. (decimal_plain s small).as_val.no_blank) v.sums all);
      no_comma = All-append (λ b. b ≢ 44) (words_text v.words) (sums_text v.sums) words.no_comma (sums_without 44 (λ same. omega arith) (λ s small. (decimal_plain s small).as_val.no_comma) v.sums all);
    }
