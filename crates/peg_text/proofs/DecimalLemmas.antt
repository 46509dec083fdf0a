-- Reading a decimal digit by digit, and reading back what was written.
use Rattle.std.proofs.Common.{◌≡◌, ℕ, suc, ◌+◌, ◌-◌, ◌*◌, ◌^◌, ◌<◌, ◌≤◌, true, false, ◌&&◌, List, [], ◌∷◌, Some, None, length, get_or, drop, decimal, leb, refl, sym, ap, ◌∙◌, arith}
use Rattle.std.specs.List.{list_all}
use Rattle.std.specs.Char.{is_ascii_digit, digit_value}
use Rattle.std.specs.Str.Parse.{digits_value, digits_value_after, AllDigits}
use Rattle.std.proofs.lemmas.Bool.{and_parts, and_left, and_right, and_from, cond-true, cond-false, lt-ltb, le-ltb, le-leb, lt-leb, leb-true}
use Rattle.std.proofs.Math.Nat.{pow-suc, pow-le-pow_right}
use Rattle.std.proofs.lemmas.List.{at_drop_more, drop_all}
use Rattle.std.proofs.lemmas.Str.{digit_value_digit}
use Rattle.std.proofs.lemmas.Str.Parse.{digit_from_value}
use Rattle.std.proofs.lemmas.Fmt.{decimal_is_IsNumeral, length-decimal-le}
use Rattle.peg_text.specs.Decimal.{is_short_numeral, decimal_of, DecimalsReadBack}

-- the first digits have been read as this number: the rest of the text says what the whole text says
pub record ReadsOn (text : List ℕ) (number index : ℕ) : Type 0 where
  pub value : digits_value_after 10 number (drop index text) ≡ digits_value 10 text
  pub digits : list_all is_ascii_digit (drop index text) ≡ list_all is_ascii_digit text

pub ReadsOn-none : (text : List ℕ) → ReadsOn text 0 0
ReadsOn-none text = record { value = refl; digits = refl }

-- a digit's value is its distance from '0'
pub digit_value-is : (b : ℕ) → is_ascii_digit b ≡ true → digit_value b ≡ b - 48
digit_value-is b is =
    let range = and_parts (leb 48 b) (leb b 57) is in
    let low : 48 ≤ b = leb-true 48 b range.0 in
    let high : b ≤ 57 = leb-true b 57 range.1 in
    omega (arith, digit_value_digit b (low, high))

pub digit_small : (b : ℕ) → is_ascii_digit b ≡ true → b - 48 ≤ 9
digit_small b is = omega (arith, leb-true b 57 (and_parts (leb 48 b) (leb b 57) is).1)

pub le_after : (n : ℕ) (cs : List ℕ) → n ≤ digits_value_after 10 n cs
le_after n [] = omega arith
le_after n (c ∷ cs) = omega (arith, le_after (n * 10 + digit_value c) cs)

not_short : (text : List ℕ) → is_short_numeral text ≡ false → decimal_of text ≡ None
not_short text isnt = cond-false _ _ _ (and_left _ _ isnt)

pub none_empty : (text : List ℕ) → length text ≡ 0 → decimal_of text ≡ None
none_empty text empty = not_short text (and_left _ _ (and_left _ _ (le-ltb 0 (length text) (omega arith))))

pub none_long : (text : List ℕ) → 20 < length text → decimal_of text ≡ None
none_long text long = not_short text (and_left _ _ (and_right _ _ (lt-leb (length text) 20 long)))

pub none_not_digits : (text : List ℕ) → list_all is_ascii_digit text ≡ false → decimal_of text ≡ None
none_not_digits text isnt = not_short text (and_right _ _ isnt)

pub none_big : (text : List ℕ) → 2 ^ 64 ≤ digits_value 10 text → decimal_of text ≡ None
none_big text big = cond-false _ _ _ (and_right _ _ (le-ltb _ _ big))

pub some_value : (text : List ℕ) → 0 < length text → length text ≤ 20 → list_all is_ascii_digit text ≡ true → digits_value 10 text < 2 ^ 64 → decimal_of text ≡ Some (digits_value 10 text)
some_value text some few digits small =
    cond-true _ _ _ (and_from _ _ (and_from _ _ (and_from _ _ (lt-ltb _ _ some) (le-leb _ _ few)) digits) (lt-ltb _ _ small))

-- what a text of digits, as `decimal_of` gives it, is
pub digits_of_some : (text : List ℕ) → is_short_numeral text ≡ true → list_all is_ascii_digit text ≡ true
digits_of_some text is = (and_parts _ _ is).1

module _ (text : List ℕ) (number index b : ℕ) where
  -- the rest of the text is this byte and further ones
  digits_next : ReadsOn text number index → index < length text → get_or text index 0 ≡ b → (is_ascii_digit b && list_all is_ascii_digit (drop (index + 1) text)) ≡ list_all is_ascii_digit text
  digits_next on inside is =
      ap (λ c. is_ascii_digit c && list_all is_ascii_digit (drop (index + 1) text)) (sym is) ∙ sym (at_drop_more (list_all is_ascii_digit) text index 0 inside) ∙ on.digits

  value_next : ReadsOn text number index → index < length text → get_or text index 0 ≡ b → digits_value_after 10 (number * 10 + digit_value b) (drop (index + 1) text) ≡ digits_value 10 text
  value_next on inside is =
      ap (λ c. digits_value_after 10 (number * 10 + digit_value c) (drop (index + 1) text)) (sym is) ∙ sym (at_drop_more (digits_value_after 10 number) text index 0 inside) ∙ on.value

  pub none_at : ReadsOn text number index → index < length text → get_or text index 0 ≡ b → is_ascii_digit b ≡ false → decimal_of text ≡ None
  none_at on inside is isnt = none_not_digits text (sym (digits_next on inside is) ∙ and_left _ _ isnt)

  pub none_past : ReadsOn text number index → index < length text → get_or text index 0 ≡ b → is_ascii_digit b ≡ true → 2 ^ 64 ≤ number * 10 + (b - 48) → decimal_of text ≡ None
  none_past on inside is digit big =
      let value = value_next on inside is in
      let least = le_after (number * 10 + digit_value b) (drop (index + 1) text) in
      let same = digit_value-is b digit in
      none_big text (omega (arith, value, least, same))

  pub ReadsOn-more : ReadsOn text number index → index < length text → get_or text index 0 ≡ b → is_ascii_digit b ≡ true → ReadsOn text (number * 10 + (b - 48)) (index + 1)
  ReadsOn-more on inside is digit = record {
    value = ap (λ v. digits_value_after 10 (number * 10 + v) (drop (index + 1) text)) (sym (digit_value-is b digit)) ∙ value_next on inside is;
    digits = ap (λ t. t && list_all is_ascii_digit (drop (index + 1) text)) (sym digit) ∙ digits_next on inside is;
  }

-- a number of as many digits has a bound, and one of fewer than 19 takes a further digit below 2^64
pub below_next : (number index digit : ℕ) → number < 10 ^ index → digit ≤ 9 → number * 10 + digit < 10 ^ (index + 1)
below_next number index digit below small =
    let next : index + 1 ≡ suc index = omega arith in
    rw next (omega (arith, pow-suc 10 index))

pub takes_digit : (number index : ℕ) → number < 10 ^ index → index < 19 → number * 10 + 9 < 2 ^ 64
takes_digit number index below few =
    let next = below_next number index 9 below (omega arith) in
    let some : 0 < 10 = omega arith in
    let more : index + 1 ≤ 19 = omega arith in
    omega (arith, next, pow-le-pow_right some more)

pub some_at_end : (text : List ℕ) (number index : ℕ) → ReadsOn text number index → length text ≤ index → 0 < length text → length text ≤ 20 → number < 2 ^ 64 → decimal_of text ≡ Some number
some_at_end text number index on past some few small =
    let nothing = drop_all index text past in
    let value : number ≡ digits_value 10 text = ap (digits_value_after 10 number) (sym nothing) ∙ on.value in
    let digits : true ≡ list_all is_ascii_digit text = ap (list_all is_ascii_digit) (sym nothing) ∙ on.digits in
    some_value text some few (sym digits) (omega (arith, value)) ∙ ap Some (sym value)

-- std's word for digits, and the test
pub list_all-from_digits : (text : List ℕ) → AllDigits 10 text → list_all is_ascii_digit text ≡ true
list_all-from_digits [] all = refl
list_all-from_digits (c ∷ cs) all =
    let range = digit_from_value c all.0 in
    and_from _ _ (and_from _ _ (le-leb 48 c range.0) (le-leb c 57 range.1)) (list_all-from_digits cs all.1)

pub decimals_read_back : DecimalsReadBack
decimals_read_back n small =
    let numeral = decimal_is_IsNumeral n small in
    some_value (decimal n) numeral.0.0 (length-decimal-le 20 n (omega arith) (omega arith) small) (list_all-from_digits (decimal n) numeral.0.1) (omega (arith, numeral.1)) ∙ ap Some numeral.1
