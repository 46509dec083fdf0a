-- A decimal text without its leading zeros is how its number is written.
use Rattle.std.proofs.Common.{◌≡◌, ◌≢◌, ℕ, ◌+◌, ◌<◌, ◌≤◌, ◌^◌, ◌&&◌, ◌⊎◌, inl, inr, true, List, ◌∷◌, IfSome, length, get_or, drop, decimal, nat_lt, refl, sym, ap, ◌∙◌, arith, length-drop, rules}
use Rattle.std.specs.List.{list_all}
use Rattle.std.specs.Char.{is_ascii_digit}
use Rattle.std.specs.Str.Parse.{digits_value}
use Rattle.std.proofs.lemmas.Bool.{cases_Bool, and_parts, ltb-true}
use Rattle.std.proofs.lemmas.List.{at_drop_more, get_or-drop}
use Rattle.std.proofs.lemmas.Str.Parse.{IsDigitsTest, IsNumeralModel, numerals_by_value}
use Rattle.std.proofs.lemmas.Fmt.{decimal-digits_value}
use Rattle.peg_text.specs.Decimal.{is_short_numeral, decimal_of}

-- what follows the first zeros has the same digits and the same number
pub record FollowsZeros (text : List ℕ) (zeros : ℕ) : Type 0 where
  pub value : digits_value 10 (drop zeros text) ≡ digits_value 10 text
  pub digits : list_all is_ascii_digit (drop zeros text) ≡ list_all is_ascii_digit text
  pub inside : 0 < length text → zeros < length text
  pub within : zeros ≤ length text

pub FollowsZeros-none : (text : List ℕ) → FollowsZeros text 0
FollowsZeros-none text = record { value = refl; digits = refl; inside = λ some. some; within = omega arith }

pub FollowsZeros-more : (text : List ℕ) (zeros : ℕ) → FollowsZeros text zeros → zeros + 1 < length text → get_or text zeros 0 ≡ 48 → FollowsZeros text (zeros + 1)
FollowsZeros-more text zeros so inside is =
    let here : zeros < length text = omega arith in
    record {
      value =
          sym (at_drop_more (digits_value 10) text zeros 0 here ∙ ap (λ (b : ℕ). digits_value 10 (b ∷ drop (zeros + 1) text)) is) ∙ so.value;
      digits =
          sym (at_drop_more (list_all is_ascii_digit) text zeros 0 here ∙ ap (λ (b : ℕ). list_all is_ascii_digit (b ∷ drop (zeros + 1) text)) is) ∙ so.digits;
      inside = λ some. inside;
      within = omega arith;
    }

digits_test : IsDigitsTest (λ ds. list_all is_ascii_digit ds ≡ true)
digits_test = search rules

pub digit_numerals : IsNumeralModel (λ ds. list_all is_ascii_digit ds ≡ true) (digits_value 10)
digit_numerals = numerals_by_value (λ ds. list_all is_ascii_digit ds ≡ true) digits_test

-- digits with no leading zero, or just one, are how their number is written
written_of_digits : (ds : List ℕ) → list_all is_ascii_digit ds ≡ true → 0 < length ds → (get_or ds 0 0 ≡ 48 → length ds ≡ 1) → digits_value 10 ds < 2 ^ 64 → decimal (digits_value 10 ds) ≡ ds
written_of_digits = decimal-digits_value digit_numerals

-- the zeros end at the last digit, or at one that is none
first_is_last : (text : List ℕ) (zeros : ℕ) → zeros < length text → (length text ≤ zeros + 1) ⊎ (get_or text zeros 0 ≢ 48) → get_or (drop zeros text) 0 0 ≡ 48 → length (drop zeros text) ≡ 1
first_is_last text zeros inside (inl last) zero = omega (arith, length-drop zeros text)
first_is_last text zeros inside (inr other) zero =
    let same : zeros ≡ zeros + 0 = omega arith in
    absurd (other (ap (λ (k : ℕ). get_or text k 0) same ∙ sym (get_or-drop zeros text 0 0) ∙ zero))

pub without_zeros_is : (text : List ℕ) (zeros : ℕ) → FollowsZeros text zeros → (length text ≤ zeros + 1) ⊎ (get_or text zeros 0 ≢ 48) → IfSome (decimal_of text) (λ n. drop zeros text ≡ decimal n)
without_zeros_is text zeros so end =
    elim (cases_Bool (is_short_numeral text && nat_lt (digits_value 10 text) (2 ^ 64))) [
      | inl is ↦
          let parts = and_parts (is_short_numeral text) (nat_lt (digits_value 10 text) (2 ^ 64)) is in
          let short : is_short_numeral text ≡ true = parts.0 in
          let small : digits_value 10 text < 2 ^ 64 = ltb-true _ _ parts.1 in
          let some : 0 < length text = ltb-true _ _ (and_parts _ _ (and_parts _ _ short).0).0 in
          let inside : zeros < length text = so.inside some in
          let rest : 0 < length (drop zeros text) = omega (arith, length-drop zeros text) in
          let same : digits_value 10 (drop zeros text) < 2 ^ 64 = rw so.value small in
          let written = written_of_digits (drop zeros text) (so.digits ∙ (and_parts _ _ short).1) rest (first_is_last text zeros inside end) same in
          rw is (sym written ∙ ap decimal so.value)
      | inr isnt ↦ rw isnt tt
    ]
