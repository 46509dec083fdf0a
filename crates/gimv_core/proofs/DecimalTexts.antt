-- A text of digits is plain.
use Rattle.std.proofs.Common.{◌≡◌, ℕ, ◌<◌, ◌^◌, ◌≢◌, ◌⊎◌, inl, inr, ◌&&◌, true, List, [], ◌∷◌, Some, IfSome, All, IsTrue, decimal, leb, nat_lt, arith}
use Rattle.std.specs.List.{list_all}
use Rattle.std.specs.Char.{is_ascii_digit}
use Rattle.std.specs.Str.Parse.{digits_value}
use Rattle.std.proofs.lemmas.Bool.{cases_Bool, and_parts, leb-true}
use Rattle.std.proofs.lemmas.Fmt.{decimal_is_IsNumeral}
use Rattle.std.proofs.lemmas.List.Elements.{All-nil, All-cons}
use Rattle.peg_text.specs.Decimal.{is_short_numeral, decimal_of}
use Rattle.graph.specs.Laws.{is_of_64_bits}
use Rattle.peg_text.proofs.DecimalLemmas.{list_all-from_digits, digits_of_some, decimals_read_back}
use Rattle.gimv_core.specs.Texts.{IsPlainItem}
use Rattle.gimv_core.proofs.Numbers.{small_of_64_bits}

All-digits : (P : ℕ → Type 0) → ((b : ℕ) → is_ascii_digit b ≡ true → P b) → (text : List ℕ) → list_all is_ascii_digit text ≡ true → All P text
All-digits P each [] is = All-nil P
All-digits P each (b ∷ bs) is =
    let parts = and_parts (is_ascii_digit b) (list_all is_ascii_digit bs) is in
    All-cons P b bs (each b parts.0) (All-digits P each bs parts.1)

-- a digit is no byte below '0' or above '9'
digit_is_not : (b other : ℕ) → (other < 48) ⊎ (57 < other) → is_ascii_digit b ≡ true → b ≢ other
digit_is_not b other (inl low) is same =
    let range = and_parts (leb 48 b) (leb b 57) is in let le = leb-true 48 b range.0 in omega arith
digit_is_not b other (inr high) is same =
    let range = and_parts (leb 48 b) (leb b 57) is in let le = leb-true b 57 range.1 in omega arith

pub digits_plain : (text : List ℕ) → list_all is_ascii_digit text ≡ true → IsPlainItem text
digits_plain text is = record {
  as_val = record {
    no_tab = All-digits _ (λ b. digit_is_not b 9 (inl (omega arith))) text is;
    no_lf = All-digits _ (λ b. digit_is_not b 10 (inl (omega arith))) text is;
    no_blank = All-digits _ (λ b. digit_is_not b 32 (inl (omega arith))) text is;
    no_comma = All-digits _ (λ b. digit_is_not b 44 (inl (omega arith))) text is;
  };
  no_colon = All-digits _ (λ b. digit_is_not b 58 (inr (omega arith))) text is;
}

pub decimal_digits : (n : ℕ) → n < 2 ^ 64 → list_all is_ascii_digit (decimal n) ≡ true
decimal_digits n small = list_all-from_digits (decimal n) (decimal_is_IsNumeral n small).0.1

pub decimal_plain : (n : ℕ) → n < 2 ^ 64 → IsPlainItem (decimal n)
decimal_plain n small = digits_plain (decimal n) (decimal_digits n small)

-- what is read as a decimal is a number of 64 bits, and its text is plain
pub decimal_of_fits : (text : List ℕ) → IfSome (decimal_of text) (λ n. IsTrue (nat_lt n (2 ^ 64)))
decimal_of_fits text =
    elim (cases_Bool (is_short_numeral text && nat_lt (digits_value 10 text) (2 ^ 64))) [
      | inl is ↦ rw is ((and_parts _ _ is).1)
      | inr isnt ↦ rw isnt tt
    ]

pub decimal_of_plain : (text : List ℕ) → IfSome (decimal_of text) (λ n. IsPlainItem text)
decimal_of_plain text =
    elim (cases_Bool (is_short_numeral text && nat_lt (digits_value 10 text) (2 ^ 64))) [
      | inl is ↦ rw is (digits_plain text (digits_of_some text (and_parts _ _ is).0))
      | inr isnt ↦ rw isnt tt
    ]

-- what is written for a number of 64 bits
pub decimal_reads_back : (n : ℕ) → IsTrue (is_of_64_bits n) → decimal_of (decimal n) ≡ Some n
decimal_reads_back n fits = decimals_read_back n (small_of_64_bits n fits)

pub decimal_item : (n : ℕ) → IsTrue (is_of_64_bits n) → IsPlainItem (decimal n)
decimal_item n fits = decimal_plain n (small_of_64_bits n fits)
