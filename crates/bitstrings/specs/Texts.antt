-- Words in hexadecimal digits, and sums as decimals.
use Rattle.std.specs.Prelude.{ℕ, zero, suc, ◌+◌, ◌-◌, ◌*◌, ◌/◌, ◌%◌, ◌^◌, ◌==◌, ◌&&◌, nat_lt, nat_le, List, [], ◌∷◌, ◌++◌, length, map, take, drop, slice_index, Option, Some, None, option_and_then, decimal, if◌then◌else◌}
use Rattle.std.specs.List.{flat_map, range_with_len, slice_split}
use Rattle.peg_text.specs.Decimal.{decimal_of}
use Rattle.bitstrings.specs.Bitstrings.{Bitstrings}
use Rattle.bitstrings.specs.Options.{all_some, both_some}

-- a hexadecimal digit, in lower case
abbrev pub hex_digit : ℕ → ℕ
hex_digit d = if nat_lt d 10 then 48 + d else 87 + d

abbrev pub digit_of : ℕ → Option ℕ
digit_of b =
    if nat_le 48 b && nat_le b 57 then Some (b - 48)
    else if nat_le 97 b && nat_le b 102 then Some (b - 87)
    else None

-- the lowest n digits of a number, the highest of these first
abbrev pub hex_digits : ℕ → ℕ → List ℕ
hex_digits zero number = []
hex_digits (suc n) number = hex_digit (number / 2 ^ (4 * n) % 16) ∷ hex_digits n number

abbrev pub word_text : ℕ → List ℕ
word_text word = hex_digits 8 word

abbrev pub words_text : List ℕ → List ℕ
words_text words = flat_map word_text words

-- the number that digits write behind those of a number
abbrev pub number_after : ℕ → List ℕ → Option ℕ
number_after number [] = Some number
number_after number (b ∷ bs) = option_and_then (λ d. number_after (16 * number + d) bs) (digit_of b)

-- word l of 256 digits has the 8 digits from 8 * l on
unfoldable pub word_at : List ℕ → ℕ → Option ℕ
word_at text l = number_after 0 (take 8 (drop (8 * l) text))

-- so many words from one on
unfoldable pub words_from : List ℕ → ℕ → ℕ → Option (List ℕ)
words_from text l n = all_some (map (word_at text) (range_with_len l n))

unfoldable pub words_of : List ℕ → Option (List ℕ)
words_of text = if length text == 256 then words_from text 0 32 else None

-- each sum behind a colon
abbrev pub sum_text : ℕ → List ℕ
sum_text sum = 58 ∷ decimal sum

abbrev pub sums_text : List ℕ → List ℕ
sums_text sums = flat_map sum_text sums

abbrev pub bounded : ℕ → Option ℕ
bounded sum = if nat_le sum 1024 then Some sum else None

abbrev pub sum_of : List ℕ → Option ℕ
sum_of text = option_and_then bounded (decimal_of text)

abbrev pub few : List ℕ → Option (List ℕ)
few sums = if nat_le (length sums) 257 then Some sums else None

-- one sum or more, with a colon between each two
unfoldable pub sums_of : List ℕ → Option (List ℕ)
sums_of text = option_and_then few (all_some (map sum_of (slice_split (λ b. b == 58) text)))

-- what a node keeps: 256 digits, and then the sums
abbrev pub bitstrings_text : Bitstrings → List ℕ
bitstrings_text v = words_text v.words ++ sums_text v.sums

abbrev pub made_of : List ℕ → List ℕ → Bitstrings
made_of words sums = record { words = words; sums = sums }

unfoldable pub bitstrings_of : List ℕ → Option Bitstrings
bitstrings_of text =
    if nat_lt 256 (length text) && (slice_index text 256 == 58) then both_some made_of (words_of (take 256 text)) (sums_of (drop 257 text))
    else None
