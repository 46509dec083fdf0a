-- Numbers as text.
use Rattle.std.specs.Prelude.{◌≡◌, ℕ, ◌^◌, ◌<◌, ◌&&◌, List, Option, Some, None, length, decimal, nat_lt, nat_le, Bool, if◌then◌else◌}
use Rattle.std.specs.List.{list_all}
use Rattle.std.specs.Char.{is_ascii_digit}
use Rattle.std.specs.Str.Parse.{digits_value}

-- 1 to 20 decimal digits and nothing else
abbrev pub is_short_numeral : List ℕ → Bool
is_short_numeral text = nat_lt 0 (length text) && nat_le (length text) 20 && list_all is_ascii_digit text

-- the number that a text of 1 to 20 digits writes, where it is below 2^64
abbrev pub decimal_of : List ℕ → Option ℕ
decimal_of text =
    if is_short_numeral text && nat_lt (digits_value 10 text) (2 ^ 64) then Some (digits_value 10 text) else None

-- each number below 2^64 is read back from its text
abbrev pub DecimalsReadBack : Type 0
DecimalsReadBack = (n : ℕ) → n < 2 ^ 64 → decimal_of (decimal n) ≡ Some n
