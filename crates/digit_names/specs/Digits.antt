-- Numbers in names, each in a set number of digits.
use Rattle.std.specs.Prelude.{◌≡◌, ℕ, zero, suc, ◌+◌, ◌-◌, ◌/◌, ◌%◌, ◌^◌, ◌<◌, Bool, false, not, ◌&&◌, ◌==◌, List, [], ◌∷◌, ◌++◌, length, codes}
use Rattle.std.specs.List.{list_all}
use Rattle.peg_base.specs.NameText.{is_name_byte}

-- the last `width` decimal digits of a number
unfoldable pub digits : ℕ → ℕ → List ℕ
digits zero number = []
digits (suc width) number = digits width (number / 10) ++ (48 + number % 10) ∷ []

-- bytes of a name, at least one, of which the first is no dot: what a name may begin with
abbrev pub begins_name : List ℕ → Bool
begins_name [] = false
begins_name (b ∷ bs) = is_name_byte b && not (b == 46) && list_all is_name_byte bs

-- ---- laws

-- as many digits as there are to be
abbrev pub DigitsHaveTheirWidth : Type 0
DigitsHaveTheirWidth = (width number : ℕ) → length (digits width number) ≡ width

-- numbers that fit the width have digits of their own
abbrev pub DigitsTellNumbers : Type 0
DigitsTellNumbers =
    (width one other : ℕ) → one < 10 ^ width → other < 10 ^ width → digits width one ≡ digits width other → one ≡ other

-- shorter numbers are filled with zeros
abbrev pub DigitsByExample : Type 0
DigitsByExample =
    (digits 5 0 ≡ codes "00000") × (digits 5 63 ≡ codes "00063") × (digits 20 (2 ^ 64 - 1) ≡ codes "18446744073709551615")
