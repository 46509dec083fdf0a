-- How the front of a record is quoted.
use Rattle.std.specs.Prelude.{ℕ, ◌+◌, ◌/◌, ◌%◌, ◌&&◌, ◌||◌, ◌==◌, nat_le, nat_lt, List, [], ◌∷◌, ◌++◌, if◌then◌else◌}
use Rattle.std.specs.List.{flat_map}
use Rattle.child.specs.declared.front.Front.{Front}

abbrev pub hex_digit : ℕ → ℕ
hex_digit d = if nat_lt d 10 then 48 + d else 87 + d

-- TAB as `\t`; a backslash before a quote or a backslash; any other printable byte of ASCII as it is, and others by `\x` and two digits
abbrev pub shown_byte : ℕ → List ℕ
shown_byte b =
    if b == 9 then 92 ∷ 116 ∷ []
    else if b == 34 || b == 92 then 92 ∷ b ∷ []
    else if nat_le 32 b && nat_lt b 127 then b ∷ []
    else 92 ∷ 120 ∷ hex_digit (b / 16) ∷ hex_digit (b % 16) ∷ []

-- the bytes in quotes, and ` ..` where the record has more
abbrev pub quoted : Front → List ℕ
quoted front = 34 ∷ (flat_map shown_byte front.bytes.items ++ (if front.is_cut then 34 ∷ 32 ∷ 46 ∷ 46 ∷ [] else 34 ∷ []))
