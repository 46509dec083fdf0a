-- The fields of a record's value.
use Rattle.std.specs.Prelude.{ℕ, ◌+◌, ◌==◌, ◌&&◌, Bool, nat_lt, List, [], ◌∷◌, Option, Some, None, option_map, option_and_then, position, take, drop, if◌then◌else◌}
use Rattle.peg_text.specs.Decimal.{decimal_of}

-- a number below n
abbrev pub below : ℕ → ℕ → Option ℕ
below n k = if nat_lt k n then Some k else None

-- a decimal below n
abbrev pub number_below : ℕ → List ℕ → Option ℕ
number_below n text = option_and_then (below n) (decimal_of text)

-- what follows a tag and a blank
abbrev pub tagged : ℕ → List ℕ → Option (List ℕ)
tagged tag [] = None
tagged tag (t ∷ []) = None
tagged tag (t ∷ b ∷ rest) = if (t == tag) && (b == 32) then Some rest else None

abbrev pub is_blank : ℕ → Bool
is_blank b = b == 32

abbrev pub parts_at : List ℕ → ℕ → List ℕ × List ℕ
parts_at text at = (take at text, drop (at + 1) text)

-- the texts before and after the first blank, if there is one
abbrev pub around_blank : List ℕ → Option (List ℕ × List ℕ)
around_blank text = option_map (parts_at text) (position is_blank text)
