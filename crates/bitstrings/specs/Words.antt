-- Lists of words of 32 bits.
use Rattle.std.specs.Prelude.{ℕ, List, [], ◌∷◌, bit_or}
use Rattle.std.specs.Int.{w32, trailing_ones}
use Rattle.std.specs.List.{sum_by}

-- the words of two lists, each two of them with the bits of both
abbrev pub or_words : List ℕ → List ℕ → List ℕ
or_words [] others = []
or_words (w ∷ ws) [] = []
or_words (w ∷ ws) (o ∷ os) = bit_or w o ∷ or_words ws os

-- the number of the lowest bit that is 0, and 32 where there is none: as many bits below it are 1
abbrev pub first_zero : ℕ → ℕ
first_zero word = trailing_ones w32 word

-- the sum of the first-zero places
abbrev pub places : List ℕ → ℕ
places words = sum_by first_zero words
