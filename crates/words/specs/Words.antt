-- The words that a program is started with, numbered from 0, and what stands in one.
use Rattle.std.specs.Prelude.{ℕ, Bool, ◌&&◌, List, [], Option, Some, None, option_and_then, length, take, drop, nat_eq, nat_le, slice_index_or, if◌then◌else◌}
use Rattle.std.specs.Cmp.Lexicographic.{pointwise}
use Rattle.peg_text.specs.Decimal.{decimal_of}

-- a word that isn't there counts as empty
abbrev pub word_at : List (List ℕ) → ℕ → List ℕ
word_at words k = slice_index_or words k []

-- whether a word is just this text
abbrev pub is_word : List ℕ → List ℕ → Bool
is_word word text = pointwise nat_eq word text

-- what stands in a word behind this prefix
abbrev pub after_prefix : List ℕ → List ℕ → Option (List ℕ)
after_prefix prefix word = if is_word (take (length prefix) word) prefix then Some (drop (length prefix) word) else None

-- the number, if it is in these limits
abbrev pub within : ℕ → ℕ → ℕ → Option ℕ
within least most n = if nat_le least n && nat_le n most then Some n else None

-- the number that a text writes in decimal, if it is in these limits
abbrev pub number_between : ℕ → ℕ → List ℕ → Option ℕ
number_between least most text = option_and_then (within least most) (decimal_of text)
