-- What the reading of a word tells of it.
use Rattle.std.specs.Prelude.{◌≡◌, ◌↔◌, ℕ, ◌≤◌, true, List, ◌++◌, Some}
use Rattle.peg_text.specs.Decimal.{decimal_of}
use Rattle.words.specs.Words.{after_prefix, is_word, number_between}

-- a word is just a text exactly where the two are equal
abbrev pub WordsAreEqual : Type 0
WordsAreEqual = (word text : List ℕ) → (is_word word text ≡ true) ↔ (word ≡ text)

-- a text stands in a word behind a prefix exactly where the word is the prefix and then the text
abbrev pub PrefixesSplit : Type 0
PrefixesSplit = (prefix word rest : List ℕ) → (after_prefix prefix word ≡ Some rest) ↔ (word ≡ prefix ++ rest)

-- the limits of a number belong to what is taken
abbrev pub NumbersAreWithin : Type 0
NumbersAreWithin = (least most n : ℕ) (text : List ℕ)
    → (number_between least most text ≡ Some n) ↔ ((decimal_of text ≡ Some n) × (least ≤ n) × (n ≤ most))
