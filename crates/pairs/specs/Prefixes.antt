-- The front of a text as a number.
use Rattle.std.specs.Prelude.{◌≡◌, ℕ, zero, suc, ◌+◌, ◌*◌, ◌<◌, List, All, slice_index_or}
use Rattle.std.specs.declared.cmp.Ordering.TheVariants.{Less}
use Rattle.pairs.specs.Pairs.{bytes_cmp}

-- the first bytes of a text as the digits of a number to the base 256, with zeros where the text has fewer
abbrev pub front_number : ℕ → List ℕ → ℕ
front_number zero text = 0
front_number (suc count) text = front_number count text * 256 + slice_index_or text count 0

-- the first eight bytes
abbrev pub prefix_of : List ℕ → ℕ
prefix_of = front_number 8

abbrev pub AreBytes : List ℕ → Type 0
AreBytes text = All (λ b. b < 256) text

-- a text with a lesser prefix comes first
abbrev pub LesserPrefixComesFirst : Type 0
LesserPrefixComesFirst =
    (one other : List ℕ) → AreBytes one → AreBytes other → prefix_of one < prefix_of other → bytes_cmp one other ≡ Less
