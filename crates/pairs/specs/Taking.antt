-- Lines that are taken out of bytes as pairs.
use Rattle.std.specs.Prelude.{◌≡◌, ℕ, ◌+◌, ◌-◌, ◌≤◌, List, ◌∷◌, ◌++◌, length, take, drop}
use Rattle.peg_text.specs.Cursor.{IsSearched}
use Rattle.pairs.specs.declared.pair_buf.Place.{Place}
use Rattle.pairs.specs.Pairs.{Pair, pairs_in}
use Rattle.pairs.specs.Prefixes.{AreBytes, prefix_of}

-- the pair that was taken last, and the bytes that no line was taken from yet
pub record Taken : Type 0 where
  pub head : Pair
  pub rest : List ℕ

-- however the bytes go on, their first pair is this one, and the others are those of what is left
abbrev pub TakesFirstPair : List ℕ → Pair → List ℕ → Type 0
TakesFirstPair bytes pair left =
    (more : List ℕ) → pairs_in (bytes ++ more) ≡ pair ∷ pairs_in (left ++ more)

-- ---- a line among bytes

-- what stands from one place up to another
abbrev pub line_of : List ℕ → ℕ → ℕ → List ℕ
line_of bytes start end = take (end - start) (drop start bytes)

-- a line as a pair, where the key's length is known
abbrev pub pair_at : List ℕ → ℕ → Pair
pair_at line key = (take key line, drop (key + 1) line)

-- the key of a line has this length and this prefix
pub record HasKey (line : List ℕ) (key prefix : ℕ) : Type 0 where
  pub inside : key ≤ length line
  pub prefix_is : prefix ≡ prefix_of (take key line)
  pub bytes : AreBytes (take key line)

-- the pair of a line among bytes
abbrev pub pair_in : List ℕ → Place → Pair
pair_in bytes place = pair_at (line_of bytes place.start place.end) place.key

-- a line stands there, and its key is known
pub record IsPlace (bytes : List ℕ) (place : Place) : Type 0 where
  pub ordered : place.start ≤ place.end
  pub inside : place.end ≤ length bytes
  pub has : HasKey (line_of bytes place.start place.end) place.key place.prefix

-- what is true of the fields
pub record IsTaking (bytes : List ℕ) (head : Place) (next searched : ℕ) : Type 0 where
  pub place : IsPlace bytes head
  pub scan : IsSearched bytes next searched
