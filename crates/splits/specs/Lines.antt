-- The lines of a file, and those of a split.
use Rattle.std.specs.Prelude.{ℕ, ◌+◌, ◌==◌, nat_lt, nat_le, Bool, ◌&&◌, ◌||◌, List, [], ◌∷◌, ◌++◌, length, map, filter}
use Rattle.std.specs.List.{flat_map}
use Rattle.peg_text.specs.Records.{records_of}
use Rattle.splits.specs.declared.table.Split.{Split}

-- a line without its LF, and the place of its first byte
pub record Line : Type 0 where
  pub begin : ℕ
  pub text : List ℕ

-- these records as lines of which the first one begins here; an LF stands between two of them
abbrev pub lines_from : ℕ → List (List ℕ) → List Line
lines_from begin [] = []
lines_from begin (text ∷ texts) =
    record { begin = begin; text = text } ∷ lines_from (begin + length text + 1) texts

abbrev pub lines_of : List ℕ → List Line
lines_of bytes = lines_from 0 (records_of bytes)

-- a line belongs to a split if it begins behind the split's start, and not behind its end; the file's first line belongs to the first split
abbrev pub belongs : Split → Line → Bool
belongs split line =
    (nat_lt split.start line.begin && nat_le line.begin split.end) || (split.start == 0 && line.begin == 0)

-- the lines of a split of these bytes
unfoldable pub split_lines : Split → List ℕ → List (List ℕ)
split_lines split bytes = map (λ (line : Line). line.text) (filter (belongs split) (lines_of bytes))

-- lines as a text, each followed by an LF
abbrev pub lines_text : List (List ℕ) → List ℕ
lines_text lines = flat_map (λ line. line ++ 10 ∷ []) lines
