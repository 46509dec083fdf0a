-- What the splits of a file are good for, as laws.
use Rattle.std.specs.Prelude.{◌≡◌, ℕ, ◌<◌, ◌≤◌, List, length, filter}
use Rattle.std.specs.List.{flat_map}
use Rattle.peg_text.specs.Records.{records_of}
use Rattle.splits.specs.Table.{splits_of}
use Rattle.splits.specs.Lines.{Line, belongs, split_lines}

-- the lines of a file's splits, one split after the other, are the file's records: none is left out, none comes twice
abbrev pub SplitsCoverEachLineOnce : Type 0
SplitsCoverEachLineOnce =
    (bytes : List ℕ) (split : ℕ) → 1 ≤ split → flat_map (λ s. split_lines s bytes) (splits_of (length bytes) split) ≡ records_of bytes

-- wherever a line begins in a file, it belongs to just one of the file's splits
abbrev pub EachLineIsInOneSplit : Type 0
EachLineIsInOneSplit =
    (len split : ℕ) (line : Line) → 1 ≤ split → line.begin < len → length (filter (λ s. belongs s line) (splits_of len split)) ≡ 1
