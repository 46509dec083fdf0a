-- How far the lines of a split are found and copied.
use Rattle.std.specs.Prelude.{◌≡◌, ◌≢◌, ℕ, ◌-◌, ◌<◌, ◌≤◌, nat_lt, Bool, false, List, [], drop, length, Option, Some, None, slice_index}
use Rattle.std.specs.List.{between}
use Rattle.peg_base.specs.Names.{Names, same_path}
use Rattle.peg_text.specs.Records.{cut_of, records_of}
use Rattle.dir_disk.specs.State.{State, bytes_at}
use Rattle.dir_disk.specs.Calls.{HasFile, CanAppend}
use Rattle.splits.specs.declared.copying.Progress.{Progress}
use Rattle.splits.specs.declared.table.Split.{Split}
use Rattle.splits.specs.Lines.{split_lines}

-- ---- LFs

abbrev pub HasNoLfBetween : List ℕ → ℕ → ℕ → Type 0
HasNoLfBetween bytes from to = (k : ℕ) → from ≤ k → k < to → slice_index bytes k ≢ 10

-- the first LF at or behind this place
pub record IsFirstLf (bytes : List ℕ) (from lf : ℕ) : Type 0 where
  pub behind : from ≤ lf
  pub inside : lf < length bytes
  pub is : slice_index bytes lf ≡ 10
  pub unbroken : HasNoLfBetween bytes from lf

-- where the line ends that goes on at this place: right behind its LF
abbrev pub IsLineEnd : List ℕ → ℕ → Option ℕ → Type 0
IsLineEnd bytes from None = HasNoLfBetween bytes from (length bytes)
IsLineEnd bytes from (Some end) = (1 ≤ end) × IsFirstLf bytes from (end - 1)

-- the last line has no LF yet
abbrev pub is_unended : List ℕ → Bool
is_unended bytes = nat_lt 0 (length (cut_of bytes).rest)

-- ---- the first line of a split

-- the lines up to the split's end of a file that begins with the split's first line
abbrev pub lines_up_to : ℕ → List ℕ → List (List ℕ)
lines_up_to end bytes = split_lines (record { start = 0; end = end }) bytes

-- the lines that begin from a place on, where one does, up to another one
abbrev pub lines_between : ℕ → ℕ → List ℕ → List (List ℕ)
lines_between from end bytes = lines_up_to (end - from) (drop from bytes)

-- where a split's first line begins; a split that has no line may have no such place
abbrev pub BeginsAt : List ℕ → Split → Option ℕ → Type 0
BeginsAt bytes split None = split_lines split bytes ≡ []
BeginsAt bytes split (Some from) =
    (from ≤ split.end) × (from ≤ length bytes) × (split_lines split bytes ≡ lines_between from split.end bytes)

-- ---- copying

-- nothing is copied yet
abbrev pub begun : ℕ → ℕ → Progress
begun from end = record { from = from; end = end; place = from; lines = 0; unended = false }

-- the text is what stands from the first line on up to the present place, with its LFs counted
pub record IsCopied (bytes text : List ℕ) (progress : Progress) : Type 0 where
  pub ordered : progress.from ≤ progress.place
  pub inside : progress.place ≤ length bytes
  pub is : text ≡ between progress.from progress.place bytes
  pub lines : progress.lines ≡ length (cut_of text).whole
  pub unended : progress.unended ≡ is_unended text

-- no line of the split has ended behind the split's end yet
pub record IsCopying (path out : Names) (state : State) (progress : Progress) : Type 0 where
  pub there : HasFile state path
  pub other : same_path out path ≡ false
  pub made : HasFile state out
  pub can : CanAppend state out
  pub ordered : progress.from ≤ progress.end
  pub copied : IsCopied (bytes_at state path) (bytes_at state out) progress
  pub unbroken : HasNoLfBetween (bytes_at state path) progress.end progress.place

-- the lines of the split are copied, but for the last one's LF if the file has none there
pub record HasCopied (path out : Names) (state : State) (progress : Progress) : Type 0 where
  pub made : HasFile state out
  pub can : CanAppend state out
  pub copied : IsCopied (bytes_at state path) (bytes_at state out) progress
  pub lines : records_of (bytes_at state out) ≡ lines_between progress.from progress.end (bytes_at state path)
