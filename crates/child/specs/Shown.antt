-- What is shown of a record.
use Rattle.std.specs.Prelude.{◌≡◌, ℕ, nat_lt, List, [], ◌∷◌, Option, IfSome, get_or, take, length}
use Rattle.peg_text.specs.Records.{cut_of, records_of}
use Rattle.child.specs.declared.front.Front.{Front}
use Rattle.child.specs.declared.fronts.Fronts.{Fronts}
use Rattle.child.specs.declared.status.ChildStatus.{ChildStatus}
use Rattle.child.specs.declared.status.ChildStatus.TheVariants as Status

-- the most bytes of a record that are shown
abbrev pub most_shown : ℕ
most_shown = 80

-- the first bytes of a record, and whether it has more
pub record IsFrontOf (text : List ℕ) (front : Front) : Type 0 where
  pub bytes : front.bytes.items ≡ take most_shown text
  pub is_cut : front.is_cut ≡ nat_lt most_shown (length text)

-- the record of this number, from 1; an empty one where none has it
abbrev pub record_numbered : ℕ → List (List ℕ) → List ℕ
record_numbered line records = get_or ([] ∷ records) line []

-- where a record of these bytes was bad, this is its front
abbrev pub ShowsBad : ChildStatus → Option (List ℕ) → Front → Type 0
ShowsBad status left front =
    (line : ℕ) → status ≡ Status.BadLine line → IfSome left (λ bytes. IsFrontOf (record_numbered line (records_of bytes)) front)

-- the last of the records that an LF ended, and what has come of the next
pub record AreFronts (bytes : List ℕ) (fronts : Fronts) : Type 0 where
  pub last : IsFrontOf (record_numbered (length (cut_of bytes).whole) (cut_of bytes).whole) fronts.last
  pub begun : IsFrontOf (cut_of bytes).rest fronts.begun
