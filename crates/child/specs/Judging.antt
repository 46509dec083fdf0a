-- Which records are bad by themselves, whatever follows them.
use Rattle.std.specs.Prelude.{◌≡◌, ◌≢◌, ℕ, ◌^◌, ◌≤◌, ◌<◌, List, ◌++◌, Some, length, take}
use Rattle.peg_text.specs.Records.{cut_of}
use Rattle.gimv_base.specs.Rules.{Rule, role_out}

-- the most bytes that a child reads
abbrev pub most_bytes : ℕ
most_bytes = 2 ^ 50

-- the records that an LF ends among the bytes that a child reads at most
abbrev pub judged_records : List ℕ → List (List ℕ)
judged_records bytes = (cut_of (take most_bytes bytes)).whole

-- whatever follows these records, the first bad one is among them and has this number
pub record IsBadAmong (rule : Rule) (records : List (List ℕ)) (line : ℕ) : Type 0 where
  pub inside : line ≤ length records
  pub bad : (later : List (List ℕ)) → (role_out rule (records ++ later)).bad ≡ Some line

-- some records may follow with which none of these is bad: a group that may still go on isn't taken as ended
pub record AreGood (rule : Rule) (records : List (List ℕ)) : Type 0 where
  pub later : List (List ℕ)
  pub good : (line : ℕ) → line ≤ length records → (role_out rule (records ++ later)).bad ≢ Some line

-- there is a byte too many, and no record that ended before it is bad by these records alone
pub record AreTooMany (rule : Rule) (bytes : List ℕ) : Type 0 where
  pub many : most_bytes < length bytes
  pub good : AreGood rule (judged_records bytes)
