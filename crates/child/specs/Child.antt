-- What a child reads and writes.
use Rattle.std.specs.Prelude.{◌≡◌, ◌≢◌, ℕ, ◌-◌, ◌≤◌, ◌<◌, ◌⊎◌, List, ◌++◌, Option, Some, None, IfSome, length, take}
use Rattle.peg_text.specs.Records.{cut_of, records_of}
use Rattle.dir_disk.specs.Causes.{Rose}
use Rattle.dir_disk.specs.Streams.{AddsPart, AtEnd, added, onto}
use Rattle.gimv_base.specs.Rules.{Rule, role_out, complete}
use Rattle.child.specs.Judging.{most_bytes, judged_records, AreTooMany, IsBadAmong}
use Rattle.child.specs.declared.status.ChildStatus.{ChildStatus}
use Rattle.child.specs.declared.status.ChildStatus.TheVariants as Status

-- no record of the bytes is bad, they are not too many, and all that they give was written
pub record WritesAll (rule : Rule) (bytes : List ℕ) (before now : Option (List ℕ)) : Type 0 where
  pub good : (role_out rule (records_of bytes)).bad ≡ None
  pub few : length bytes ≤ most_bytes
  pub is : now ≡ added before (role_out rule (records_of bytes)).out

-- the source was read to its end, and what its bytes give was written
pub record IsDone (rule : Rule) (left left' before now : Option (List ℕ)) : Type 0 where
  pub read : AtEnd left'
  pub all : IfSome left (λ bytes. WritesAll rule bytes before now)

-- the first bad record of the bytes; where there is a byte too many, it is bad by the records that ended before this byte
pub record IsFirstBad (rule : Rule) (bytes : List ℕ) (line : ℕ) : Type 0 where
  pub first : (role_out rule (records_of bytes)).bad ≡ Some line
  pub early : most_bytes < length bytes → IsBadAmong rule (judged_records bytes) line

-- some of what the bytes give, from its front, was written
abbrev pub WritesPart : Rule → Option (List ℕ) → Option (List ℕ) → Option (List ℕ) → Type 0
WritesPart rule left before now = IfSome left (λ bytes. AddsPart before now (role_out rule (records_of bytes)).out)

-- what the complete groups give of the records that an LF ends
abbrev pub answer_to : Rule → List ℕ → List ℕ
answer_to rule bytes = (role_out rule (complete rule (cut_of bytes).whole)).out

-- a piece of a source
abbrev pub piece_length : ℕ
piece_length = 65536

-- these bytes were read, and at least the answer to all but the last piece of them was written
pub record IsStreamed (rule : Rule) (left left' before now : Option (List ℕ)) : Type 0 where
  pub bytes : List ℕ
  pub read : left ≡ onto bytes left'
  pub more : List ℕ
  pub is : now ≡ added before (answer_to rule (take (length bytes - piece_length) bytes) ++ more)

-- what is seen of a source and a sink: what is left to read, what was written, and how often each has failed
pub record Streams : Type 0 where
  pub left : Option (List ℕ)
  pub written : Option (List ℕ)
  pub read_faults : ℕ
  pub write_faults : ℕ

abbrev pub streams : Option (List ℕ) → Option (List ℕ) → ℕ → ℕ → Streams
streams left written read_faults write_faults =
    record { left = left; written = written; read_faults = read_faults; write_faults = write_faults }

-- what a child of this role answers, and what it has read and written then
pub record Runs (rule : Rule) (status : ChildStatus) (old new : Streams) : Type 0 where
  pub done : status ≡ Status.Ok → IsDone rule old.left new.left old.written new.written
  pub bad : (line : ℕ) → status ≡ Status.BadLine line → IfSome old.left (λ bytes. IsFirstBad rule bytes line)
  pub too_large : status ≡ Status.TooLarge → IfSome old.left (AreTooMany rule)
  pub fault : status ≡ Status.Fault → Rose old.read_faults new.read_faults ⊎ Rose old.write_faults new.write_faults
  pub known : status ≢ Status.Usage
  pub part : WritesPart rule old.left old.written new.written
  pub stream : IsStreamed rule old.left new.left old.written new.written
  pub later : (old.read_faults ≤ new.read_faults) × (old.write_faults ≤ new.write_faults)
  pub steady_source : status ≢ Status.Fault → new.read_faults ≡ old.read_faults
  pub steady_sink : status ≢ Status.Fault → new.write_faults ≡ old.write_faults
