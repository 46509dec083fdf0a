-- What is known of a child after the bytes that were fed to it.
use Rattle.std.specs.Prelude.{◌≡◌, ℕ, ◌≤◌, List, ◌++◌, Some, length}
use Rattle.peg_text.specs.Records.{cut_of, records_of}
use Rattle.gimv_base.specs.Parts.{written}
use Rattle.gimv_base.specs.Rules.{Rule, role_out}
use Rattle.gimv_base.specs.Standings.{Standing}
use Rattle.child.specs.declared.feeding.Feeding.{Feeding}
use Rattle.child.specs.declared.status.ChildStatus.{ChildStatus}
use Rattle.child.specs.declared.status.ChildStatus.TheVariants as Status
use Rattle.child.specs.Judging.{most_bytes, judged_records, IsBadAmong, AreTooMany}
use Rattle.child.specs.Handing.{HasHanded}

-- where a role stands, the unfinished record, how many records were handed in, and how many bytes came
pub record Fed : Type 0 where
  pub standing : Standing
  pub held : List ℕ
  pub line : ℕ
  pub taken : ℕ

abbrev pub fed_of : {R : Type 0} → (R → Standing) → Feeding R → Fed
fed_of standing f = record { standing = standing f.role; held = f.held.items; line = f.line; taken = f.taken }

-- no more records were counted than bytes came, and these are not too many
pub record IsCounted (fed : Fed) : Type 0 where
  pub lines : fed.line ≤ fed.taken
  pub few : fed.taken ≤ most_bytes

-- these bytes came to a role that began with nothing, and this was written for them
pub record HasFed (rule : Rule) (bytes : List ℕ) (fed : Fed) (outs : List ℕ) : Type 0 where
  pub handed : HasHanded rule (cut_of bytes).whole fed.standing outs
  pub held : fed.held ≡ (cut_of bytes).rest
  pub line : fed.line ≡ length (cut_of bytes).whole
  pub taken : fed.taken ≡ length bytes

-- further bytes came, and this was written
pub record Feeds (before now : Fed) (bytes old new : List ℕ) : Type 0 where
  pub added : List ℕ
  pub grown : new ≡ old ++ added
  pub on : (rule : Rule) (so_far outs : List ℕ) → HasFed rule so_far before outs → HasFed rule (so_far ++ bytes) now (outs ++ added)

-- why the bytes of a source are refused
abbrev pub IsRefusal : Rule → List ℕ → ChildStatus → Type 0
IsRefusal rule bytes Status.Ok = ⊥
IsRefusal rule bytes Status.Usage = ⊥
IsRefusal rule bytes (Status.BadLine line) = IsBadAmong rule (judged_records bytes) line
IsRefusal rule bytes Status.TooLarge = AreTooMany rule bytes
IsRefusal rule bytes Status.NoMemory = Unit {0}
IsRefusal rule bytes Status.Fault = ⊥

-- why further bytes weren't taken
abbrev pub RefusesBytes : Fed → List ℕ → ChildStatus → Type 0
RefusesBytes before bytes status = (rule : Rule) (so_far outs : List ℕ) → HasFed rule so_far before outs → IsRefusal rule (so_far ++ bytes) status

-- nothing follows, and this was written last
pub record Finishes (before : Fed) (old new : List ℕ) : Type 0 where
  pub added : List ℕ
  pub grown : new ≡ old ++ added
  pub on : (rule : Rule) (so_far outs : List ℕ) → HasFed rule so_far before outs → role_out rule (records_of so_far) ≡ written (outs ++ added)

-- why bytes that nothing follows aren't good
abbrev pub IsLastRefusal : Rule → List ℕ → ChildStatus → Type 0
IsLastRefusal rule bytes Status.Ok = ⊥
IsLastRefusal rule bytes Status.Usage = ⊥
IsLastRefusal rule bytes (Status.BadLine line) = (role_out rule (records_of bytes)).bad ≡ Some line
IsLastRefusal rule bytes Status.TooLarge = ⊥
IsLastRefusal rule bytes Status.NoMemory = Unit {0}
IsLastRefusal rule bytes Status.Fault = ⊥

abbrev pub RefusesToFinish : Fed → ChildStatus → Type 0
RefusesToFinish before status = (rule : Rule) (so_far outs : List ℕ) → HasFed rule so_far before outs → IsLastRefusal rule so_far status
