-- What is shown of a record for which bytes aren't taken.
use Rattle.std.specs.Prelude.{◌≡◌, ℕ, List, ◌++◌}
use Rattle.peg_text.specs.Records.{records_of}
use Rattle.gimv_base.specs.Rules.{Rule}
use Rattle.child.specs.declared.front.Front.{Front}
use Rattle.child.specs.declared.fronts.Fronts.{Fronts}
use Rattle.child.specs.declared.status.ChildStatus.{ChildStatus}
use Rattle.child.specs.declared.status.ChildStatus.TheVariants as Status
use Rattle.child.specs.Feeding.{Fed, HasFed}
use Rattle.child.specs.Shown.{AreFronts, IsFrontOf, record_numbered}

-- where a record of further bytes was bad, this is its front, whatever follows
abbrev pub ShowsRefused : Fed → Fronts → List ℕ → Front → ChildStatus → Type 0
ShowsRefused before fronts piece front status =
    (line : ℕ) → status ≡ Status.BadLine line → (rule : Rule) (bytes outs later : List ℕ) → HasFed rule bytes before outs → AreFronts bytes fronts
    → IsFrontOf (record_numbered line (records_of ((bytes ++ piece) ++ later))) front

-- where a record was bad and nothing follows, this is its front
abbrev pub ShowsLast : Fed → Fronts → Front → ChildStatus → Type 0
ShowsLast before fronts front status =
    (line : ℕ) → status ≡ Status.BadLine line → (rule : Rule) (bytes outs : List ℕ) → HasFed rule bytes before outs → AreFronts bytes fronts
    → IsFrontOf (record_numbered line (records_of bytes)) front
