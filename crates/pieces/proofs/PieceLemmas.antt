-- What an append leaves of the file that bytes were gathered for.
use Rattle.std.proofs.Common.{◌≡◌, ◌∙◌, ap, sym, ℕ, List, ◌++◌, Some, append_assoc}
use Rattle.peg_base.specs.Names.{Names}
use Rattle.peg_base.proofs.Under.{same_path_comm}
use Rattle.dir_disk.specs.State.{Held, State, after_append}
use Rattle.dir_disk.specs.Calls.{CanAppend}
use Rattle.dir_disk.specs.Keeping.{StandsBut}
use Rattle.dir_disk.proofs.Keeping.{appended_now, not_appended}
use Rattle.pieces.specs.Pieces.{gathered}

pub appended_others : (target : Names) (bytes : List ℕ) (s t : State) → t ≡ after_append target bytes s → StandsBut target s t
appended_others target bytes s t is q other = ap (λ (u : State). u q) is ∙ not_appended target bytes s q other

pub can_still : (target : Names) (s t : State) → CanAppend s target → StandsBut target s t → CanAppend t target
can_still target s t can stands =
    record {
      named = can.named;
      is_open = λ q above other. ap (λ (h : Held). h.now) (stands q (sym (same_path_comm q target) ∙ other)) ∙ can.is_open q above other;
      nothing_under = λ q below other. ap (λ (h : Held). h.now) (stands q other) ∙ can.nothing_under q below other;
    }

-- what was gathered is in the file then
pub gathered_after : (target : Names) (bytes : List ℕ) (s t : State) → t ≡ after_append target bytes s → (t target).now ≡ Some (gathered target s bytes)
gathered_after target bytes s t is = ap (λ (u : State). (u target).now) is ∙ appended_now target bytes s

pub gathered_more : (target : Names) (s : State) (piece line : List ℕ) → gathered target s (piece ++ line) ≡ gathered target s piece ++ line
gathered_more target s piece line = sym (append_assoc _ piece line)
