use Rattle.std.proofs.Common.{◌≡◌, [], length}
use Rattle.std.specs.List.{All}
use Rattle.spill.proofs.chunk.empty_parts.Given as goal

abbrev pub invariant-loop-part : goal.invariant-loop-part
invariant-loop-part l = record {
  none : All (λ entries. entries.items ≡ []) l.parts.items;
  len : length l.parts.items ≡ l._part;
}
