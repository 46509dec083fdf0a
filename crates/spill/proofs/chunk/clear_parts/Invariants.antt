use Rattle.std.proofs.Common.{◌≡◌, []}
use Rattle.std.specs.List.{AllWithin}
use Rattle.spill.proofs.chunk.clear_parts.Given as goal

abbrev pub invariant-loop-entries : goal.invariant-loop-entries
invariant-loop-entries l = AllWithin (λ entries. entries.items ≡ []) l.parts 0 l.entries-index
