use Rattle.std.proofs.Common.{◌≡◌, ℕ, List, map, length}
use Rattle.spill.specs.Lines.{lists_of}
use Rattle.spill.proofs.WritingLemmas.{NotedBelow}
use Rattle.spill.proofs.writing.note_runs.Given as goal

abbrev pub invariant-loop-entries : goal.invariant-loop-entries
invariant-loop-entries l = record {
  part : l.part ≡ l.entries-index;
  len : length l.runs.items ≡ length l.fn.runs.items;
  noted : (text : List ℕ) → NotedBelow l.folder l.flush (lists_of text l.parts) l.entries-index (map (λ paths. paths.items) l.fn.runs.items) (map (λ paths. paths.items) l.runs.items);
}
