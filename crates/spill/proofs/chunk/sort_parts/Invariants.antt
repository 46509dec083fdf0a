use Rattle.std.proofs.Common.{◌≡◌, ◌++◌, map, take, drop}
use Rattle.pairs.specs.Pairs.{sorted_pairs}
use Rattle.spill.specs.Lines.{AreEntries, lists_of}
use Rattle.spill.proofs.chunk.sort_parts.Given as goal

abbrev pub invariant-loop-entries : goal.invariant-loop-entries
invariant-loop-entries l = record {
  are : AreEntries l.text l.parts;
  sorted : lists_of l.text l.parts ≡ map sorted_pairs (take l.entries-index (lists_of l.text l.fn.parts)) ++ drop l.entries-index (lists_of l.text l.fn.parts);
}
