use Rattle.std.proofs.Common.{length, slice_index, sum}
use Rattle.graph.specs.Laws.{AreReached}
use Rattle.labels.proofs.settle.Given as goal

abbrev pub invariant-sweeps : goal.invariant-sweeps
invariant-sweeps l = AreReached (length l.labels) l.edges (slice_index l.labels)

abbrev pub decreases-sweeps : goal.decreases-sweeps
decreases-sweeps l = sum l.labels
