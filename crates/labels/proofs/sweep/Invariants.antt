use Rattle.std.proofs.Common.{take}
use Rattle.labels.specs.Labels.{IsSwept}
use Rattle.labels.proofs.sweep.Given as goal

abbrev pub invariant-loop-edge : goal.invariant-loop-edge
invariant-loop-edge l = IsSwept l.edges (take l.edge-index l.edges) l.initial.labels l.labels l.lowered
