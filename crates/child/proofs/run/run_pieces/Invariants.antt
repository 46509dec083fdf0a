use Rattle.std.proofs.Common.{◌≡◌, ◌-◌}
use Rattle.child.specs.Judging.{most_bytes}
use Rattle.child.specs.Feeding.{IsCounted, fed_of}
use Rattle.child.specs.Shown.{AreFronts}
use Rattle.child.proofs.RunLemmas.{HasRun}
use Rattle.child.proofs.run.run_pieces.Given as goal

abbrev pub invariant-pieces : goal.invariant-pieces
invariant-pieces g l = record {
  run :
      HasRun (g.R.Role.standing l.fn.role).rule (g.I.Source.left l.initial.source) (g.I.Source.left l.source) (g.O.Sink.written l.initial.sink) (g.O.Sink.written l.sink)
      (fed_of g.R.Role.standing l.watched.feeding);
  fronts : AreFronts run.bytes l.watched.fronts;
  counted : IsCounted (fed_of g.R.Role.standing l.watched.feeding);
  reads : g.I.Source.faults l.source ≡ g.I.Source.faults l.initial.source;
  writes : g.O.Sink.faults l.sink ≡ g.O.Sink.faults l.initial.sink;
}

abbrev pub decreases-pieces : goal.decreases-pieces
decreases-pieces g l = most_bytes - l.watched.feeding.taken
