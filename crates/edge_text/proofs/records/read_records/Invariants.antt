use Rattle.std.proofs.Common.{◌-◌, length}
use Rattle.edge_text.proofs.RecordLoopLemmas.{OnTheWay}
use Rattle.edge_text.proofs.records.read_records.Given as goal

abbrev pub invariant-loop-judged : goal.invariant-loop-judged
invariant-loop-judged l = OnTheWay l.nodes l.first l.bytes l.initial.edges.items l.line l.start l.edges.items

abbrev pub decreases-loop-judged : goal.decreases-loop-judged
decreases-loop-judged l = length l.bytes - l.start
