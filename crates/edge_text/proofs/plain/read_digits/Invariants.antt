use Rattle.std.proofs.Common.{◌-◌}
use Rattle.edge_text.proofs.PlainLemmas.{DigitsSoFar}
use Rattle.edge_text.proofs.plain.read_digits.Given as goal

abbrev pub invariant-loop-end : goal.invariant-loop-end
invariant-loop-end l = DigitsSoFar l.bytes l.from l.end l.value

abbrev pub decreases-loop-end : goal.decreases-loop-end
decreases-loop-end l = l.most - l.end
