use Rattle.merge.specs.Sources.{IsLeastOf}
use Rattle.merge.proofs.leaders.least_among.Given as goal

abbrev pub invariant-loop-at : goal.invariant-loop-at
invariant-loop-at l = IsLeastOf l.sources l.low l.at l.least
