use Rattle.labels.specs.Labels.{Shortens}
use Rattle.labels.proofs.shorten.Given as goal

abbrev pub invariant-loop-node : goal.invariant-loop-node
invariant-loop-node l = Shortens l.node l.initial.labels l.labels
