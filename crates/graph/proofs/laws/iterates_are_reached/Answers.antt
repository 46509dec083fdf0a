use Rattle.graph.proofs.StepLemmas.{iterate_reached}
use Rattle.graph.proofs.laws.iterates_are_reached.Goals as goal

pub returns : goal.returns
returns c = iterate_reached
