use Rattle.graph.proofs.StepLemmas.{fixed_least}
use Rattle.graph.proofs.laws.fixed_are_least.Goals as goal

pub returns : goal.returns
returns c = fixed_least
