use Rattle.graph.proofs.StepLemmas.{step_reached}
use Rattle.graph.proofs.laws.step_keeps_reached.Goals as goal

pub returns : goal.returns
returns c = step_reached
