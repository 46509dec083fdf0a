use Rattle.graph.proofs.StepLemmas.{step-le}
use Rattle.graph.proofs.laws.step_never_raises.Goals as goal

pub returns : goal.returns
returns c = step-le
