use Rattle.graph.proofs.ChangeLemmas.{ends_at_least}
use Rattle.graph.proofs.laws.iterates_end_at_least.Goals as goal

pub returns : goal.returns
returns c = ends_at_least
