use Rattle.graph.proofs.GatherLemmas.{entries_in_any_order}
use Rattle.graph.proofs.laws.entries_in_any_order.Goals as goal

pub returns : goal.returns
returns g c = entries_in_any_order
