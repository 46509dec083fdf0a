use Rattle.graph.proofs.GatherLemmas.{messages_in_any_order}
use Rattle.graph.proofs.laws.messages_in_any_order.Goals as goal

pub returns : goal.returns
returns g c = messages_in_any_order
