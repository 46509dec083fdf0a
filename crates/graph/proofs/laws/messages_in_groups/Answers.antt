use Rattle.graph.proofs.GatherLemmas.{messages_in_groups}
use Rattle.graph.proofs.laws.messages_in_groups.Goals as goal

pub returns : goal.returns
returns g c = messages_in_groups
