use Rattle.graph.proofs.WalkLemmas.{IsLeast-unique, AreLeast-unique}
use Rattle.graph.proofs.laws.least_labels_are_one.Goals as goal

pub returns-clause-node : goal.returns-clause-node
returns-clause-node c = IsLeast-unique

pub returns-clause-graph : goal.returns-clause-graph
returns-clause-graph c = AreLeast-unique
