use Rattle.graph.proofs.AlgorithmLemmas.{labels_in_any_order, ranks_in_any_order}
use Rattle.graph.proofs.laws.algorithms_in_any_order.Goals as goal

pub returns-clause-labels : goal.returns-clause-labels
returns-clause-labels c = labels_in_any_order

pub returns-clause-ranks : goal.returns-clause-ranks
returns-clause-ranks c = ranks_in_any_order
