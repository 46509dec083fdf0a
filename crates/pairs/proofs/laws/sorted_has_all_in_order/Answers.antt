use Rattle.pairs.proofs.PairLemmas.{sorted_is_in_order, sorted_is_permutation}
use Rattle.pairs.proofs.laws.sorted_has_all_in_order.Goals as goal

pub returns-clause-in_order : goal.returns-clause-in_order
returns-clause-in_order c = sorted_is_in_order

pub returns-clause-permutation : goal.returns-clause-permutation
returns-clause-permutation c = sorted_is_permutation
