use Rattle.pairs.proofs.PairLemmas.{in_order_is_sorted}
use Rattle.pairs.proofs.laws.in_order_is_sorted.Goals as goal

pub returns : goal.returns
returns c = in_order_is_sorted
