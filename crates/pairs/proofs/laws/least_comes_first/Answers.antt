use Rattle.pairs.proofs.PairLemmas.{least_comes_first}
use Rattle.pairs.proofs.laws.least_comes_first.Goals as goal

pub returns : goal.returns
returns c = least_comes_first
