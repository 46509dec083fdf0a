use Rattle.pairs.proofs.PairLemmas.{pairs_read_back}
use Rattle.pairs.proofs.laws.pairs_read_back.Goals as goal

pub returns : goal.returns
returns c = pairs_read_back
