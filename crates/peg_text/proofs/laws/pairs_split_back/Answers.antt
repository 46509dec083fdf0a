use Rattle.peg_text.proofs.PairLemmas.{pairs_split_back}
use Rattle.peg_text.proofs.laws.pairs_split_back.Goals as goal

pub returns : goal.returns
returns c = pairs_split_back
