use Rattle.pairs.proofs.PrefixLemmas.{lesser_prefix_comes_first}
use Rattle.pairs.proofs.laws.lesser_prefix_comes_first.Goals as goal

pub returns : goal.returns
returns c = lesser_prefix_comes_first
