use Rattle.merge.proofs.LawLemmas.{least_first_pair_comes_first}
use Rattle.merge.proofs.laws.least_first_pair_comes_first.Goals as goal

pub returns : goal.returns
returns c = least_first_pair_comes_first
