use Rattle.pairs.proofs.PairLemmas.{permutations_sort_alike}
use Rattle.pairs.proofs.laws.permutations_sort_alike.Goals as goal

pub returns : goal.returns
returns c = permutations_sort_alike
