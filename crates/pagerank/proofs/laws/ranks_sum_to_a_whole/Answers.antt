use Rattle.pagerank.proofs.SumLemmas.{ranks_sum, no_sum_capped}
use Rattle.pagerank.proofs.laws.ranks_sum_to_a_whole.Goals as goal

pub returns-clause-sum : goal.returns-clause-sum
returns-clause-sum c = ranks_sum

pub returns-clause-uncapped : goal.returns-clause-uncapped
returns-clause-uncapped c = no_sum_capped
