use Rattle.merge.proofs.LawLemmas.{ten_are_left_at_most}
use Rattle.merge.proofs.PassLemmas.{passes_keep}
use Rattle.merge.proofs.laws.passes_keep_the_pairs.Goals as goal

pub returns-clause-pairs : goal.returns-clause-pairs
returns-clause-pairs c = passes_keep

pub returns-clause-left : goal.returns-clause-left
returns-clause-left c = ten_are_left_at_most
