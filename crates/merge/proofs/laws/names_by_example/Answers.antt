use Rattle.merge.proofs.LawLemmas.{names_by_example}
use Rattle.merge.proofs.laws.names_by_example.Goals as goal

pub returns : goal.returns
returns c = names_by_example
