use Rattle.committer.proofs.LawLemmas.{names_by_example}
use Rattle.committer.proofs.laws.names_by_example.Goals as goal

pub returns : goal.returns
returns c = names_by_example
