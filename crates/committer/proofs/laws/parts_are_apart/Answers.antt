use Rattle.committer.proofs.LawLemmas.{parts_are_apart}
use Rattle.committer.proofs.laws.parts_are_apart.Goals as goal

pub returns : goal.returns
returns c = parts_are_apart
