use Rattle.committer.proofs.LawLemmas.{sealed_is_whole_in_each}
use Rattle.committer.proofs.laws.sealed_is_whole_in_each.Goals as goal

pub returns : goal.returns
returns c = sealed_is_whole_in_each
