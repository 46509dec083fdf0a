use Rattle.committer.proofs.LawLemmas.{committed_is_whole_in_each}
use Rattle.committer.proofs.laws.committed_is_whole_in_each.Goals as goal

pub returns : goal.returns
returns c = committed_is_whole_in_each
