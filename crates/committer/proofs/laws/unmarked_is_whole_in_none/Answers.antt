use Rattle.committer.proofs.LawLemmas.{unmarked_is_whole_in_none}
use Rattle.committer.proofs.laws.unmarked_is_whole_in_none.Goals as goal

pub returns : goal.returns
returns c = unmarked_is_whole_in_none
