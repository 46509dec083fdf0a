use Rattle.dir_disk.proofs.ExampleLemmas.{moved_may_be_at_either_or_none as lemma}
use Rattle.dir_disk.proofs.laws.moved_may_be_at_either_or_none.Goals as goal

pub returns : goal.returns
returns c = lemma
