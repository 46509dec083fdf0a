use Rattle.dir_disk.proofs.ExampleLemmas.{moved_unsettled_may_be_anything as lemma}
use Rattle.dir_disk.proofs.laws.moved_unsettled_may_be_anything.Goals as goal

pub returns : goal.returns
returns c = lemma
