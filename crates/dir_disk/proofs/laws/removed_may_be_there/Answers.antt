use Rattle.dir_disk.proofs.ExampleLemmas.{removed_may_be_there as lemma}
use Rattle.dir_disk.proofs.laws.removed_may_be_there.Goals as goal

pub returns : goal.returns
returns c = lemma
