use Rattle.dir_disk.proofs.ExampleLemmas.{failed_append_may_be_anything as lemma}
use Rattle.dir_disk.proofs.laws.failed_append_may_be_anything.Goals as goal

pub returns : goal.returns
returns c = lemma
