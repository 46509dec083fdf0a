use Rattle.dir_disk.proofs.ExampleLemmas.{appended_may_be_anything as lemma}
use Rattle.dir_disk.proofs.laws.appended_may_be_anything.Goals as goal

pub returns : goal.returns
returns c = lemma
