use Rattle.dir_disk.proofs.ExampleLemmas.{arrives_as_it_was as lemma}
use Rattle.dir_disk.proofs.laws.arrives_as_it_was.Goals as goal

pub returns : goal.returns
returns c = lemma
