use Rattle.dir_disk.proofs.ExampleLemmas.{start_leaves_others as lemma}
use Rattle.dir_disk.proofs.laws.start_leaves_others.Goals as goal

pub returns : goal.returns
returns c = lemma
