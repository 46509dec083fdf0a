use Rattle.dir_disk.proofs.ExampleLemmas.{end_leaves_others as lemma}
use Rattle.dir_disk.proofs.laws.end_leaves_others.Goals as goal

pub returns : goal.returns
returns c = lemma
