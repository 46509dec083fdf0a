use Rattle.dir_disk.proofs.ExampleLemmas.{mixes_within as lemma}
use Rattle.dir_disk.proofs.laws.mixes_within.Goals as goal

pub returns : goal.returns
returns c = lemma
