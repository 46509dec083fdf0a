use Rattle.dir_disk.proofs.ExampleLemmas.{fails_in_any_part as lemma}
use Rattle.dir_disk.proofs.laws.fails_in_any_part.Goals as goal

pub returns : goal.returns
returns c = lemma
