use Rattle.dir_disk.proofs.ExampleLemmas.{removed_and_settled_is_gone as lemma}
use Rattle.dir_disk.proofs.laws.removed_and_settled_is_gone.Goals as goal

pub returns : goal.returns
returns c = lemma
