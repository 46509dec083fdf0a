use Rattle.dir_disk.proofs.ExampleLemmas.{settled_folder_is_there as lemma}
use Rattle.dir_disk.proofs.laws.settled_folder_is_there.Goals as goal

pub returns : goal.returns
returns c = lemma
