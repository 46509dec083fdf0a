use Rattle.dir_disk.proofs.ExampleLemmas.{moved_folder_takes_all as lemma}
use Rattle.dir_disk.proofs.laws.moved_folder_takes_all.Goals as goal

pub returns : goal.returns
returns c = lemma
