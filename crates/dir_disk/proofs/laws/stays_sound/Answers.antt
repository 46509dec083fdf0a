use Rattle.dir_disk.proofs.ExampleLemmas.{stays_sound as lemma}
use Rattle.dir_disk.proofs.laws.stays_sound.Goals as goal

pub returns : goal.returns
returns c = lemma
