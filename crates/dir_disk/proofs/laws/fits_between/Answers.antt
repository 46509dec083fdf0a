use Rattle.dir_disk.proofs.ExampleLemmas.{fits_between as lemma}
use Rattle.dir_disk.proofs.laws.fits_between.Goals as goal

pub returns : goal.returns
returns c = lemma
