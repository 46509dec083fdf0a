use Rattle.dir_disk.proofs.ExampleLemmas.{call_makes_fresh as lemma}
use Rattle.dir_disk.proofs.laws.call_makes_fresh.Goals as goal

pub returns : goal.returns
returns c = lemma
