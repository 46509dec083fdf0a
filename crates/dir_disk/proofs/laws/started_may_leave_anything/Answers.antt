use Rattle.dir_disk.proofs.ExampleLemmas.{started_may_leave_anything as lemma}
use Rattle.dir_disk.proofs.laws.started_may_leave_anything.Goals as goal

pub returns : goal.returns
returns c = lemma
