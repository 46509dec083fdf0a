use Rattle.spill.proofs.LawLemmas.{runs_are_apart}
use Rattle.spill.proofs.laws.runs_are_apart.Goals as goal

pub returns : goal.returns
returns c = runs_are_apart
