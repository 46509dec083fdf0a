use Rattle.spill.proofs.LawLemmas.{runs_hold_the_pairs}
use Rattle.spill.proofs.laws.runs_hold_the_pairs.Goals as goal

pub returns : goal.returns
returns c = runs_hold_the_pairs
