use Rattle.merge.proofs.LawLemmas.{passes_are_needed}
use Rattle.merge.proofs.laws.passes_are_needed.Goals as goal

pub returns : goal.returns
returns c = passes_are_needed
