use Rattle.edge_text.proofs.ReadingLemmas.{cutting_changes_nothing}
use Rattle.edge_text.proofs.laws.cutting_changes_nothing.Goals as goal

pub returns : goal.returns
returns c = cutting_changes_nothing
