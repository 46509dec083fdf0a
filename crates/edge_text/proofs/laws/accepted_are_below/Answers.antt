use Rattle.edge_text.proofs.BelowLemmas.{accepted_are_below}
use Rattle.edge_text.proofs.laws.accepted_are_below.Goals as goal

pub returns : goal.returns
returns c = accepted_are_below
