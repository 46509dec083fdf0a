use Rattle.edge_text.proofs.ReadingLemmas.{pieces_join}
use Rattle.edge_text.proofs.laws.pieces_join.Goals as goal

pub returns : goal.returns
returns c = pieces_join
