use Rattle.edge_text.proofs.WrittenLemmas.{written_is_read}
use Rattle.edge_text.proofs.laws.written_is_read.Goals as goal

pub returns : goal.returns
returns c = written_is_read
