use Rattle.peg_text.proofs.RecordLemmas.{lines_read_back}
use Rattle.peg_text.proofs.laws.lines_read_back.Goals as goal

pub returns : goal.returns
returns c = lines_read_back
