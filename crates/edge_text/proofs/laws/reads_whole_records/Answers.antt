use Rattle.edge_text.proofs.ReadingLemmas.{reads_whole_records}
use Rattle.edge_text.proofs.laws.reads_whole_records.Goals as goal

pub returns : goal.returns
returns c = reads_whole_records
