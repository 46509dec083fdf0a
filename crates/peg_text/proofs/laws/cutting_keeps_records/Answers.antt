use Rattle.peg_text.proofs.RecordLemmas.{cutting_keeps_records}
use Rattle.peg_text.proofs.laws.cutting_keeps_records.Goals as goal

pub returns : goal.returns
returns c = cutting_keeps_records
