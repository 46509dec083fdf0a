use Rattle.peg_text.proofs.CursorLemmas.{records_if_found}
use Rattle.peg_text.proofs.line_buf.LineBuf.next.Goals as goal

pub returns-clause-records : goal.returns-clause-records
returns-clause-records c = records_if_found _ _ _ _ c.take_record.ensures.found
