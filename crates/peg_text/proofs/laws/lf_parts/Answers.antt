use Rattle.peg_text.proofs.RecordLemmas.{lf_parts}
use Rattle.peg_text.proofs.laws.lf_parts.Goals as goal

pub returns : goal.returns
returns c = lf_parts
