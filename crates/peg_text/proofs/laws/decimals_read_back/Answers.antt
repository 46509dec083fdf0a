use Rattle.peg_text.proofs.DecimalLemmas.{decimals_read_back}
use Rattle.peg_text.proofs.laws.decimals_read_back.Goals as goal

pub returns : goal.returns
returns c = decimals_read_back
