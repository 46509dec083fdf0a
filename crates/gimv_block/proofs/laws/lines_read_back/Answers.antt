use Rattle.gimv_block.proofs.BackLemmas.{lines_read_back}
use Rattle.gimv_block.proofs.laws.lines_read_back.Goals as goal

pub returns : goal.returns
returns g c = λ a number len n line v some few good. lines_read_back a number len n line some few good v
