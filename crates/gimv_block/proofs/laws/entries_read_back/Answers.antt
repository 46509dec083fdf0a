use Rattle.gimv_block.proofs.SeatBackLemmas.{matrices_read_back, cuts_read_back}
use Rattle.gimv_block.proofs.laws.entries_read_back.Goals as goal

pub returns-clause-matrix : goal.returns-clause-matrix
returns-clause-matrix c = matrices_read_back

pub returns-clause-cut : goal.returns-clause-cut
returns-clause-cut c = cuts_read_back
