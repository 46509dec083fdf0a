use Rattle.flow_base.proofs.MatrixFolders.{one_matrix, rank_matrix}
use Rattle.flow_base.proofs.laws.matrices_hold_entries.Goals as goal

pub returns-clause-ones : goal.returns-clause-ones
returns-clause-ones g c gives copy words both copies follows cut is_cut a laws one_fits one_read n few edges below =
    one_matrix gives copy copies cut is_cut.some_bytes is_cut.some_reducers n few edges below a laws one_fits one_read both words follows

pub returns-clause-ranks : goal.returns-clause-ranks
returns-clause-ranks g c gives copy words copies follows cut is_cut n few edges below short =
    rank_matrix gives copy copies cut is_cut.some_bytes is_cut.some_reducers n few edges below short words follows
