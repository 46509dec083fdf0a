use Rattle.flow_block.proofs.BlockChain.{layouts_are, results_are}
use Rattle.flow_block.proofs.laws.block_vectors_are_iterates.Goals as goal

pub returns-clause-vectors : goal.returns-clause-vectors
returns-clause-vectors g c gives a laws len n is_length few words follows cut is_cut number entries blocks has id id_low folder are =
    layouts_are gives a laws len n is_length.some is_length.few few words follows cut is_cut.some_bytes is_cut.some_reducers number entries blocks has id id_low folder are

pub returns-clause-results : goal.returns-clause-results
returns-clause-results g c gives a laws len n is_length few words follows cut is_cut vectors fit =
    results_are gives a laws len n is_length.some is_length.few few words follows cut is_cut.some_bytes is_cut.some_reducers vectors fit
