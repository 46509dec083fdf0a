use Rattle.gimv_block.proofs.BlockNodes.{nodes_have_offsets, all_nodes_of_blocks}
use Rattle.gimv_block.proofs.laws.blocks_cut_the_nodes.Goals as goal

pub returns-clause-offsets : goal.returns-clause-offsets
returns-clause-offsets c = nodes_have_offsets

pub returns-clause-all : goal.returns-clause-all
returns-clause-all c = all_nodes_of_blocks
