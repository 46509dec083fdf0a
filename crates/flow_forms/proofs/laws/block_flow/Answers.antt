use Rattle.flow_forms.proofs.BlockRuns.{block_flow, file_block_flow}
use Rattle.flow_forms.proofs.laws.block_flow.Goals as goal

pub returns-clause-edges : goal.returns-clause-edges
returns-clause-edges c = block_flow

pub returns-clause-files : goal.returns-clause-files
returns-clause-files c = file_block_flow
