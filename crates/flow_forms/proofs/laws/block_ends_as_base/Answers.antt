use Rattle.flow_forms.proofs.BlockRuns.{block_ends_as_base, file_block_ends_as_base}
use Rattle.flow_forms.proofs.laws.block_ends_as_base.Goals as goal

pub returns-clause-edges : goal.returns-clause-edges
returns-clause-edges c = block_ends_as_base

pub returns-clause-files : goal.returns-clause-files
returns-clause-files c = file_block_ends_as_base
