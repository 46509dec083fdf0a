use Rattle.flow_forms.proofs.BlockRuns.{block_keeps_iterates}
use Rattle.flow_forms.proofs.laws.block_keeps_iterates.Goals as goal

pub returns : goal.returns
returns c = block_keeps_iterates
