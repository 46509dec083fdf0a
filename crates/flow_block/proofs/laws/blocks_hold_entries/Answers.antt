use Rattle.flow_block.proofs.BlockFolder.{blocks_hold_entries}
use Rattle.flow_block.proofs.laws.blocks_hold_entries.Goals as goal

pub returns : goal.returns
returns g c = blocks_hold_entries
