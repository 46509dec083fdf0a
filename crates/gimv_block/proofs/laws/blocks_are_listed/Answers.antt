use Rattle.gimv_block.proofs.ListedLemmas.{blocks_are_listed}
use Rattle.gimv_block.proofs.laws.blocks_are_listed.Goals as goal

pub returns : goal.returns
returns g c = blocks_are_listed
