use Rattle.std.proofs.Common.{refl}
use Rattle.gimv_block.proofs.block2.Block2.new.Goals as goal

pub returns : goal.returns
returns g c = rw (c.new.ensures, c.new-blocks.ensures) refl
