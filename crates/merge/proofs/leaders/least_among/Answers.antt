use Rattle.std.proofs.Common.{◌+◌, arith}
use Rattle.merge.proofs.leaders.least_among.Goals as goal

pub loop-at-preserved : goal.loop-at-preserved
loop-at-preserved c =
    c.lesser_of-least.ensures c.args.low c.loop-at.at (c.loop-at.at + 1) (omega arith) (omega arith) c.loop-at.invariant c.running.ensures
