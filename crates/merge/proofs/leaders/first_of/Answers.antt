use Rattle.merge.proofs.LeaderLemmas.{next_group}
use Rattle.merge.proofs.leaders.first_of.Goals as goal

pub loop-leader-preserved : goal.loop-leader-preserved
loop-leader-preserved c =
    next_group c.args.sources.now c.args.leaders.now c.loop-leader.leader-index _ c.loop-leader.first c.lesser_of-first.result c.requires c.loop-leader-test.true c.loop-leader.invariant c.lesser_of-first.ensures
