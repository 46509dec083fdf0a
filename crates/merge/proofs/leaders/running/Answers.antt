use Rattle.merge.proofs.LeaderLemmas.{alone_running}
use Rattle.merge.proofs.leaders.running.Goals as goal

pub returns-else-sources-at : goal.returns-else-sources-at
returns-else-sources-at c = alone_running c.args.sources.now c.args.at c.requires c.index-sources-at.result c.if-sources-at.false
