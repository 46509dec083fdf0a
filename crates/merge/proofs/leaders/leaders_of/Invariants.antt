use Rattle.merge.proofs.LeaderLemmas.{LeadersBelow}
use Rattle.merge.proofs.leaders.leaders_of.Given as goal

abbrev pub invariant-loop-group : goal.invariant-loop-group
invariant-loop-group l = LeadersBelow l.sources l.leaders.items l.group
