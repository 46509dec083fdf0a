use Rattle.task_core.proofs.OneAtOnce.{one_may_start, one_may_end}
use Rattle.task_core.proofs.laws.steps_are_determined.Goals as goal

pub returns-clause-starts : goal.returns-clause-starts
returns-clause-starts c = one_may_start

pub returns-clause-ends : goal.returns-clause-ends
returns-clause-ends c = one_may_end
