use Rattle.task_core.proofs.OneAtOnce.{at_most_one, done_by_one, runs_until, ends_name}
use Rattle.task_core.proofs.laws.one_attempt_at_once.Goals as goal

pub returns-clause-once : goal.returns-clause-once
returns-clause-once c = at_most_one

pub returns-clause-done : goal.returns-clause-done
returns-clause-done c = done_by_one

pub returns-clause-running : goal.returns-clause-running
returns-clause-running c = runs_until

pub returns-clause-ends : goal.returns-clause-ends
returns-clause-ends c = ends_name
