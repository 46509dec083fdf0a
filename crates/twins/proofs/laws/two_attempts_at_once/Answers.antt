use Rattle.twins.proofs.TwinLaws.{at_most_two_run, one_twin_may_start}
use Rattle.twins.proofs.laws.two_attempts_at_once.Goals as goal

pub returns-clause-two : goal.returns-clause-two
returns-clause-two c = at_most_two_run

pub returns-clause-one : goal.returns-clause-one
returns-clause-one c = one_twin_may_start
