use Rattle.job.proofs.StretchLemmas.{phases_add_up, later_add_nothing}
use Rattle.job.proofs.log_laws.phases_add_up.Goals as goal

pub returns-clause-behind : goal.returns-clause-behind
returns-clause-behind g c = phases_add_up g.P.Phases.may g.S.Dir.tells

pub returns-clause-later : goal.returns-clause-later
returns-clause-later g c = later_add_nothing g.P.Phases.may g.S.Dir.tells
