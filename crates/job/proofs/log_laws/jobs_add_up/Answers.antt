use Rattle.job.proofs.StretchLemmas.{jobs_add_up, finished_stay}
use Rattle.job.proofs.log_laws.jobs_add_up.Goals as goal

pub returns-clause-behind : goal.returns-clause-behind
returns-clause-behind g c = jobs_add_up g.P.Phases.may g.S.Dir.tells g.S.Site.gives

pub returns-clause-stay : goal.returns-clause-stay
returns-clause-stay g c = finished_stay g.P.Phases.may g.S.Dir.tells g.S.Site.gives
