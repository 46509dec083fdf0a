use Rattle.gimv_core.proofs.Fitting.{step_fits, iterate_fits}
use Rattle.gimv_core.proofs.laws.steps_fit.Goals as goal

pub returns-clause-step : goal.returns-clause-step
returns-clause-step g c = step_fits

pub returns-clause-iterates : goal.returns-clause-iterates
returns-clause-iterates g c = iterate_fits
