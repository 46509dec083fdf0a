use Rattle.gimv_core.proofs.Falling.{step_falls, step_monotone}
use Rattle.gimv_core.proofs.laws.closing_steps_fall.Goals as goal

pub returns-clause-never_raise : goal.returns-clause-never_raise
returns-clause-never_raise g c = λ a as_msg laws closing nodes entries v fits vector i inside. step_falls a as_msg laws closing nodes entries fits v i vector inside

pub returns-clause-monotone : goal.returns-clause-monotone
returns-clause-monotone g c = λ a as_msg laws closing nodes entries lower upper fits. step_monotone a as_msg laws closing nodes entries fits lower upper
