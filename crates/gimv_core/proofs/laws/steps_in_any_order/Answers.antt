use Rattle.gimv_core.proofs.Fitting.{steps_in_any_order}
use Rattle.gimv_core.proofs.laws.steps_in_any_order.Goals as goal

pub returns : goal.returns
returns g c = steps_in_any_order
