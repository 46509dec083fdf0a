use Rattle.gimv_core.proofs.Falling.{lower_counts_as_old}
use Rattle.gimv_core.proofs.laws.closed_counts_as_old.Goals as goal

pub returns : goal.returns
returns g c = lower_counts_as_old
