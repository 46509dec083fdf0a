use Rattle.gimv_core.proofs.Rounds.{rounds_end}
use Rattle.gimv_core.proofs.laws.closing_rounds_end.Goals as goal

pub returns : goal.returns
returns g c = rounds_end
