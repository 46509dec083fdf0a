use Rattle.gimv_base.proofs.ReadBackLemmas.{values_read_back}
use Rattle.gimv_base.proofs.laws.values_read_back.Goals as goal

pub returns : goal.returns
returns g c = values_read_back
