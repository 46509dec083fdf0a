use Rattle.gimv_base.proofs.ReadBackLemmas.{entries_read_back}
use Rattle.gimv_base.proofs.laws.entries_read_back.Goals as goal

pub returns : goal.returns
returns g c = entries_read_back
