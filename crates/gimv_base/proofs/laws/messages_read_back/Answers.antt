use Rattle.gimv_base.proofs.ReadBackLemmas.{messages_read_back}
use Rattle.gimv_base.proofs.laws.messages_read_back.Goals as goal

pub returns : goal.returns
returns g c = messages_read_back
