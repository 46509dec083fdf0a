use Rattle.flow.proofs.Ends.{last_is_one}
use Rattle.flow.proofs.laws.last_is_one.Goals as goal

pub returns : goal.returns
returns c = last_is_one
