use Rattle.flow.proofs.CountsBack.{changed_is}
use Rattle.flow.proofs.laws.changes_are_counted.Goals as goal

pub returns : goal.returns
returns g c a entries n k = changed_is a entries n k
