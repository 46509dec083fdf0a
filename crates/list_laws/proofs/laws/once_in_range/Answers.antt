use Rattle.list_laws.proofs.Ranges.{once_in_range}
use Rattle.list_laws.proofs.laws.once_in_range.Goals as goal

pub returns : goal.returns
returns c = once_in_range
