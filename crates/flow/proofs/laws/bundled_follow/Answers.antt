use Rattle.flow.proofs.Ends.{bundled_follow}
use Rattle.flow.proofs.laws.bundled_follow.Goals as goal

pub returns : goal.returns
returns c = bundled_follow
