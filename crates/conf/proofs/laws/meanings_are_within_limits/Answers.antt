use Rattle.conf.proofs.LimitLemmas.{meanings_are_within_limits}
use Rattle.conf.proofs.laws.meanings_are_within_limits.Goals as goal

pub returns : goal.returns
returns c = meanings_are_within_limits c.numbers_are_within.ensures
