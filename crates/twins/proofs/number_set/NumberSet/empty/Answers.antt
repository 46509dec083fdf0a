use Rattle.std.proofs.Common.{rules}
use Rattle.twins.proofs.NumberLemmas.{none_marked}
use Rattle.twins.proofs.number_set.NumberSet.empty.Goals as goal

pub returns : goal.returns
returns c = none_marked c.args.bound c.in_ok-marks.marks.items (c.in_ok-marks.ensures.items_if_clones_equal (search rules))
