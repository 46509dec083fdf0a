use Rattle.std.proofs.Common.{ℕ, Ok, refl, arith}
use Rattle.std.proofs.lemmas.Iterator.{items_from_collect, YieldsList-from_range}
use Rattle.labels.proofs.own_labels.Goals as goal

pub returns : goal.returns
returns c =
    items_from_collect {E = ℕ} (Ok c.in_ok-labels.labels) c.in_ok-labels.ensures.ran
    (YieldsList-from_range 0 c.args.nodes c.args.nodes refl (omega arith))
