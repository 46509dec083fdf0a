use Rattle.std.proofs.Common.{rules}
use Rattle.twins.proofs.TwinLemmas.{fresh_twins, fresh_board}
use Rattle.twins.proofs.twins.Twins.new.Goals as goal

pub invariant_of-result : goal.invariant_of-result
invariant_of-result c =
    fresh_twins c.args.tasks c.in_ok-untried.untried.items c.in_ok-idle.idle c.in_ok-lone.lone (c.in_ok-untried.ensures.items_if_clones_equal (search rules)) c.in_ok-idle.ensures c.in_ok-lone.ensures

pub returns : goal.returns
returns c = fresh_board c.args.tasks c.args.slots c.in_ok-untried.untried.items (c.in_ok-untried.ensures.items_if_clones_equal (search rules))
