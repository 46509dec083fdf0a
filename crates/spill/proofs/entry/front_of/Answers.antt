use Rattle.std.proofs.Common.{arith}
use Rattle.pairs.proofs.PrefixLemmas.{room}
use Rattle.spill.proofs.entry.front_of.Goals as goal

pub overflow_mul-number : goal.overflow_mul-number
overflow_mul-number c =
    let most = room c.loop-at.at c.loop-at.number c.loop-at-test.true c.loop-at.invariant.fits in
    omega (arith, most)

pub overflow_add-number : goal.overflow_add-number
overflow_add-number c =
    let most = room c.loop-at.at c.loop-at.number c.loop-at-test.true c.loop-at.invariant.fits in
    let digit = c.unwrap_or.type_inv in
    let is = c.from.ensures in
    omega (arith, most, digit, is)
