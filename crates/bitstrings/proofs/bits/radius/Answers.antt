use Rattle.std.proofs.Common.{◌-◌, ◌≤◌, get_or, sym, ◌∙◌, arith, leb}
use Rattle.std.proofs.lemmas.Bool.{le-leb}
use Rattle.std.proofs.lemmas.List.Sums.{position_or_len_is}
use Rattle.bitstrings.specs.Radius.{last_sum}
use Rattle.bitstrings.proofs.bits.radius.Goals as goal

pub returns-then-saturating_sub-le4 : goal.returns-then-saturating_sub-le4
returns-then-saturating_sub-le4 c =
    let sums = c.args.sums.now in
    let i = c.loop-sum.sum-index in
    let near : last_sum sums - get_or sums i 0 ≤ 4 = omega (arith, c.if-saturating_sub-le4.true, c.saturating_sub.ensures, c.loop-sum.invariant.last_is) in
    c.loop-sum.invariant.counted ∙ sym (position_or_len_is (λ s. leb (last_sum sums - s) 4) sums i 0 (omega arith) c.loop-sum.invariant.apart (λ lt. le-leb _ 4 near))
