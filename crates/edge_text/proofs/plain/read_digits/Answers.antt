use Rattle.std.proofs.Common.{◌≡◌, ◌+◌, ◌-◌, ◌*◌, get_or, refl, sym, subst, arith, rules}
use Rattle.edge_text.proofs.PlainLemmas.{DigitsSoFar, DigitsSoFar-small, DigitsSoFar-more}
use Rattle.edge_text.proofs.plain.read_digits.Goals as goal

pub overflow_mul-value : goal.overflow_mul-value
overflow_mul-value c =
    let small = DigitsSoFar-small c.args.bytes.now c.args.from c.loop-end.end c.loop-end.value c.loop-end.invariant (omega arith) in
    omega arith

pub overflow_add-value : goal.overflow_add-value
overflow_add-value c =
    let small = DigitsSoFar-small c.args.bytes.now c.args.from c.loop-end.end c.loop-end.value c.loop-end.invariant (omega arith) in
    omega (arith, c.type_inv.bytes c.loop-end.end)

pub loop-end-preserved : goal.loop-end-preserved
loop-end-preserved c =
    let l = c.loop-end in
    let digit : c.from.result ≡ get_or c.args.bytes.now l.end 0 - 48 = search rules in
    subst (λ d. DigitsSoFar c.args.bytes.now c.args.from (l.end + 1) (10 * l.value + d)) (sym digit) (DigitsSoFar-more c.args.bytes.now c.args.from l.end l.value _ l.invariant (omega arith) (omega arith) refl (search rules))
