use Rattle.std.proofs.Common.{arith, sym, ◌∙◌, slice_index_or}
use Rattle.peg_text.proofs.DecimalLemmas.{digit_small, takes_digit}
use Rattle.peg_text.proofs.decimals.read_decimal.Goals as goal

pub overflow_mul-number : goal.overflow_mul-number
overflow_mul-number c =
    omega (arith, takes_digit c.loop-digit.number c.loop-digit.digit-index c.loop-digit.invariant.1 (omega arith))

pub overflow_add-number : goal.overflow_add-number
overflow_add-number c =
    let small = digit_small (slice_index_or c.split_at.result.0.now c.loop-digit.digit-index 0) (sym c.is_ascii_digit.ensures.value ∙ c.if-not-is_ascii_digit.false) in
    omega (arith, small, c.from.ensures, takes_digit c.loop-digit.number c.loop-digit.digit-index c.loop-digit.invariant.1 (omega arith))
