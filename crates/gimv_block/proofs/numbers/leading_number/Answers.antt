use Rattle.std.proofs.Common.{◌≡◌, true, slice_index_or, refl, sym, ◌∙◌, arith}
use Rattle.std.specs.Char.{is_ascii_digit}
use Rattle.peg_text.proofs.DecimalLemmas.{digit_small, takes_digit}
use Rattle.gimv_block.proofs.NumberLemmas.{digit_read}
use Rattle.gimv_block.proofs.numbers.leading_number.Goals as goal

pub overflow_mul-number : goal.overflow_mul-number
overflow_mul-number c =
    let read = c.loop-count.invariant in
    omega (arith, takes_digit c.loop-count.number c.loop-count.count read.low (omega (arith, read.few, c.loop-count-test.true)))

pub overflow_add-number : goal.overflow_add-number
overflow_add-number c =
    let read = c.loop-count.invariant in
    let small = digit_small (slice_index_or c.args.text.now c.loop-count.count 0) (sym c.is_ascii_digit.ensures.value ∙ c.if-is_ascii_digit.true) in
    omega (arith, small, c.from.ensures, takes_digit c.loop-count.number c.loop-count.count read.low (omega (arith, read.few, c.loop-count-test.true)))

pub loop-count-preserved : goal.loop-count-preserved
loop-count-preserved c =
    let byte = slice_index_or c.args.text.now c.loop-count.count 0 in
    let digit : is_ascii_digit byte ≡ true = sym c.is_ascii_digit.ensures.value ∙ c.if-is_ascii_digit.true in
    rw c.from.ensures (digit_read c.args.text.now c.min-most.result c.loop-count.number c.loop-count.count byte c.loop-count.invariant c.loop-count-test.true refl digit)
