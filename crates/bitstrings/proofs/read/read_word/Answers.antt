use Rattle.std.proofs.Common.{arith, ◌∙◌, get_or}
use Rattle.bitstrings.proofs.TextLemmas.{number_after_more, word_small, word_fits, digit_is_small}
use Rattle.bitstrings.proofs.read.read_word.Goals as goal

pub overflow_mul-word : goal.overflow_mul-word
overflow_mul-word c = omega (arith, word_fits c.loop-byte.byte-index c.loop-byte.word (omega arith) c.loop-byte.invariant.small)

pub overflow_add-word : goal.overflow_add-word
overflow_add-word c =
    omega (arith, word_fits c.loop-byte.byte-index c.loop-byte.word (omega arith) c.loop-byte.invariant.small, digit_is_small (get_or c.args.text.now c.loop-byte.byte-index 0) c.in_ok-read_digit.field-0 c.from.result c.in_ok-read_digit.ensures c.from.ensures)

pub loop-byte-preserved : goal.loop-byte-preserved
loop-byte-preserved c = record {
  on = number_after_more c.args.text.now c.loop-byte.byte-index c.loop-byte.word c.in_ok-read_digit.field-0 c.from.result (omega arith) c.in_ok-read_digit.ensures c.from.ensures ∙ c.loop-byte.invariant.on;
  small = word_small c.loop-byte.byte-index c.loop-byte.word (get_or c.args.text.now c.loop-byte.byte-index 0) c.in_ok-read_digit.field-0 c.from.result c.loop-byte.invariant.small c.in_ok-read_digit.ensures c.from.ensures;
}
