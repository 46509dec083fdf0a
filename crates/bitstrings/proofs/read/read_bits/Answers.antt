use Rattle.std.proofs.Common.{ap, ◌∙◌, arith}
use Rattle.bitstrings.specs.Texts.{words_of, sums_of}
use Rattle.bitstrings.proofs.ValueTexts.{short_is_none, other_is_none, of_two_parts, none_of_words, none_of_sums}
use Rattle.bitstrings.proofs.read.read_bits.Goals as goal

pub returns-then-text-le-WORD_DIGITS : goal.returns-then-text-le-WORD_DIGITS
returns-then-text-le-WORD_DIGITS c = short_is_none c.args.text.now (omega arith)

pub returns-then-text-ne58 : goal.returns-then-text-ne58
returns-then-text-ne58 c = other_is_none c.args.text.now c.if-text-ne58.true

pub returns-in_default : goal.returns-in_default
returns-in_default c =
    none_of_words c.args.text.now (omega arith) c.if-text-ne58.false (c.in_default.ensures ∙ ap words_of c.around.ensures.before)

pub returns-in-Some-2 : goal.returns-in-Some-2
returns-in-Some-2 c =
    of_two_parts c.args.text.now c.in-Some.words c.in-Some-2.sums.items (omega arith) c.if-text-ne58.false
    (c.in-Some.ensures ∙ ap words_of c.around.ensures.before) (rw c.in-Some-2.is at c.in_ok-sums.ensures ∙ ap sums_of c.around.ensures.after)

pub returns-in-None : goal.returns-in-None
returns-in-None c =
    none_of_sums c.args.text.now c.in-Some.words (omega arith) c.if-text-ne58.false
    (c.in-Some.ensures ∙ ap words_of c.around.ensures.before) (rw c.in-None.is at c.in_ok-sums.ensures ∙ ap sums_of c.around.ensures.after)
