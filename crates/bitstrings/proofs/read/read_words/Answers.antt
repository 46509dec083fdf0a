use Rattle.std.proofs.Common.{◌+◌, ◌-◌, ◌<◌, length, take, sym, ap, ◌∙◌, arith, Some}
use Rattle.std.proofs.lemmas.List.{take_more_set, take_all}
use Rattle.std.proofs.Math.ListN.{length-set}
use Rattle.bitstrings.proofs.Lists.{prefixed}
use Rattle.bitstrings.specs.Texts.{words_from}
use Rattle.bitstrings.proofs.TextLemmas.{word_at_is, words_more, words_none, words_done, words_of_long, words_of_other}
use Rattle.bitstrings.proofs.read.read_words.Goals as goal

pub returns-then-text-ne-WORD_DIGITS : goal.returns-then-text-ne-WORD_DIGITS
returns-then-text-ne-WORD_DIGITS c = sym (words_of_other c.args.text.now c.if-text-ne-WORD_DIGITS.true)

pub returns-in_err-words : goal.returns-in_err-words
returns-in_err-words c =
    let text = c.args.text.now in
    let none = words_none text (take c.loop-l.l c.loop-l.words) c.loop-l.l (words_from text 0 32) (omega arith)
    (sym (word_at_is text c.loop-l.l _ _ (omega arith) (omega arith)) ∙ sym c.in_err-words.ensures) c.loop-l.invariant.on in
    let long = words_of_long text (omega arith) in cc

pub loop-l-preserved : goal.loop-l-preserved
loop-l-preserved c =
    let text = c.args.text.now in
    let l = c.loop-l.l in
    let words = c.loop-l.words in
    let w = c.in_ok-words.field-0 in
    let lt : l < length words = omega (arith, c.loop-l.invariant.long) in record {
      long = length-set words l w ∙ c.loop-l.invariant.long;
      on =
          ap (λ ws. prefixed ws (words_from text (l + 1) (32 - (l + 1)))) (take_more_set words l w lt)
          ∙ words_more text (take l words) l w (words_from text 0 32) (omega arith)
          (sym (word_at_is text l _ _ (omega arith) (omega arith)) ∙ sym c.in_ok-words.ensures) c.loop-l.invariant.on;
    }

pub returns : goal.returns
returns c =
    let text = c.args.text.now in
    let done = words_done text (take c.loop-l.l c.loop-l.words) c.loop-l.l (words_from text 0 32) (omega arith) c.loop-l.invariant.on in
    ap Some (sym (take_all c.loop-l.l c.loop-l.words (omega (arith, c.loop-l.invariant.long)))) ∙ done ∙ sym (words_of_long text (omega arith))
