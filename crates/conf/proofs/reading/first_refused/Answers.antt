use borrow.Author.Count.{below_more}
use Rattle.std.proofs.Common.{◌≡◌, false, map, arith}
use Rattle.std.specs.String.{string_bytes}
use Rattle.conf.specs.Rules.{refuses_word}
use Rattle.conf.proofs.FewWords.{few_words}
use Rattle.conf.proofs.reading.first_refused.Goals as goal

pub overflow_cast-result : goal.overflow_cast-result
overflow_cast-result c =
    let few = few_words (map string_bytes c.args.words.now) c.loop-at.at c.loop-at.invariant in omega arith

pub loop-at-preserved : goal.loop-at-preserved
loop-at-preserved c =
    let words = map string_bytes c.args.words.now in
    below_more (λ j. refuses_word words j ≡ false) c.loop-at.at c.loop-at.invariant cc

pub overflow_cast-result-then-lacks_word : goal.overflow_cast-result-then-lacks_word
overflow_cast-result-then-lacks_word c =
    let few = few_words (map string_bytes c.args.words.now) c.loop-at.at c.loop-at.invariant in omega arith
