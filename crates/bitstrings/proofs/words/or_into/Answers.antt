use Rattle.std.proofs.Common.{arith}
use Rattle.bitstrings.proofs.WordLemmas.{or_words_is}
use Rattle.bitstrings.proofs.words.or_into.Goals as goal

pub returns : goal.returns
returns c =
    let long = c.loop-l.invariant.long in
    or_words_is c.args.words.now c.args.others.now c.loop-l.words (omega (arith, long, c.told-words, c.told-others)) (omega (arith, long, c.told-words, c.told-others)) (λ k lt. c.loop-l.invariant.done k (omega (arith, long)))
