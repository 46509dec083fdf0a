use Rattle.std.proofs.Common.{◌-◌, ◌<◌, ◌^◌, length, get_or, arith}
use Rattle.std.proofs.lemmas.List.Sums.{sum_by_more}
use Rattle.std.proofs.lemmas.Nat.{trailing_le}
use Rattle.bitstrings.specs.Words.{first_zero}
use Rattle.bitstrings.proofs.words.places.Goals as goal

pub loop-word-preserved : goal.loop-word-preserved
loop-word-preserved c =
    let i = c.loop-word.word-index in
    let words = c.args.words.now in
    let lt : i < length words = omega arith in (
      omega (arith, sum_by_more first_zero words i 0 lt, c.trailing_ones.ensures, c.loop-word.invariant.0),
      omega (arith, trailing_le 32 (2 ^ 32 - 1 - get_or words i 0), c.trailing_ones.ensures, c.loop-word.invariant.1),
    )
