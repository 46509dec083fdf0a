use Rattle.std.proofs.Common.{◌≡◌, ◌*◌, ◌≤◌, take}
use Rattle.std.specs.List.{sum_by}
use Rattle.bitstrings.specs.Words.{first_zero}
use Rattle.bitstrings.proofs.words.places.Given as goal

abbrev pub invariant-loop-word : goal.invariant-loop-word
invariant-loop-word l = (l.sum ≡ sum_by first_zero (take l.word-index l.words)) × (l.sum ≤ 32 * l.word-index)
