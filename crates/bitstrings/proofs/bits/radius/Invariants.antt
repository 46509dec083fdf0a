use Rattle.std.proofs.Common.{◌≡◌, ◌-◌, ◌<◌, ℕ, false, leb, get_or}
use Rattle.bitstrings.specs.Radius.{last_sum}
use Rattle.bitstrings.proofs.bits.radius.Given as goal

abbrev pub invariant-loop-sum : goal.invariant-loop-sum
invariant-loop-sum l = record {
  counted : l.step ≡ l.sum-index;
  last_is : l.last ≡ last_sum l.sums;
  apart : (k : ℕ) → k < l.sum-index → leb (last_sum l.sums - get_or l.sums k 0) 4 ≡ false;
}
