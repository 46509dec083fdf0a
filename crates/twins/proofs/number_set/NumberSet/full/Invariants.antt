use Rattle.std.proofs.Common.{◌≡◌, ℕ, ◌<◌, true, length}
use Rattle.twins.specs.Numbers.{contains}
use Rattle.twins.proofs.number_set.NumberSet.full.Given as goal

abbrev pub invariant-loop-number : goal.invariant-loop-number
invariant-loop-number l = record {
  bounded : length l.numbers ≡ l.bound;
  put : (t : ℕ) → t < l.number → contains l.numbers t ≡ true;
}
