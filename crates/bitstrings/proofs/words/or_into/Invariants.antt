use Rattle.std.proofs.Common.{◌≡◌, ℕ, ◌<◌, ◌≤◌, length, get_or, bit_or}
use Rattle.bitstrings.proofs.words.or_into.Given as goal

abbrev pub invariant-loop-l : goal.invariant-loop-l
invariant-loop-l l = record {
  long : length l.words ≡ 32;
  done : (k : ℕ) → k < l.l → get_or l.words k 0 ≡ bit_or (get_or l.initial.words k 0) (get_or l.others k 0);
  left : (k : ℕ) → l.l ≤ k → get_or l.words k 0 ≡ get_or l.initial.words k 0;
}
