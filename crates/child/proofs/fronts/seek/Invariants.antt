use Rattle.std.proofs.Common.{◌≡◌, ℕ, ◌+◌, ◌-◌, ◌≤◌, List, ◌++◌, length, take}
use Rattle.peg_text.specs.Records.{cut_of}
use Rattle.child.specs.Shown.{IsFrontOf}
use Rattle.child.proofs.fronts.seek.Given as goal

abbrev pub invariant-loop-length : goal.invariant-loop-length
invariant-loop-length l = record {
  inside : l.start ≤ length l.piece;
  count : (bytes : List ℕ) → length (cut_of (bytes ++ take l.start l.piece)).whole + l.left ≡ length (cut_of bytes).whole + l.fn.skip;
  shows : (bytes : List ℕ) → IsFrontOf (cut_of bytes).rest l.initial.shown → IsFrontOf (cut_of (bytes ++ take l.start l.piece)).rest l.shown;
}

abbrev pub decreases-loop-length : goal.decreases-loop-length
decreases-loop-length l = length l.piece - l.start
