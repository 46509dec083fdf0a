use Rattle.std.proofs.Common.{◌≡◌, ◌-◌, ◌≤◌, ◌++◌, map, length, drop}
use Rattle.peg_text.specs.Records.{records_of}
use Rattle.peg_text.proofs.lines.records.Given as goal

abbrev pub invariant-loop-length : goal.invariant-loop-length
invariant-loop-length l = record {
  inside : l.start ≤ length l.bytes;
  sofar : map (λ r. r.now) l.found.items ++ records_of (drop l.start l.bytes) ≡ records_of l.bytes;
}

abbrev pub decreases-loop-length : goal.decreases-loop-length
decreases-loop-length l = length l.bytes - l.start
