use Rattle.std.proofs.Common.{◌≡◌, ◌≤◌, take}
use Rattle.splits.proofs.CountLemmas.{ended}
use Rattle.splits.proofs.line_count.lines_of_chunk.Given as goal

abbrev pub invariant-loop-byte : goal.invariant-loop-byte
invariant-loop-byte l =
    record {
      few : l.lines ≤ l.byte-index;
      counted : l.lines ≡ ended (take l.byte-index l.chunk);
    }
