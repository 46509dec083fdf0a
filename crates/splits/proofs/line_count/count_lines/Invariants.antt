use Rattle.std.proofs.Common.{◌≡◌, ◌+◌}
use Rattle.std.specs.Slice.Iter.{chunks_rest, chunks_size}
use Rattle.splits.proofs.CountLemmas.{ended}
use Rattle.splits.proofs.line_count.count_lines.Given as goal

abbrev pub invariant-loop-chunk : goal.invariant-loop-chunk
invariant-loop-chunk l =
    record {
      short : chunks_size l.chunk-iterator ≡ 192;
      counted : l.lines + ended (chunks_rest l.chunk-iterator) ≡ ended l.bytes;
    }
