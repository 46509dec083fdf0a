use Rattle.std.proofs.Common.{◌∙◌, arith}
use Rattle.std.specs.Slice.Iter.{chunks_rest}
use Rattle.splits.proofs.CountLemmas.{ended-chunk, ended-few}
use Rattle.splits.proofs.line_count.count_lines.Goals as goal

pub overflow_add-lines : goal.overflow_add-lines
overflow_add-lines c =
    let parts = ended-chunk (chunks_rest c.loop-chunk.chunk-iterator) c.in-Some.chunk.now (chunks_rest c.next.new.self) c.in-Some.ensures.steps.1.0 in
    omega (arith, parts, c.loop-chunk.invariant.counted, c.lines_of_chunk.ensures, c.from-lines.ensures, ended-few c.args.bytes.now)

pub loop-chunk-preserved : goal.loop-chunk-preserved
loop-chunk-preserved c =
    let steps = c.in-Some.ensures.steps in
    let parts = ended-chunk (chunks_rest c.loop-chunk.chunk-iterator) c.in-Some.chunk.now (chunks_rest c.next.new.self) steps.1.0 in
    record {
      short = steps.0 ∙ c.loop-chunk.invariant.short;
      counted = omega (arith, parts, c.loop-chunk.invariant.counted, c.lines_of_chunk.ensures, c.from-lines.ensures);
    }

pub returns-clause-few : goal.returns-clause-few
returns-clause-few c = omega (arith, c.loop-chunk.invariant.counted, ended-few c.args.bytes.now)
