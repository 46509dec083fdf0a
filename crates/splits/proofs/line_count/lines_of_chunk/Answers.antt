use Rattle.std.proofs.Common.{rules, ◌+◌, ◌∙◌, ap, sym, take}
use Rattle.splits.proofs.CountLemmas.{ended, ended-take}
use Rattle.splits.proofs.line_count.lines_of_chunk.Goals as goal

pub loop-byte-preserved : goal.loop-byte-preserved
loop-byte-preserved c =
    let chunk = c.args.chunk.now in
    let i = c.loop-byte.byte-index in
    record {
      few = search rules;
      counted = ap (λ n. n + c.from-lines.result) c.loop-byte.invariant.counted ∙ ap (λ n. ended (take i chunk) + n) c.from-lines.ensures ∙ sym (ended-take chunk i c.loop-byte-test.true);
    }
