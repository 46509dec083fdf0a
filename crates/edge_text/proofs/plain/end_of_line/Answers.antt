use Rattle.std.proofs.Common.{arith}
use Rattle.edge_text.proofs.PlainLemmas.{EndsLine-cr}
use Rattle.edge_text.proofs.plain.end_of_line.Goals as goal

pub returns-then-bytes-end-eq10-2 : goal.returns-then-bytes-end-eq10-2
returns-then-bytes-end-eq10-2 c =
    EndsLine-cr c.args.bytes.now c.args.end (omega arith) (omega arith) (omega arith)
