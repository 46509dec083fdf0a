use Rattle.gimv_block.proofs.RowLemmas.{AreWritten}
use Rattle.gimv_block.proofs.parts.append_rows.Given as goal

abbrev pub invariant-loop-row : goal.invariant-loop-row
invariant-loop-row g l = AreWritten (g.G.Gimv.algebra l.algorithm) l.rows.items l.row l.first l.fn.out.items l.out.items
