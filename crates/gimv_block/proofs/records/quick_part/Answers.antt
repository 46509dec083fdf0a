use Rattle.std.proofs.Common.{sym, option_map, arith}
use Rattle.gimv_block.proofs.NumberLemmas.{quick_part_is}
use Rattle.gimv_block.proofs.records.quick_part.Goals as goal

pub returns-clause-is : goal.returns-clause-is
returns-clause-is g c =
    quick_part_is (g.G.Gimv.algebra c.args.algorithm.now) c.args.rows c.args.text.now c.in_ok-row.last.now c.first_item.result.0.now
    (option_map (λ rest. rest.now) c.first_item.result.1) c.in_ok-row.row c.in_ok-read_msg.field-0 c.in_ok-row.ensures
    (omega (arith, c.if-row-from.false, c.from.ensures)) c.first_item.ensures.is (sym c.in_ok-read_msg.ensures)
