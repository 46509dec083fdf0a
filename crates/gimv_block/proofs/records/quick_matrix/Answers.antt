use Rattle.std.proofs.Common.{sym, arith}
use Rattle.gimv_block.proofs.NumberLemmas.{quick_matrix_is}
use Rattle.gimv_block.proofs.records.quick_matrix.Goals as goal

pub returns : goal.returns
returns c =
    sym (quick_matrix_is c.args.line.now c.in_ok-column.value.now c.in_ok-after_tag.field-0.now c.in_ok-row.weight.now
    c.in_ok-column.column c.in_ok-row.row c.in_ok-weight.weight c.in_ok-column.ensures (omega (arith, c.if-column-ge-IDS.false))
    (sym c.in_ok-after_tag.ensures) c.in_ok-row.ensures (omega (arith, c.if-row-ge-IDS.false)) (sym c.in_ok-weight.ensures))
