use Rattle.std.proofs.Common.{sym, subst, arith}
use Rattle.gimv_block.specs.Numbers.{BeginsWithNumber}
use Rattle.gimv_block.proofs.NumberLemmas.{quick_cut_is}
use Rattle.gimv_block.proofs.records.quick_cut.Goals as goal

pub returns : goal.returns
returns c =
    let row = subst (λ v. BeginsWithNumber v 32 c.in_ok-row.row c.in_ok-row.rest.now) c.split_pair.ensures.value c.in_ok-row.ensures in
    sym (quick_cut_is c.args.line.now c.in_ok-row.rest.now c.in_ok-column.weight.now c.in_ok-row.row c.in_ok-column.column c.in_ok-weight.weight
    row (omega (arith, c.if-row-ge-IDS.false)) c.in_ok-column.ensures (omega (arith, c.if-column-ge-IDS.false)) (sym c.in_ok-weight.ensures))
