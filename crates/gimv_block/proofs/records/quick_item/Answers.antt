use Rattle.std.proofs.Common.{◌≡◌, ◌∙◌, Some, ap, subst, refl, sym, option_map, slice_get, length, arith}
use Rattle.std.proofs.lemmas.Bool.{ltb-true}
use Rattle.std.proofs.lemmas.Option.{slice_get_read}
use Rattle.gimv_core.specs.Algebras.{FitsMsg}
use Rattle.gimv_block.specs.BlockRecords.{item_of}
use Rattle.gimv_block.specs.Items.{from_first}
use Rattle.gimv_block.proofs.NumberLemmas.{quick_item_is}
use Rattle.gimv_block.proofs.SendLemmas.{one_fits}
use Rattle.gimv_block.proofs.records.quick_item.Goals as goal

pub returns-clause-is : goal.returns-clause-is
returns-clause-is g c =
    let a = g.G.Gimv.algebra c.args.algorithm.now in
    let left = option_map (λ rest. rest.now) c.first_item.result.1 in
    let there : slice_get c.args.vals.now.items c.in_ok-column.column ≡ Some c.in_ok-val.val.now =
    ap (λ vs. slice_get vs c.in_ok-column.column) (sym c.deref.ensures.value) ∙ slice_get_read c.deref.result.now (length c.deref.result.now) c.in_ok-column.column
    c.in_ok-val.val.now refl (ltb-true c.in_ok-column.column (length c.deref.result.now) (sym c.in_ok-val.ensures.lookup.0)) c.in_ok-val.ensures.lookup.1 in
    quick_item_is a c.args.vals.now.items c.args.rows c.args.text.now c.in_ok-row.fields.now
    c.in_ok-column.last.now c.first_item.result.0.now left c.in_ok-row.row
    c.in_ok-column.column c.in_ok-val.val.now c.in_ok-weight.weight c.in_ok-row.ensures (omega (arith, c.if-row-from.false, c.from.ensures))
    c.in_ok-column.ensures there c.first_item.ensures.is (sym c.in_ok-weight.ensures)
    ∙ ap (λ m. from_first (item_of a c.args.vals.now.items c.args.rows) (Some ((c.in_ok-row.row, m), left))) (sym c.combine2.ensures)

pub returns-clause-fits : goal.returns-clause-fits
returns-clause-fits g c =
    let a = g.G.Gimv.algebra c.args.algorithm.now in
    let there : slice_get c.args.vals.now.items c.in_ok-column.column ≡ Some c.in_ok-val.val.now =
    ap (λ vs. slice_get vs c.in_ok-column.column) (sym c.deref.ensures.value) ∙ slice_get_read c.deref.result.now (length c.deref.result.now) c.in_ok-column.column
    c.in_ok-val.val.now refl (ltb-true c.in_ok-column.column (length c.deref.result.now) (sym c.in_ok-val.ensures.lookup.0)) c.in_ok-val.ensures.lookup.1 in
    subst (FitsMsg a) (sym c.combine2.ensures)
    (one_fits a (g.met.G.Gimv.lawful c.args.algorithm.now) c.args.vals.now.items c.requires c.in_ok-column.column c.first_item.result.0.now
    c.in_ok-val.val.now c.in_ok-weight.weight there (sym c.in_ok-weight.ensures))
