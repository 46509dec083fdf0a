use Rattle.std.proofs.Common.{◌≡◌, None, Some, get_or, sym, ap, subst, ◌∙◌}
use Rattle.std.proofs.lemmas.List.{get_or_read_under}
use Rattle.gimv_block.proofs.RowLemmas.{AreWritten, one_written, none_written}
use Rattle.gimv_block.proofs.parts.append_rows.Goals as goal
use Rattle.gimv_block.proofs.parts.append_rows.Goals.{in-Some+in_ok-append_part, in_default}

pub loop-row-preserved : goal.loop-row-preserved
loop-row-preserved g c =
    let a = g.G.Gimv.algebra c.args.algorithm.now in
    let rows = c.args.rows.now.items in
    let row = c.loop-row.row in
    let old = c.args.out.now.items in
    let all = c.index.result.now in
    let all_is = sym (get_or_read_under rows row c.len-row-end.result all None c.index.ensures c.loop-row-test.true (c.len-row-end.ensures ∙ c.args.rows.now.ok.0)) in
    elim c.match-index.branch [
      | in-Some+in_ok-append_part w ↦
          rw (w.first-is, w.out-is)
          (one_written a rows row c.loop-row.first old c.loop-row.out.items w.append_part.new.out.items w.in-Some.message (all_is ∙ w.in-Some.is) c.loop-row.invariant w.in_ok-append_part.ensures.ok)
      | in_default w ↦
          rw (w.first-is, w.out-is) (none_written a rows row c.loop-row.first old c.loop-row.out.items (all_is ∙ w.in_default.is) c.loop-row.invariant)
    ]
