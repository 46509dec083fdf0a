use Rattle.std.proofs.Common.{◌≡◌, ◌≤◌, ◌∙◌, sym, subst, length, arith}
use Rattle.splits.proofs.TableLemmas.{one_split_more, splits_made, splits_follow, splits_are_few}
use Rattle.splits.specs.Table.{FollowEachOther, splits_of}
use Rattle.splits.proofs.table.split_table.Goals as goal

pub loop-number-preserved : goal.loop-number-preserved
loop-number-preserved c =
    c.in_ok-push.ensures.items ∙ one_split_more c.args.len c.max-length.result c.loop-number.number c.min.result c.loop-number.splits.items c.loop-number.invariant c.min.ensures

pub returns-clause-exact : goal.returns-clause-exact
returns-clause-exact c =
    c.loop-number.invariant ∙ splits_made c.args.len c.args.split c.div_ceil.result c.max-length.result c.div_ceil-count.result c.loop-number.number c.div_ceil.ensures c.max-length.ensures c.div_ceil-count.ensures (omega arith)

pub returns-clause-follow : goal.returns-clause-follow
returns-clause-follow c =
    let is : c.loop-number.splits.items ≡ splits_of c.args.len c.args.split = c.loop-number.invariant ∙ splits_made c.args.len c.args.split c.div_ceil.result c.max-length.result c.div_ceil-count.result c.loop-number.number c.div_ceil.ensures c.max-length.ensures c.div_ceil-count.ensures (omega arith) in
    subst (λ splits. FollowEachOther 0 splits c.args.len) (sym is) (splits_follow c.args.len c.args.split c.requires.positive)

pub returns-clause-few : goal.returns-clause-few
returns-clause-few c =
    let is : c.loop-number.splits.items ≡ splits_of c.args.len c.args.split = c.loop-number.invariant ∙ splits_made c.args.len c.args.split c.div_ceil.result c.max-length.result c.div_ceil-count.result c.loop-number.number c.div_ceil.ensures c.max-length.ensures c.div_ceil-count.ensures (omega arith) in
    subst (λ splits. length splits ≤ 4096) (sym is) (splits_are_few c.args.len c.args.split c.requires.positive)
