-- One edge more is counted.
use Rattle.std.proofs.Common.{sym}
use Rattle.gimv_base.proofs.ReadingLemmas.{takes_silently, degree-more}
use Rattle.gimv_base.proofs.degrees.SourceGrouping.go_on.Goals as goal

pub returns-clause-ok : goal.returns-clause-ok
returns-clause-ok c =
    rw c.in_ok-push.ensures.items (takes_silently _ _ c.args.text.now c.args.arg5.now.items
    (degree-more c.args.edges.now.items c.in-Some.edge c.args.text.now (sym c.in-Some.ensures)))
