-- One message more is put together with those before it.
use Rattle.std.proofs.Common.{sym}
use Rattle.std.proofs.lemmas.Bool.{and_parts, and_from}
use Rattle.gimv_base.proofs.ReadingLemmas.{takes_silently, message_fits, assigned-more}
use Rattle.gimv_base.proofs.stage2.NodeGrouping.go_on.Goals as goal

pub returns-clause-ok : goal.returns-clause-ok
returns-clause-ok g c =
    let a = g.G.Gimv.algebra c.args.self.now.algorithm in
    rw c.combine.ensures (takes_silently _ _ c.args.text.now c.args.arg5.now.items
    (assigned-more a c.args.state.now.node c.args.state.now.val c.args.state.now.all c.in-Some.message c.args.text.now (sym c.in-Some.ensures)))

pub returns-clause-fits : goal.returns-clause-fits
returns-clause-fits g c =
    let a = g.G.Gimv.algebra c.args.self.now.algorithm in
    let laws = g.met.G.Gimv.lawful c.args.self.now.algorithm in
    let parts = and_parts (a.fits_val c.args.state.now.val) (a.fits_msg c.args.state.now.all) c.requires in
    let message = message_fits a laws c.args.text.now c.in-Some.message (sym c.in-Some.ensures) in
    rw c.combine.ensures (and_from (a.fits_val c.args.state.now.val) _ parts.0 (laws.in_any_order.combine_fits c.args.state.now.all c.in-Some.message parts.1 message))
