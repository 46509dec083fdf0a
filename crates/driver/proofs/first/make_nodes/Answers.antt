use Rattle.dir_disk.specs.Moments.{Told, files}
use Rattle.mining.specs.declared.place.Place.TheVariants.{Nodes}
use Rattle.mining.specs.Flow.{mining_of}
use Rattle.mining.proofs.EnsureLemmas.{as_same, looks_stay, on_ok}
use Rattle.store.specs.Sealed.{IsMade, nodes_text}
use Rattle.mining.specs.Places.{folder_of}
use Rattle.mining.specs.Between.{IsSure}
use Rattle.driver.proofs.Nodes.{nodes_firm, nodes_kept, nodes_stay}
use Rattle.driver.proofs.Sealing.{made_sure}
use Rattle.driver.proofs.Settling.{same_keeps}
use Rattle.mining.proofs.Wholes.{same_state}
use Rattle.driver.proofs.Sealing.{makes_outside, outside_after}
use Rattle.driver.proofs.Starting.{later_then, nodes_later, same_later}
use Rattle.driver.proofs.Stored.{exits_disk}
use Rattle.driver.proofs.first.make_nodes.Goals as goal

pub returns-in_err-has-clause-stays : goal.returns-in_err-has-clause-stays
returns-in_err-has-clause-stays g c =
    λ tells. looks_stay (g.S.Dir.told c.args.site.now) (g.S.Dir.told c.has.new.site) (as_same (g.S.Dir.told c.args.site.now) (g.S.Dir.told c.has.new.site) (c.has.ensures.stands tells))

pub returns-in_err-has-clause-kept : goal.returns-in_err-has-clause-kept
returns-in_err-has-clause-kept g c =
    λ edges tells kept sure. same_keeps (mining_of g.S.Site.gives c.args.conf.now edges) (g.S.Dir.told c.args.site.now) (g.S.Dir.told c.has.new.site) kept (c.has.ensures.stands tells)

pub returns-then-branch-clause-stays : goal.returns-then-branch-clause-stays
returns-then-branch-clause-stays g c =
    λ tells. looks_stay (g.S.Dir.told c.args.site.now) (g.S.Dir.told c.has.new.site) (as_same (g.S.Dir.told c.args.site.now) (g.S.Dir.told c.has.new.site) (c.has.ensures.stands tells))

pub returns-then-branch-clause-kept : goal.returns-then-branch-clause-kept
returns-then-branch-clause-kept g c =
    λ edges tells kept sure. same_keeps (mining_of g.S.Site.gives c.args.conf.now edges) (g.S.Dir.told c.args.site.now) (g.S.Dir.told c.has.new.site) kept (c.has.ensures.stands tells)

pub returns-clause-firm : goal.returns-clause-firm
returns-clause-firm g c =
    λ tells. nodes_firm (nodes_text c.args.conf.now.nodes) (g.S.Dir.told c.has.new.site) (g.S.Dir.told c.begin_nodes.new.site) c.begin_nodes.result (c.has.ensures.firm tells) (c.begin_nodes.ensures.steps tells) (c.begin_nodes.ensures.made tells)

pub returns-clause-sure : goal.returns-clause-sure
returns-clause-sure g c =
    λ tells. on_ok (IsMade (folder_of Nodes) (nodes_text c.args.conf.now.nodes) (files (g.S.Dir.told c.begin_nodes.new.site))) (IsSure Nodes (files (g.S.Dir.told c.begin_nodes.new.site))) c.begin_nodes.result (made_sure Nodes (nodes_text c.args.conf.now.nodes) (files (g.S.Dir.told c.begin_nodes.new.site))) (c.begin_nodes.ensures.made tells)

pub returns-clause-stays : goal.returns-clause-stays
returns-clause-stays g c =
    λ tells. nodes_stay (g.S.Dir.told c.args.site.now) (g.S.Dir.told c.has.new.site) (g.S.Dir.told c.begin_nodes.new.site) (c.has.ensures.stands tells) (nodes_text c.args.conf.now.nodes) (λ q. g.met.S.Dir.now_allowed c.has.new.site q tells) (c.in_ok-has.ensures.no tells c.if-branch.false) (c.begin_nodes.ensures.steps tells)

pub returns-clause-kept : goal.returns-clause-kept
returns-clause-kept g c =
    λ edges tells kept sure. nodes_kept (g.S.Dir.told c.args.site.now) (g.S.Dir.told c.has.new.site) (g.S.Dir.told c.begin_nodes.new.site) (c.has.ensures.stands tells) (mining_of g.S.Site.gives c.args.conf.now edges) (λ q. g.met.S.Dir.now_allowed c.has.new.site q tells) kept sure (c.in_ok-has.ensures.no tells c.if-branch.false) (c.begin_nodes.ensures.steps tells)

pub returns-in_err-has-clause-later : goal.returns-in_err-has-clause-later
returns-in_err-has-clause-later g c =
    λ tells. same_later (files (g.S.Dir.told c.args.site.now)) (files (g.S.Dir.told c.has.new.site)) (same_state (g.S.Dir.told c.args.site.now) (g.S.Dir.told c.has.new.site) (c.has.ensures.stands tells))

pub returns-then-branch-clause-later : goal.returns-then-branch-clause-later
returns-then-branch-clause-later g c =
    λ tells. same_later (files (g.S.Dir.told c.args.site.now)) (files (g.S.Dir.told c.has.new.site)) (same_state (g.S.Dir.told c.args.site.now) (g.S.Dir.told c.has.new.site) (c.has.ensures.stands tells))

pub returns-clause-later : goal.returns-clause-later
returns-clause-later g c =
    λ tells.
    let e : Told = (g.S.Dir.told c.has.new.site) in
    let f : Told = (g.S.Dir.told c.begin_nodes.new.site) in
    later_then (files (g.S.Dir.told c.args.site.now)) (files e) (files f) (same_later (files (g.S.Dir.told c.args.site.now)) (files e) (same_state (g.S.Dir.told c.args.site.now) e (c.has.ensures.stands tells))) (nodes_later (files e) (files f) (outside_after (folder_of Nodes) e f (makes_outside (folder_of Nodes) (nodes_text c.args.conf.now.nodes) e f (c.begin_nodes.ensures.steps tells))))

pub returns-in_err-has-clause-no_store : goal.returns-in_err-has-clause-no_store
returns-in_err-has-clause-no_store g c =
    exits_disk (λ path line. ⊥) c.from_residual.result c.in_err-has.field-0.0 c.from_residual.ensures.1 c.in_err-has.ensures.of_disk
