use Rattle.std.proofs.Common.{[], sym, subst}
use Rattle.peg_base.specs.Names.{Names}
use Rattle.dir_disk.specs.Calls.{IsOpen}
use Rattle.dir_disk.specs.Moments.{Through, Told, files}
use Rattle.committer.specs.Folders.{IsUnmarked}
use Rattle.mining.specs.declared.place.Place.TheVariants.{Nodes}
use Rattle.store.specs.Sealed.{IsMade, Makes, nodes_text}
use Rattle.driver.proofs.Settling.{open_top}
use Rattle.mining.proofs.StoredLemmas.{err_is}
use Rattle.driver.proofs.Stored.{store_names_none}
use Rattle.mining.specs.Stops.{of_store}
use Rattle.driver.proofs.first.begin_nodes.Goals as goal

pub write_nodes-requires-clause-unmarked : goal.write_nodes-requires-clause-unmarked
write_nodes-requires-clause-unmarked g c =
    λ tells. subst (λ (f : Names). IsUnmarked f (files (g.S.Dir.told c.args.site.now))) (sym c.in_ok-folder.ensures) (c.requires.unmarked tells)

pub write_nodes-requires-clause-is_open : goal.write_nodes-requires-clause-is_open
write_nodes-requires-clause-is_open g c =
    λ tells.
    let d : Told = g.S.Dir.told c.args.site.now in
    subst (λ (f : Names). IsOpen (files d) f) (sym c.in_ok-folder.ensures) (open_top Nodes (files d) (g.met.S.Dir.top_is_no_file c.args.site.now (files d []).now tells (g.met.S.Dir.now_allowed c.args.site.now [] tells)))

pub returns-in_err-write_nodes-clause-steps : goal.returns-in_err-write_nodes-clause-steps
returns-in_err-write_nodes-clause-steps g c =
    λ tells.
    let d : Told = g.S.Dir.told c.args.site.now in
    let e : Told = g.S.Dir.told c.write_nodes.new.dir in
    subst (λ (f : Names). Through (Makes f (nodes_text c.args.conf.now.nodes) (files d)) d e) c.in_ok-folder.ensures (c.write_nodes.ensures.steps tells)

pub returns-clause-steps : goal.returns-clause-steps
returns-clause-steps g c =
    λ tells.
    let d : Told = g.S.Dir.told c.args.site.now in
    let e : Told = g.S.Dir.told c.write_nodes.new.dir in
    subst (λ (f : Names). Through (Makes f (nodes_text c.args.conf.now.nodes) (files d)) d e) c.in_ok-folder.ensures (c.write_nodes.ensures.steps tells)

pub returns-clause-made : goal.returns-clause-made
returns-clause-made g c =
    λ tells. subst (λ (f : Names). IsMade f (nodes_text c.args.conf.now.nodes) (files (g.S.Dir.told c.write_nodes.new.dir))) c.in_ok-folder.ensures (c.in_ok-write_nodes.ensures.made tells)

pub returns-in_err-write_nodes-clause-no_store : goal.returns-in_err-write_nodes-clause-no_store
returns-in_err-write_nodes-clause-no_store g c =
    err_is (λ path line. ⊥) c.from_residual-in_err-write_nodes.result (of_store c.in_err-write_nodes.field-0.0) c.from_residual-in_err-write_nodes.ensures.1 (store_names_none (λ path line. ⊥) c.in_err-write_nodes.field-0.0)
