use Rattle.driver.proofs.Finished.{begun_stays, conf_stays}
use Rattle.dir_disk.specs.Moments.{files}
use Rattle.edge_text.specs.Edges.{edges_of}
use Rattle.conf.specs.Texts.{text_of}
use Rattle.mining.specs.declared.place.Place.TheVariants.{Conf, Edges}
use Rattle.mining.specs.Places.{folder_of}
use Rattle.mining.specs.Flow.{mining_of}
use Rattle.driver.proofs.Begin.{begun_firm, begun_kept, begun_sure, conf_kept, edges_unmarked}
use Rattle.driver.proofs.Sealing.{outside_after}
use Rattle.driver.proofs.Starting.{conf_later, edges_later, later_then}
use Rattle.std.proofs.Common.{◌≡◌, None}
use Rattle.dir_disk.specs.State.{State}
use Rattle.driver.specs.Causes.{IsOpened, found_in, outcome_of}
use Rattle.driver.specs.Opening.{mark_of}
use Rattle.driver.proofs.Begin.{both_told}
use Rattle.driver.proofs.Causes.{exits, of_disk, unmarked_mark}
use Rattle.driver.proofs.CausesUnmade.{begun_none, no_disk_refusal, refuses}
use Rattle.std.proofs.Common.{List, ℕ}
use Rattle.driver.specs.declared.outcome.Outcome.{Outcome}
use Rattle.driver.proofs.Stored.{exits_disk}
use Rattle.driver.proofs.opening.begin_job.Goals as goal

pub returns-in_err-make_conf-clause-unmade : goal.returns-in_err-make_conf-clause-unmade
returns-in_err-make_conf-clause-unmade g c =
    λ tells refusal. absurd (no_disk_refusal c.in_err-make_conf.field-0.0 c.in_err-make_conf.ensures.of_disk (refuses c.from_residual.result c.in_err-make_conf.field-0.0 c.from_residual.ensures.1 refusal))

pub returns-clause-unmade : goal.returns-clause-unmade
returns-clause-unmade g c =
    λ tells refusal. begun_none (g.S.Dir.told c.args.site.now) (g.S.Dir.told c.make_conf.new.site) (g.S.Dir.told c.make_edges.new.site) (c.make_edges.ensures.unmade tells refusal) (c.make_conf.ensures.outside tells) (c.make_edges.ensures.outside tells)

pub returns-in_err-make_conf-clause-opened : goal.returns-in_err-make_conf-clause-opened
returns-in_err-make_conf-clause-opened g c =
    exits (λ (bytes : List ℕ) (outcome : Outcome). g.S.Dir.tells → IsOpened c.args.conf.now (files (g.S.Dir.told c.args.site.now)) bytes outcome) (g.E.Source.left c.args.edges.now) c.from_residual.result c.in_err-make_conf.field-0.0 c.from_residual.ensures.1 (λ bytes tells. of_disk c.args.conf.now (found_in (files (g.S.Dir.told c.args.site.now))) (edges_of c.args.conf.now.nodes bytes) c.in_err-make_conf.field-0.0 c.in_err-make_conf.ensures.of_disk)

pub returns-clause-opened : goal.returns-clause-opened
returns-clause-opened g c =
    both_told (λ bytes. (state : State) → mark_of Edges state ≡ None → IsOpened c.args.conf.now state bytes (outcome_of c.make_edges.result)) (λ bytes. (λ (bytes : List ℕ) (outcome : Outcome). g.S.Dir.tells → IsOpened c.args.conf.now (files (g.S.Dir.told c.args.site.now)) bytes outcome) bytes (outcome_of c.make_edges.result)) (g.E.Source.left c.args.edges.now) (λ bytes opened tells. opened (files (g.S.Dir.told c.args.site.now)) (unmarked_mark (files (g.S.Dir.told c.args.site.now)) (λ q. g.met.S.Dir.now_allowed c.args.site.now q tells) (c.requires.unmarked tells))) c.make_edges.ensures.opened

pub returns-in_err-make_conf-clause-kept : goal.returns-in_err-make_conf-clause-kept
returns-in_err-make_conf-clause-kept g c =
    conf_kept (λ bytes. mining_of g.S.Site.gives c.args.conf.now (edges_of c.args.conf.now.nodes bytes).edges) (g.E.Source.left c.args.edges.now) g.S.Dir.tells (g.S.Dir.told c.args.site.now) (g.S.Dir.told c.make_conf.new.site) (λ tells q. g.met.S.Dir.now_allowed c.args.site.now q tells) c.requires.unmarked c.make_conf.ensures.outside

pub make_edges-requires-clause-unmarked : goal.make_edges-requires-clause-unmarked
make_edges-requires-clause-unmarked g c =
    λ tells. edges_unmarked (g.S.Dir.told c.args.site.now) (g.S.Dir.told c.make_conf.new.site) (c.make_conf.ensures.outside tells) (c.requires.unmarked tells)

pub returns-clause-firm : goal.returns-clause-firm
returns-clause-firm g c =
    λ tells. begun_firm (text_of c.args.conf.now) (g.S.Dir.told c.args.site.now) (g.S.Dir.told c.make_conf.new.site) (g.S.Dir.told c.make_edges.new.site) c.make_edges.result (c.requires.firm tells) (c.make_conf.ensures.outside tells) (c.in_ok-make_conf.ensures.made tells) (c.make_edges.ensures.outside tells) (c.make_edges.ensures.whole tells)

pub returns-clause-sure : goal.returns-clause-sure
returns-clause-sure g c =
    λ tells. begun_sure (g.S.Dir.told c.make_edges.new.site) c.make_edges.result (c.make_edges.ensures.whole tells)

pub returns-clause-kept : goal.returns-clause-kept
returns-clause-kept g c =
    begun_kept (λ bytes. mining_of g.S.Site.gives c.args.conf.now (edges_of c.args.conf.now.nodes bytes).edges) (g.E.Source.left c.args.edges.now) g.S.Dir.tells (g.S.Dir.told c.args.site.now) (g.S.Dir.told c.make_conf.new.site) (g.S.Dir.told c.make_edges.new.site) (λ tells q. g.met.S.Dir.now_allowed c.args.site.now q tells) (λ tells q. g.met.S.Dir.now_allowed c.make_conf.new.site q tells) c.requires.unmarked c.make_conf.ensures.outside (λ bytes. c.in_ok-make_conf.ensures.made) c.make_edges.ensures.steps

pub returns-in_err-make_conf-clause-stays : goal.returns-in_err-make_conf-clause-stays
returns-in_err-make_conf-clause-stays g c =
    λ tells. conf_stays (g.S.Dir.told c.args.site.now) (g.S.Dir.told c.make_conf.new.site) (λ q. g.met.S.Dir.now_allowed c.args.site.now q tells) (c.requires.unmarked tells) (c.make_conf.ensures.outside tells)

pub returns-clause-stays : goal.returns-clause-stays
returns-clause-stays g c =
    λ tells. begun_stays (g.S.Dir.told c.args.site.now) (g.S.Dir.told c.make_conf.new.site) (g.S.Dir.told c.make_edges.new.site) (λ q. g.met.S.Dir.now_allowed c.args.site.now q tells) (λ q. g.met.S.Dir.now_allowed c.make_conf.new.site q tells) (c.requires.unmarked tells) (c.make_conf.ensures.outside tells) (c.make_edges.ensures.outside tells)

pub returns-in_err-make_conf-clause-later : goal.returns-in_err-make_conf-clause-later
returns-in_err-make_conf-clause-later g c =
    λ tells. conf_later (files (g.S.Dir.told c.args.site.now)) (files (g.S.Dir.told c.make_conf.new.site)) (outside_after (folder_of Conf) (g.S.Dir.told c.args.site.now) (g.S.Dir.told c.make_conf.new.site) (c.make_conf.ensures.outside tells))

pub returns-clause-later : goal.returns-clause-later
returns-clause-later g c =
    λ tells. later_then (files (g.S.Dir.told c.args.site.now)) (files (g.S.Dir.told c.make_conf.new.site)) (files (g.S.Dir.told c.make_edges.new.site)) (conf_later (files (g.S.Dir.told c.args.site.now)) (files (g.S.Dir.told c.make_conf.new.site)) (outside_after (folder_of Conf) (g.S.Dir.told c.args.site.now) (g.S.Dir.told c.make_conf.new.site) (c.make_conf.ensures.outside tells))) (edges_later (files (g.S.Dir.told c.make_conf.new.site)) (files (g.S.Dir.told c.make_edges.new.site)) (outside_after (folder_of Edges) (g.S.Dir.told c.make_conf.new.site) (g.S.Dir.told c.make_edges.new.site) (c.make_edges.ensures.outside tells)))

pub returns-in_err-make_conf-clause-no_store : goal.returns-in_err-make_conf-clause-no_store
returns-in_err-make_conf-clause-no_store g c =
    exits_disk (λ path line. ⊥) c.from_residual.result c.in_err-make_conf.field-0.0 c.from_residual.ensures.1 c.in_err-make_conf.ensures.of_disk
