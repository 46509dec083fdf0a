use Rattle.driver.proofs.Logging.{none_logs, plain_told}
use Rattle.std.proofs.Common.{◌∙◌, sym, ap, subst}
use Rattle.std.proofs.lemmas.Bool.{false≢true}
use Rattle.dir_disk.specs.Moments.{EachImage, Through, Told, files}
use Rattle.dir_disk.proofs.Through.{started}
use Rattle.conf.specs.Commands.{is_mining}
use Rattle.driver.specs.Opening.{HasVectors, StaysOne}
use Rattle.driver.proofs.RunLemmas.{mines_other, none_stay}
use Rattle.driver.proofs.CausesUnmade.{same_none}
use Rattle.driver.proofs.Stored.{plain_names_none}
use Rattle.driver.proofs.running.run_over.Goals as goal

pub returns-in-Plain-clause-unstarted : goal.returns-in-Plain-clause-unstarted
returns-in-Plain-clause-unstarted g c =
    λ refusal. (g.met.S.Site.beside_console c.label_nodes.new.console c.args.site.now c.label_nodes.ensures.beside).0

pub returns-in-Plain-clause-unmade : goal.returns-in-Plain-clause-unmade
returns-in-Plain-clause-unmade g c =
    λ tells refusal. same_none (files (g.S.Dir.told c.args.site.now)) (files (g.S.Dir.told c.label_nodes.new.console)) (ap (λ (t : Told). files t) ((g.met.S.Site.beside_console c.label_nodes.new.console c.args.site.now c.label_nodes.ensures.beside).1 tells).1)

pub returns-in-Plain-clause-opened : goal.returns-in-Plain-clause-opened
returns-in-Plain-clause-opened g c =
    λ mines. absurd (false≢true (sym (ap is_mining c.in-Plain.is) ∙ mines))

pub returns-in-Plain-clause-steady_disk : goal.returns-in-Plain-clause-steady_disk
returns-in-Plain-clause-steady_disk g c =
    λ other. (g.met.S.Site.beside_console c.label_nodes.new.console c.args.site.now c.label_nodes.ensures.beside).3

pub returns-in-Plain-clause-stays : goal.returns-in-Plain-clause-stays
returns-in-Plain-clause-stays g c =
    λ tells. subst (λ (t : Told). StaysOne (files (g.S.Dir.told c.args.site.now)) (files t)) (sym ((g.met.S.Site.beside_console c.label_nodes.new.console c.args.site.now c.label_nodes.ensures.beside).1 tells).1) (none_stay (files (g.S.Dir.told c.args.site.now)))

pub returns-in-Plain-clause-vectors : goal.returns-in-Plain-clause-vectors
returns-in-Plain-clause-vectors g c =
    λ tells. subst (λ (t : Told). Through (EachImage (HasVectors (files (g.S.Dir.told c.args.site.now)))) (g.S.Dir.told c.args.site.now) t) (sym ((g.met.S.Site.beside_console c.label_nodes.new.console c.args.site.now c.label_nodes.ensures.beside).1 tells).1) (started (EachImage (HasVectors (files (g.S.Dir.told c.args.site.now)))) (g.S.Dir.told c.args.site.now))

pub returns-in-Plain-clause-kept : goal.returns-in-Plain-clause-kept
returns-in-Plain-clause-kept g c =
    λ mines. absurd (false≢true (sym (ap is_mining c.in-Plain.is) ∙ mines))

pub returns-in-Plain-clause-acked : goal.returns-in-Plain-clause-acked
returns-in-Plain-clause-acked g c =
    λ mines. absurd (false≢true (sym (ap is_mining c.in-Plain.is) ∙ mines))

pub returns-in-Plain-clause-part : goal.returns-in-Plain-clause-part
returns-in-Plain-clause-part g c =
    λ mines. absurd (false≢true (sym (ap is_mining c.in-Plain.is) ∙ mines))

pub returns-in-Plain-clause-done : goal.returns-in-Plain-clause-done
returns-in-Plain-clause-done g c =
    λ mines. absurd (false≢true (sym (ap is_mining c.in-Plain.is) ∙ mines))

pub run_mining-requires-clause-mines : goal.run_mining-requires-clause-mines
run_mining-requires-clause-mines g c =
    mines_other c.args.conf.now.command c.in_default.not-Plain

pub returns-in-Plain-clause-log : goal.returns-in-Plain-clause-log
returns-in-Plain-clause-log g c =
    λ k after. none_logs g.S.Dir.tells g.S.Site.gives c.args.conf.now k (g.S.Site.seen c.args.site.now) (g.S.Site.seen c.label_nodes.new.console) (g.S.Site.given c.args.site.now) (g.S.Site.given c.label_nodes.new.console) (g.S.Dir.told c.label_nodes.new.console) c.label_nodes.result (g.met.S.Site.beside_console c.label_nodes.new.console c.args.site.now c.label_nodes.ensures.beside).0 (λ tells. ((g.met.S.Site.beside_console c.label_nodes.new.console c.args.site.now c.label_nodes.ensures.beside).1 tells).0)

pub returns-in-Plain-clause-answers : goal.returns-in-Plain-clause-answers
returns-in-Plain-clause-answers g c =
    plain_told (g.S.Site.seen c.args.site.now) (g.S.Site.seen c.label_nodes.new.console) c.label_nodes.result (g.met.S.Site.beside_console c.label_nodes.new.console c.args.site.now c.label_nodes.ensures.beside).0 c.label_nodes.ensures.own

pub returns-in-Plain-clause-idle : goal.returns-in-Plain-clause-idle
returns-in-Plain-clause-idle g c =
    λ is. (g.met.S.Site.beside_console c.label_nodes.new.console c.args.site.now c.label_nodes.ensures.beside).0

pub returns-in_default-clause-idle : goal.returns-in_default-clause-idle
returns-in_default-clause-idle g c =
    λ is. absurd (c.in_default.not-Plain is)

pub returns-in-Plain-clause-stored : goal.returns-in-Plain-clause-stored
returns-in-Plain-clause-stored g c =
    λ path line tells form is. absurd (plain_names_none c.label_nodes.result path line c.label_nodes.ensures.own is)

pub returns-in-Plain-clause-good : goal.returns-in-Plain-clause-good
returns-in-Plain-clause-good g c =
    λ mines. absurd (false≢true (sym (ap is_mining c.in-Plain.is) ∙ mines))
