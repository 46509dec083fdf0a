use Rattle.driver.proofs.Logging.{outcome_told}
use Rattle.job.specs.Failing.{gained}
use Rattle.driver.specs.Logged.{LogsRun, TellsOfOutcome}
use Rattle.std.proofs.Common.{◌∙◌, sym}
use Rattle.driver.proofs.RunLemmas.{if_done, none_done, not_done}
use Rattle.std.proofs.Common.{IfSome, subst}
use Rattle.dir_disk.specs.Moments.{files}
use Rattle.driver.specs.Causes.{IsOpened}
use Rattle.driver.specs.declared.outcome.Outcome.{Outcome}
use Rattle.driver.specs.Causes.{IsRefusal}
use Rattle.mining.specs.Stored.{IsNotAsMade}
use Rattle.std.proofs.Common.{sym, ◌∙◌}
use Rattle.driver.proofs.Stored.{outcome_names}
use Rattle.driver.proofs.running.run_mining.Goals as goal

pub returns-in-Err-clause-unstarted : goal.returns-in-Err-clause-unstarted
returns-in-Err-clause-unstarted g c =
    λ refusal. c.in-Err.ensures.unstarted (subst IsRefusal c.into.ensures refusal)

pub returns-in-Err-clause-unmade : goal.returns-in-Err-clause-unmade
returns-in-Err-clause-unmade g c =
    λ tells refusal. c.in-Err.ensures.unmade tells (subst IsRefusal c.into.ensures refusal)

pub returns-in-Ok-clause-opened : goal.returns-in-Ok-clause-opened
returns-in-Ok-clause-opened g c = c.in-Ok.ensures.opened

pub returns-in-Err-clause-opened : goal.returns-in-Err-clause-opened
returns-in-Err-clause-opened g c =
    subst (λ (o : Outcome). IfSome (g.E.Source.left c.args.edges.now) (λ bytes. g.S.Dir.tells → IsOpened c.args.conf.now (files (g.S.Dir.told c.args.site.now)) bytes o)) (sym c.into.ensures) c.in-Err.ensures.opened

pub returns-in-Ok-clause-done : goal.returns-in-Ok-clause-done
returns-in-Ok-clause-done g c =
    if_done g.S.Site.gives g.S.Dir.tells (g.S.Dir.told c.args.site.now) (g.S.Dir.told c.mine.new.site) (g.S.Console.said c.args.site.now) (g.S.Console.said c.mine.new.site) c.args.conf.now (g.E.Source.left c.args.edges.now) c.mine.result _ c.in-Ok.is c.mine.ensures.done c.requires.mines

pub returns-in-Err-clause-done : goal.returns-in-Err-clause-done
returns-in-Err-clause-done g c =
    none_done g.S.Site.gives g.S.Dir.tells (g.S.Dir.told c.args.site.now) (g.S.Dir.told c.mine.new.site) (g.S.Console.said c.args.site.now) (g.S.Console.said c.mine.new.site) _ c.args.conf.now (g.E.Source.left c.args.edges.now) (λ is. not_done c.in-Err.stop (sym c.into.ensures ∙ is)) c.requires.mines

pub returns-in-Ok-clause-log : goal.returns-in-Ok-clause-log
returns-in-Ok-clause-log g c =
    c.in-Ok.ensures.log

pub returns-in-Err-clause-log : goal.returns-in-Err-clause-log
returns-in-Err-clause-log g c =
    subst (λ (o : Outcome). LogsRun g.S.Dir.tells g.S.Site.gives c.args.conf.now (g.S.Dir.told c.args.site.now) (g.S.Dir.told c.mine.new.site) (g.S.Site.seen c.args.site.now) (g.S.Site.seen c.mine.new.site) (g.S.Site.given c.args.site.now) (g.S.Site.given c.mine.new.site) o) (sym c.into.ensures) c.in-Err.ensures.log

pub returns-in-Ok-clause-answers : goal.returns-in-Ok-clause-answers
returns-in-Ok-clause-answers g c =
    c.in-Ok.ensures.answers

pub returns-in-Err-clause-answers : goal.returns-in-Err-clause-answers
returns-in-Err-clause-answers g c =
    subst (λ (o : Outcome). TellsOfOutcome (gained (g.S.Site.seen c.args.site.now).log (g.S.Site.seen c.mine.new.site).log) o) (sym c.into.ensures) (outcome_told (gained (g.S.Site.seen c.args.site.now).log (g.S.Site.seen c.mine.new.site).log) c.in-Err.stop c.in-Err.ensures.answers)

pub returns-in-Err-clause-stored : goal.returns-in-Err-clause-stored
returns-in-Err-clause-stored g c =
    λ path line tells form is. outcome_names (IsNotAsMade c.args.conf.now (files (g.S.Dir.told c.mine.new.site))) c.in-Err.stop path line (c.in-Err.ensures.stored tells form) (sym c.into.ensures ∙ is)

pub returns-in-Ok-clause-good : goal.returns-in-Ok-clause-good
returns-in-Ok-clause-good g c = λ k tells from is. c.in-Ok.ensures.good k tells from

pub returns-in-Err-clause-good : goal.returns-in-Err-clause-good
returns-in-Err-clause-good g c =
    λ k tells from is. absurd (not_done c.in-Err.stop (sym c.into.ensures ∙ is))
