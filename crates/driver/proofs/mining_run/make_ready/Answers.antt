use Rattle.driver.proofs.Logging.{none_run, quiet_answer, run_after, vector_stays}
use Rattle.mining.proofs.Failures.{begun_answer}
use Rattle.mining.specs.Jobs.{rank_after, rank_from, rank_of_base}
use Rattle.std.proofs.Common.{arith}
use Rattle.driver.proofs.Finished.{finished_then, whole_finished}
use Rattle.std.proofs.Common.{◌≡◌}
use Rattle.edge_text.specs.Edges.{edges_of}
use Rattle.conf.specs.declared.commands.Form.TheVariants.{Base}
use Rattle.mining.specs.Flow.{mining_of}
use Rattle.driver.proofs.Begin.{more_kept}
use Rattle.dir_disk.specs.Moments.{files}
use Rattle.driver.proofs.Starting.{later_then}
use Rattle.driver.specs.Causes.{IsOpened, IsTakenOver, found_in, outcome_of}
use Rattle.driver.specs.Outcomes.{outcome_of_stop}
use Rattle.driver.proofs.Begin.{both_told}
use Rattle.driver.proofs.Causes.{exits_by, then_jobs}
use Rattle.driver.proofs.CausesUnmade.{no_jobs_refusal, refuses}
use Rattle.std.proofs.Common.{List, ℕ}
use Rattle.driver.specs.declared.outcome.Outcome.{Outcome}
use Rattle.mining.specs.Stored.{IsNotAsMade}
use Rattle.mining.proofs.StoredLemmas.{err_is}
use Rattle.driver.proofs.mining_run.make_ready.Goals as goal

pub returns-in_err-take_job-clause-unstarted : goal.returns-in_err-take_job-clause-unstarted
returns-in_err-take_job-clause-unstarted g c =
    λ refusal. c.take_job.ensures.seen

pub returns-clause-unstarted : goal.returns-clause-unstarted
returns-clause-unstarted g c =
    λ refusal. absurd (no_jobs_refusal c.make_base.result c.make_base.ensures.err refusal)

pub returns-in_err-take_job-clause-unmade : goal.returns-in_err-take_job-clause-unmade
returns-in_err-take_job-clause-unmade g c =
    λ tells refusal. c.in_err-take_job.ensures.unmade tells (refuses c.from_residual.result c.in_err-take_job.field-0.0 c.from_residual.ensures.1 refusal)

pub returns-clause-unmade : goal.returns-clause-unmade
returns-clause-unmade g c =
    λ tells refusal. absurd (no_jobs_refusal c.make_base.result c.make_base.ensures.err refusal)

pub returns-in_err-take_job-clause-opened : goal.returns-in_err-take_job-clause-opened
returns-in_err-take_job-clause-opened g c =
    exits_by (λ (bytes : List ℕ) (outcome : Outcome). g.S.Dir.tells → IsOpened c.args.conf.now (files (g.S.Dir.told c.args.site.now)) bytes outcome) (λ bytes. g.S.Dir.tells → IsOpened c.args.conf.now (files (g.S.Dir.told c.args.site.now)) bytes (outcome_of_stop c.in_err-take_job.field-0.0)) (g.E.Source.left c.args.edges.now) c.from_residual.result c.in_err-take_job.field-0.0 c.from_residual.ensures.1 (λ bytes opened. opened) c.in_err-take_job.ensures.opened

pub returns-clause-opened : goal.returns-clause-opened
returns-clause-opened g c =
    both_told (λ bytes. g.S.Dir.tells → IsTakenOver c.args.conf.now (found_in (files (g.S.Dir.told c.args.site.now))) (edges_of c.args.conf.now.nodes bytes)) (λ bytes. (λ (bytes : List ℕ) (outcome : Outcome). g.S.Dir.tells → IsOpened c.args.conf.now (files (g.S.Dir.told c.args.site.now)) bytes outcome) bytes (outcome_of c.make_base.result)) (g.E.Source.left c.args.edges.now) (λ bytes taken tells. then_jobs c.args.conf.now (found_in (files (g.S.Dir.told c.args.site.now))) (edges_of c.args.conf.now.nodes bytes) c.make_base.result (taken tells) c.make_base.ensures.err) c.in_ok-take_job.ensures.opened

pub returns-clause-kept : goal.returns-clause-kept
returns-clause-kept g c =
    more_kept (λ bytes. mining_of g.S.Site.gives c.args.conf.now (edges_of c.args.conf.now.nodes bytes).edges) (g.E.Source.left c.args.edges.now) g.S.Dir.tells (c.args.conf.now.form ≡ Base) (g.S.Dir.told c.args.site.now) (g.S.Dir.told c.take_job.new.site) (g.S.Dir.told c.make_base.new.site) c.take_job.ensures.kept (λ bytes tells kept form. c.make_base.ensures.kept (edges_of c.args.conf.now.nodes bytes).edges tells kept (c.in_ok-take_job.ensures.sure tells) form)

pub returns-clause-stays : goal.returns-clause-stays
returns-clause-stays g c =
    λ tells. finished_then (g.S.Dir.told c.args.site.now) (g.S.Dir.told c.take_job.new.site) (g.S.Dir.told c.make_base.new.site) (c.take_job.ensures.stays tells) (whole_finished (g.S.Dir.told c.take_job.new.site) (g.S.Dir.told c.make_base.new.site) (c.make_base.ensures.stays tells))

pub returns-clause-later : goal.returns-clause-later
returns-clause-later g c =
    λ tells. later_then (files (g.S.Dir.told c.args.site.now)) (files (g.S.Dir.told c.take_job.new.site)) (files (g.S.Dir.told c.make_base.new.site)) (c.take_job.ensures.later tells) (c.make_base.ensures.later tells)

pub returns-in_err-take_job-clause-jobs : goal.returns-in_err-take_job-clause-jobs
returns-in_err-take_job-clause-jobs g c =
    none_run g.S.Dir.tells g.S.Site.gives c.args.conf.now rank_of_base (rank_after 0) (g.S.Site.seen c.args.site.now) (g.S.Site.seen c.take_job.new.site) (g.S.Site.given c.args.site.now) (g.S.Site.given c.take_job.new.site) (g.S.Dir.told c.take_job.new.site) c.from_residual.result (omega arith) c.take_job.ensures.seen c.take_job.ensures.given

pub returns-in_err-take_job-clause-early : goal.returns-in_err-take_job-clause-early
returns-in_err-take_job-clause-early g c =
    λ tells sure. none_run g.S.Dir.tells g.S.Site.gives c.args.conf.now rank_of_base (rank_from 0) (g.S.Site.seen c.args.site.now) (g.S.Site.seen c.take_job.new.site) (g.S.Site.given c.args.site.now) (g.S.Site.given c.take_job.new.site) (g.S.Dir.told c.take_job.new.site) c.from_residual.result (omega arith) c.take_job.ensures.seen c.take_job.ensures.given

pub returns-in_err-take_job-clause-answers : goal.returns-in_err-take_job-clause-answers
returns-in_err-take_job-clause-answers g c =
    quiet_answer (g.S.Site.seen c.args.site.now) (g.S.Site.seen c.take_job.new.site) c.from_residual.result c.in_err-take_job.field-0.0 c.take_job.ensures.seen c.from_residual.ensures.1 c.in_err-take_job.ensures.no_task

pub returns-clause-jobs : goal.returns-clause-jobs
returns-clause-jobs g c =
    run_after g.S.Dir.tells g.S.Site.gives c.args.conf.now (g.S.Site.seen c.args.site.now) (g.S.Site.seen c.take_job.new.site) (g.S.Site.seen c.make_base.new.site) (g.S.Site.given c.args.site.now) (g.S.Site.given c.take_job.new.site) (g.S.Site.given c.make_base.new.site) rank_of_base (rank_after 0) (g.S.Dir.told c.make_base.new.site) c.make_base.result (omega arith) c.take_job.ensures.seen c.take_job.ensures.given c.make_base.ensures.jobs

pub returns-clause-early : goal.returns-clause-early
returns-clause-early g c =
    λ tells sure. run_after g.S.Dir.tells g.S.Site.gives c.args.conf.now (g.S.Site.seen c.args.site.now) (g.S.Site.seen c.take_job.new.site) (g.S.Site.seen c.make_base.new.site) (g.S.Site.given c.args.site.now) (g.S.Site.given c.take_job.new.site) (g.S.Site.given c.make_base.new.site) rank_of_base (rank_from 0) (g.S.Dir.told c.make_base.new.site) c.make_base.result (omega arith) c.take_job.ensures.seen c.take_job.ensures.given (c.make_base.ensures.early tells (vector_stays 0 (g.S.Dir.told c.args.site.now) (g.S.Dir.told c.take_job.new.site) (omega arith) (c.take_job.ensures.stays tells) sure))

pub returns-clause-answers : goal.returns-clause-answers
returns-clause-answers g c =
    begun_answer (Unit {0}) (g.S.Site.seen c.args.site.now) (g.S.Site.seen c.take_job.new.site) (g.S.Site.seen c.make_base.new.site) c.make_base.result c.take_job.ensures.seen c.make_base.ensures.answers

pub returns-in_err-take_job-clause-stored : goal.returns-in_err-take_job-clause-stored
returns-in_err-take_job-clause-stored g c =
    λ tells form. err_is (IsNotAsMade c.args.conf.now (files (g.S.Dir.told c.take_job.new.site))) c.from_residual.result c.in_err-take_job.field-0.0 c.from_residual.ensures.1 (c.in_err-take_job.ensures.stored tells)

pub returns-clause-stored : goal.returns-clause-stored
returns-clause-stored g c =
    λ tells form. c.make_base.ensures.stored tells form (c.in_ok-take_job.ensures.sure tells)
