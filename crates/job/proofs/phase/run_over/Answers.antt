use Rattle.std.proofs.Common.{Err, ap, ◌∙◌, subst}
use Rattle.std.proofs.lemmas.Result.{err_from_is_err_and}
use Rattle.peg_base.specs.Names.{Names}
use Rattle.dir_disk.specs.Moments.{Told, files}
use Rattle.dir_disk.specs.Children.{Seen}
use Rattle.task_core.specs.Board.{Board}
use Rattle.job.specs.Standing.{AllMade}
use Rattle.job.specs.Going.{IsExact}
use Rattle.job.specs.Ran.{Judged}
use Rattle.job.proofs.Goings.{exact_ok}
use Rattle.job.proofs.TurnLemmas.{keeps_then}
use Rattle.job.proofs.PhaseLemmas.{ran_none, ran_judged, ran_refused, made_judged, made_all, done_over}
use Rattle.job.proofs.phase.run_over.Goals as goal

pub returns-in_err-job-clause-ran : goal.returns-in_err-job-clause-ran
returns-in_err-job-clause-ran g c =
    let p = err_from_is_err_and c.from_residual.result c.from_residual.ensures.1 in
    ran_none g.A.Attempting.may g.S.Dir.tells c.args.tasks.now (g.A.Attempting.board c.args.attempts.now) (g.S.Site.seen c.args.site.now) (g.S.Site.given c.args.site.now) (g.S.Dir.told c.args.site.now) c.from_residual.result c.requires.alive (p.1 ∙ ap Err p.2)

pub returns-in-Ok-clause-ran : goal.returns-in-Ok-clause-ran
returns-in-Ok-clause-ran g c =
    let w = c.args.tasks.now in
    let n : Board = g.A.Attempting.board c.run_tasks.new.attempts in
    let judged : Judged w.folder w.phase n c.in-Ok.made c.judge.result = subst (λ (job : Names). Judged job w.phase n c.in-Ok.made c.judge.result) c.in_ok-job.ensures c.judge.ensures in
    ran_judged g.A.Attempting.may g.met.A.Attempting.rule (IsExact c.args.tasks.now.home c.run_tasks.result) g.S.Dir.tells w (g.A.Attempting.board c.args.attempts.now) c.in-Ok.made n (g.S.Site.seen c.args.site.now) (g.S.Site.seen c.run_tasks.new.site) (g.S.Site.given c.args.site.now) (g.S.Site.given c.run_tasks.new.site) (g.S.Dir.told c.args.site.now) (g.S.Dir.told c.run_tasks.new.site) c.judge.result (exact_ok c.args.tasks.now.home c.run_tasks.result c.in-Ok.made c.in-Ok.is) c.requires.slots c.run_tasks.ensures.turn c.in-Ok.ensures.over judged

pub returns-in-Ok-clause-made : goal.returns-in-Ok-clause-made
returns-in-Ok-clause-made g c =
    λ tells.
    let w = c.args.tasks.now in
    let n : Board = g.A.Attempting.board c.run_tasks.new.attempts in
    let d : Told = g.S.Dir.told c.args.site.now in
    let e : Told = g.S.Dir.told c.run_tasks.new.site in
    let new : Seen = g.S.Site.seen c.run_tasks.new.site in
    made_judged c.in_ok-job.job w.phase n c.in-Ok.made c.judge.result (AllMade w g.S.Site.gives (files d) (files e)) c.judge.ensures (λ none. made_all w c.requires.fits.small.homes g.S.Site.gives n new.running d e (c.run_tasks.ensures.turn.keeps tells) (done_over g.A.Attempting.may g.met.A.Attempting.rule (IsExact c.args.tasks.now.home c.run_tasks.result) g.S.Dir.tells w (g.A.Attempting.board c.args.attempts.now) c.in-Ok.made n (g.S.Site.seen c.args.site.now) new (g.S.Site.given c.args.site.now) (g.S.Site.given c.run_tasks.new.site) d e c.requires.slots c.run_tasks.ensures.turn c.in-Ok.ensures.over none) (c.in-Ok.ensures.stands tells none))

pub returns-in-Err-clause-ran : goal.returns-in-Err-clause-ran
returns-in-Err-clause-ran g c =
    ran_refused g.A.Attempting.may c.run_tasks.result c.in-Err.fault g.S.Dir.tells c.args.tasks.now (g.A.Attempting.board c.args.attempts.now) (g.A.Attempting.board c.run_tasks.new.attempts) (g.A.Attempting.board c.reap_rest.new.attempts) (g.S.Site.seen c.args.site.now) (g.S.Site.seen c.run_tasks.new.site) (g.S.Site.seen c.reap_rest.new.site) (g.S.Site.given c.args.site.now) (g.S.Site.given c.run_tasks.new.site) (g.S.Site.given c.reap_rest.new.site) (g.S.Dir.told c.args.site.now) (g.S.Dir.told c.run_tasks.new.site) (g.S.Dir.told c.reap_rest.new.site) (Err c.into.result) c.in-Err.is (ap Err c.into.ensures) c.run_tasks.ensures.turn c.reap_rest.ensures.turn c.in-Err.ensures.none_dead

pub returns-in-Err-clause-keeps : goal.returns-in-Err-clause-keeps
returns-in-Err-clause-keeps g c =
    λ tells.
    keeps_then c.args.tasks.now (g.S.Dir.told c.args.site.now) (g.S.Dir.told c.run_tasks.new.site) (g.S.Dir.told c.reap_rest.new.site) (c.run_tasks.ensures.turn.keeps tells) (c.reap_rest.ensures.turn.keeps tells)
