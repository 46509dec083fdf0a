use Rattle.std.proofs.Common.{List, Err, ap, ◌∙◌}
use Rattle.std.proofs.lemmas.Result.{err_from_is_err_and}
use Rattle.dir_disk.specs.Moments.{Told, files}
use Rattle.dir_disk.specs.Children.{Given, Seen}
use Rattle.task_core.specs.Board.{fresh}
use Rattle.twins.specs.Rules.{MayStartTwin, rule_twin}
use Rattle.job.specs.Work.{work_of, text_at}
use Rattle.job.proofs.PhaseLemmas.{fresh_none_dead, ran_none}
use Rattle.job.proofs.LogLemmas.{ran_tells}
use Rattle.spec_job.proofs.twice.TwicePhases.run.Goals as goal

pub returns-in_err-attempts-clause-ran : goal.returns-in_err-attempts-clause-ran
returns-in_err-attempts-clause-ran g c =
    let p = err_from_is_err_and c.from_residual.result c.from_residual.ensures.1 in
    ran_none MayStartTwin g.S.Dir.tells (work_of c.args.folder.now c.args.phase c.args.words.now c.args.tasks) (fresh c.args.tasks c.args.slots) (g.S.Site.seen c.args.site.now) (g.S.Site.given c.args.site.now) (g.S.Dir.told c.args.site.now) c.from_residual.result (fresh_none_dead c.args.tasks c.args.slots) (p.1 ∙ ap Err p.2)

pub returns-in_err-attempts-clause-tells : goal.returns-in_err-attempts-clause-tells
returns-in_err-attempts-clause-tells g c =
    let w = work_of c.args.folder.now c.args.phase c.args.words.now c.args.tasks in
    let p = err_from_is_err_and c.from_residual.result c.from_residual.ensures.1 in
    let seen : Seen = g.S.Site.seen c.args.site.now in
    let had : List Given = g.S.Site.given c.args.site.now in
    let d : Told = g.S.Dir.told c.args.site.now in
    ran_tells MayStartTwin rule_twin g.S.Dir.tells w c.args.slots (text_at w (files d)) seen seen had had d d c.from_residual.result (ran_none MayStartTwin g.S.Dir.tells w (fresh c.args.tasks c.args.slots) seen had d c.from_residual.result (fresh_none_dead c.args.tasks c.args.slots) (p.1 ∙ ap Err p.2))
