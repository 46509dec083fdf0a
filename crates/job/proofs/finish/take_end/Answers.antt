use Rattle.std.proofs.Common.{ap, ◌∙◌}
use Rattle.task_core.specs.Board.{becomes_done, tried_at}
use Rattle.job.proofs.Endings.{end_runs}
use Rattle.job.proofs.finish.take_end.Goals as goal

pub end-first-requires : goal.end-first-requires
end-first-requires g c =
    let ended = c.reap-ended.result in
    let ends = c.reap-ended.ensures.ended in
    end_runs c.args.tasks.now (g.A.Attempting.board c.args.attempts.now) ended.attempt ended.status ends.0 (g.S.Site.seen c.args.site.now) (g.S.Site.seen c.reap-ended.new.self) c.requires.fits ends.1

pub returns-clause-step : goal.returns-clause-step
returns-clause-step g c =
    let ended = c.reap-ended.result in
    c.end-first.ensures.ended ended.status c.succeeded.ensures

pub returns-clause-first : goal.returns-clause-first
returns-clause-first g c =
    c.end-first.ensures.first ∙ ap (becomes_done (tried_at (g.A.Attempting.board c.args.attempts.now).tasks c.reap-ended.result.attempt.task.task)) c.succeeded.ensures
