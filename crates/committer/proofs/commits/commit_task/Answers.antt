use Rattle.std.proofs.Common.{◌≡◌, sym, subst}
use Rattle.peg_base.specs.Names.{Names}
use Rattle.std.proofs.lemmas.Result.{on_ok_weaker}
use Rattle.dir_disk.specs.State.{after_move}
use Rattle.dir_disk.specs.Calls.{CanMove}
use Rattle.dir_disk.specs.Moments.{Told, files}
use Rattle.committer.specs.Paths.{task_of, attempt_of}
use Rattle.committer.proofs.CommitLemmas.{can_commit_task, task_has_output}
use Rattle.committer.proofs.commits.commit_task.Goals as goal

pub move_all-requires-clause-can : goal.move_all-requires-clause-can
move_all-requires-clause-can g c =
    λ tells.
    let folder = c.args.folder.now in
    let attempt = c.args.attempt.now in
    let old : Told = g.D.Dir.told c.args.dir.now in
    let can : CanMove (files old) (attempt_of folder attempt) (task_of folder attempt.task.phase attempt.task.task) = can_commit_task folder attempt (files old) (c.requires.output tells) (c.requires.short_paths tells) (c.requires.empty tells) (c.requires.is_open tells) in
    subst (λ (from : Names). CanMove (files old) from c.in_ok-to.to) (sym c.in_ok-from.ensures) (subst (λ (to : Names). CanMove (files old) (attempt_of folder attempt) to) (sym c.in_ok-to.ensures) can)

pub returns-clause-output : goal.returns-clause-output
returns-clause-output g c =
    λ tells.
    let folder = c.args.folder.now in
    let attempt = c.args.attempt.now in
    let from = c.in_ok-from.from in
    let to = c.in_ok-to.to in
    let old : Told = g.D.Dir.told c.args.dir.now in
    let new : Told = g.D.Dir.told c.move_all.new.dir in
    on_ok_weaker c.move_all.result (λ (moved : files new ≡ after_move from to (files old)). task_has_output folder attempt (files old) (files new) (c.requires.empty tells) (subst (λ (p : Names). files new ≡ after_move (attempt_of folder attempt) p (files old)) c.in_ok-to.ensures (subst (λ (p : Names). files new ≡ after_move p to (files old)) c.in_ok-from.ensures moved))) (c.move_all.ensures.moved tells)
