use Rattle.std.proofs.Common.{Bool, ◌≡◌, true, false, ◌&&◌, not, refl, sym, ap, ◌∙◌, subst}
use Rattle.std.proofs.lemmas.Result.{on_ok_weaker}
use Rattle.dir_disk.specs.Moments.{Told, files}
use Rattle.dir_disk.specs.Children.{Seen}
use Rattle.task_core.specs.Board.{Board, NoneDead}
use Rattle.job.specs.Work.{text_at}
use Rattle.job.specs.Going.{has_dead}
use Rattle.job.specs.Standing.{IsMoved, HasWork}
use Rattle.job.specs.Turned.{Moves}
use Rattle.dir_disk.specs.declared.site.LogEntry.TheVariants.{Ended as Left}
use Rattle.job.proofs.Endings.{is_first, is_due, ended, end_runs, end_job, free_commit, due_success, due_delivers, rests_stand}
use Rattle.job.proofs.Goings.{moves_ended, always_on_err}
use Rattle.job.proofs.TurnLemmas.{turn_rests, turn_commits, commits_stand}
use Rattle.job.proofs.finish.end_one.Goals as goal

pub returns-then-not-is_due-clause-turn : goal.returns-then-not-is_due-clause-turn
returns-then-not-is_due-clause-turn g c =
    let m : Board = g.A.Attempting.board c.args.attempts.now in
    let mid = c.take_end-left in
    let attempt = mid.result.ended.attempt in
    let status = mid.result.ended.status in
    let left = mid.ensures.ended in
    let due : is_due m attempt status ≡ false = ap (λ (k : Board). is_first m attempt status && not (has_dead k.tasks)) (sym mid.ensures.step) ∙ ap (λ (x : Bool). x && not (has_dead (g.A.Attempting.board mid.new.attempts).tasks)) (sym mid.ensures.first) ∙ sym c.is_due.ensures ∙ c.if-not-is_due.true in
    turn_rests g.A.Attempting.may _ g.S.Dir.tells c.args.tasks.now g.S.Site.gives m (g.A.Attempting.board mid.new.attempts) attempt status left.0 (g.S.Site.seen c.args.site.now) (g.S.Site.seen mid.new.site) (g.S.Site.given c.args.site.now) (g.S.Site.given mid.new.site) (g.S.Dir.told c.args.site.now) (g.S.Dir.told mid.new.site) c.requires.busy c.requires.fits left.1 left.2 mid.ensures.step mid.ensures.given due

pub returns-then-not-is_due-clause-stands : goal.returns-then-not-is_due-clause-stands
returns-then-not-is_due-clause-stands g c =
    λ tells none.
    let m : Board = g.A.Attempting.board c.args.attempts.now in
    let mid = c.take_end-left in
    let attempt = mid.result.ended.attempt in
    let status = mid.result.ended.status in
    let left = mid.ensures.ended in
    let due : is_due m attempt status ≡ false = ap (λ (k : Board). is_first m attempt status && not (has_dead k.tasks)) (sym mid.ensures.step) ∙ ap (λ (x : Bool). x && not (has_dead (g.A.Attempting.board mid.new.attempts).tasks)) (sym mid.ensures.first) ∙ sym c.is_due.ensures ∙ c.if-not-is_due.true in
    let none_is : NoneDead (ended m attempt status).tasks = subst (λ (k : Board). NoneDead k.tasks) mid.ensures.step none in
    subst (λ (k : Board). HasWork c.args.tasks.now g.S.Site.gives (files (g.S.Dir.told mid.new.site)) k (g.S.Site.seen mid.new.site).running) (sym mid.ensures.step) (rests_stand c.args.tasks.now g.S.Site.gives m attempt status left.0 (g.S.Site.seen c.args.site.now) (g.S.Site.seen mid.new.site) (g.S.Dir.told c.args.site.now) (g.S.Dir.told mid.new.site) c.requires.fits left.1 (left.2 tells) due (c.requires.stands tells) none_is)

pub returns-then-not-is_due-clause-moves : goal.returns-then-not-is_due-clause-moves
returns-then-not-is_due-clause-moves g c =
    let m : Board = g.A.Attempting.board c.args.attempts.now in
    let mid = c.take_end-left in
    let attempt = mid.result.ended.attempt in
    let status = mid.result.ended.status in
    let left = mid.ensures.ended in
    let old : Seen = g.S.Site.seen c.args.site.now in
    let new : Seen = g.S.Site.seen mid.new.site in
    subst (λ (k : Board). Moves 0 m k old new) (sym mid.ensures.step) (moves_ended m attempt.task.task attempt.number status (Left attempt status) old new (end_runs c.args.tasks.now m attempt status left.0 old new c.requires.fits left.1) left.1.log refl)

pub deliver-requires-clause-phase : goal.deliver-requires-clause-phase
deliver-requires-clause-phase g c =
    let mid = c.take_end-left in
    let left = mid.ensures.ended in
    (end_job c.args.tasks.now (g.A.Attempting.board c.args.attempts.now) mid.result.ended.attempt mid.result.ended.status left.0 (g.S.Site.seen c.args.site.now) (g.S.Site.seen mid.new.site) c.requires.fits left.1).1

pub deliver-requires-clause-lent_attempt : goal.deliver-requires-clause-lent_attempt
deliver-requires-clause-lent_attempt g c =
    let m : Board = g.A.Attempting.board c.args.attempts.now in
    let mid = c.take_end-left in
    let attempt = mid.result.ended.attempt in
    let status = mid.result.ended.status in
    let left = mid.ensures.ended in
    let due : is_due m attempt status ≡ true = ap (λ (k : Board). is_first m attempt status && not (has_dead k.tasks)) (sym mid.ensures.step) ∙ ap (λ (x : Bool). x && not (has_dead (g.A.Attempting.board mid.new.attempts).tasks)) (sym mid.ensures.first) ∙ sym c.is_due.ensures ∙ c.if-not-is_due.false in
    (free_commit c.args.tasks.now m attempt status left.0 (g.S.Site.seen c.args.site.now) (g.S.Site.seen mid.new.site) (g.S.Dir.lent mid.new.site) c.requires.fits left.1 (g.met.S.Site.lent_to_children mid.new.site)).0

pub deliver-requires-clause-lent_task : goal.deliver-requires-clause-lent_task
deliver-requires-clause-lent_task g c =
    let m : Board = g.A.Attempting.board c.args.attempts.now in
    let mid = c.take_end-left in
    let attempt = mid.result.ended.attempt in
    let status = mid.result.ended.status in
    let left = mid.ensures.ended in
    let due : is_due m attempt status ≡ true = ap (λ (k : Board). is_first m attempt status && not (has_dead k.tasks)) (sym mid.ensures.step) ∙ ap (λ (x : Bool). x && not (has_dead (g.A.Attempting.board mid.new.attempts).tasks)) (sym mid.ensures.first) ∙ sym c.is_due.ensures ∙ c.if-not-is_due.false in
    (free_commit c.args.tasks.now m attempt status left.0 (g.S.Site.seen c.args.site.now) (g.S.Site.seen mid.new.site) (g.S.Dir.lent mid.new.site) c.requires.fits left.1 (g.met.S.Site.lent_to_children mid.new.site)).1

pub deliver-requires-clause-output : goal.deliver-requires-clause-output
deliver-requires-clause-output g c =
    λ tells.
    let m : Board = g.A.Attempting.board c.args.attempts.now in
    let mid = c.take_end-left in
    let attempt = mid.result.ended.attempt in
    let status = mid.result.ended.status in
    let left = mid.ensures.ended in
    let due : is_due m attempt status ≡ true = ap (λ (k : Board). is_first m attempt status && not (has_dead k.tasks)) (sym mid.ensures.step) ∙ ap (λ (x : Bool). x && not (has_dead (g.A.Attempting.board mid.new.attempts).tasks)) (sym mid.ensures.first) ∙ sym c.is_due.ensures ∙ c.if-not-is_due.false in
    let delivered = due_delivers c.args.tasks.now g.S.Site.gives m attempt status left.0 (g.S.Site.seen c.args.site.now) (g.S.Site.seen mid.new.site) (g.S.Dir.told c.args.site.now) (g.S.Dir.told mid.new.site) c.requires.fits left.1 (left.2 tells) due (c.requires.stands tells) in
    (g.S.Site.gives c.args.tasks.now.words (text_at c.args.tasks.now (files (g.S.Dir.told mid.new.site)) attempt.task.task), delivered.output)

pub deliver-requires-clause-rest : goal.deliver-requires-clause-rest
deliver-requires-clause-rest g c =
    λ tells.
    let m : Board = g.A.Attempting.board c.args.attempts.now in
    let mid = c.take_end-left in
    let attempt = mid.result.ended.attempt in
    let status = mid.result.ended.status in
    let left = mid.ensures.ended in
    let due : is_due m attempt status ≡ true = ap (λ (k : Board). is_first m attempt status && not (has_dead k.tasks)) (sym mid.ensures.step) ∙ ap (λ (x : Bool). x && not (has_dead (g.A.Attempting.board mid.new.attempts).tasks)) (sym mid.ensures.first) ∙ sym c.is_due.ensures ∙ c.if-not-is_due.false in
    (due_delivers c.args.tasks.now g.S.Site.gives m attempt status left.0 (g.S.Site.seen c.args.site.now) (g.S.Site.seen mid.new.site) (g.S.Dir.told c.args.site.now) (g.S.Dir.told mid.new.site) c.requires.fits left.1 (left.2 tells) due (c.requires.stands tells)).rest

pub returns-clause-turn : goal.returns-clause-turn
returns-clause-turn g c =
    let m : Board = g.A.Attempting.board c.args.attempts.now in
    let mid = c.take_end-left in
    let attempt = mid.result.ended.attempt in
    let status = mid.result.ended.status in
    let left = mid.ensures.ended in
    let due : is_due m attempt status ≡ true = ap (λ (k : Board). is_first m attempt status && not (has_dead k.tasks)) (sym mid.ensures.step) ∙ ap (λ (x : Bool). x && not (has_dead (g.A.Attempting.board mid.new.attempts).tasks)) (sym mid.ensures.first) ∙ sym c.is_due.ensures ∙ c.if-not-is_due.false in
    let beside = g.met.S.Site.beside_dir c.deliver.new.dir mid.new.site c.deliver.ensures.beside in
    turn_commits g.A.Attempting.may c.deliver.result g.S.Dir.tells c.args.tasks.now g.S.Site.gives m (g.A.Attempting.board mid.new.attempts) attempt status left.0 (g.S.Site.seen c.args.site.now) (g.S.Site.seen mid.new.site) (g.S.Site.seen c.deliver.new.dir) (g.S.Site.given c.args.site.now) (g.S.Site.given mid.new.site) (g.S.Site.given c.deliver.new.dir) (g.S.Dir.told c.args.site.now) (g.S.Dir.told mid.new.site) (g.S.Dir.told c.deliver.new.dir) c.requires.busy c.requires.fits left.1 left.2 mid.ensures.step beside.0 (λ tells. (mid.ensures.given tells, beside.1 tells)) due c.deliver.ensures.steps c.deliver.ensures.calls

pub returns-clause-stands : goal.returns-clause-stands
returns-clause-stands g c =
    λ tells.
    let w = c.args.tasks.now in
    let m : Board = g.A.Attempting.board c.args.attempts.now in
    let mid = c.take_end-left in
    let attempt = mid.result.ended.attempt in
    let status = mid.result.ended.status in
    let left = mid.ensures.ended in
    let due : is_due m attempt status ≡ true = ap (λ (k : Board). is_first m attempt status && not (has_dead k.tasks)) (sym mid.ensures.step) ∙ ap (λ (x : Bool). x && not (has_dead (g.A.Attempting.board mid.new.attempts).tasks)) (sym mid.ensures.first) ∙ sym c.is_due.ensures ∙ c.if-not-is_due.false in
    let beside = g.met.S.Site.beside_dir c.deliver.new.dir mid.new.site c.deliver.ensures.beside in
    let e : Told = g.S.Dir.told mid.new.site in
    let f : Told = g.S.Dir.told c.deliver.new.dir in
    on_ok_weaker c.deliver.result (λ (moved : IsMoved w attempt.task.task attempt.number (files e) (files f)). λ (none : NoneDead (g.A.Attempting.board mid.new.attempts).tasks). commits_stand w g.S.Site.gives m (g.A.Attempting.board mid.new.attempts) attempt status left.0 (g.S.Site.seen c.args.site.now) (g.S.Site.seen mid.new.site) (g.S.Site.seen c.deliver.new.dir) (g.S.Dir.told c.args.site.now) e f c.requires.fits left.1 (left.2 tells) mid.ensures.step beside.0 due (c.requires.stands tells) (c.deliver.ensures.steps tells) moved) (c.deliver.ensures.moved tells)

pub returns-clause-moves : goal.returns-clause-moves
returns-clause-moves g c =
    let m : Board = g.A.Attempting.board c.args.attempts.now in
    let mid = c.take_end-left in
    let attempt = mid.result.ended.attempt in
    let status = mid.result.ended.status in
    let left = mid.ensures.ended in
    let old : Seen = g.S.Site.seen c.args.site.now in
    let new : Seen = g.S.Site.seen mid.new.site in
    let beside = g.met.S.Site.beside_dir c.deliver.new.dir mid.new.site c.deliver.ensures.beside in
    subst (λ (s : Seen). Moves 0 m (g.A.Attempting.board mid.new.attempts) old s) (sym beside.0) (subst (λ (k : Board). Moves 0 m k old new) (sym mid.ensures.step) (moves_ended m attempt.task.task attempt.number status (Left attempt status) old new (end_runs c.args.tasks.now m attempt status left.0 old new c.requires.fits left.1) left.1.log refl))

pub returns-clause-none_dead : goal.returns-clause-none_dead
returns-clause-none_dead g c =
    let m : Board = g.A.Attempting.board c.args.attempts.now in
    let mid = c.take_end-left in
    let attempt = mid.result.ended.attempt in
    let status = mid.result.ended.status in
    let due : is_due m attempt status ≡ true = ap (λ (k : Board). is_first m attempt status && not (has_dead k.tasks)) (sym mid.ensures.step) ∙ ap (λ (x : Bool). x && not (has_dead (g.A.Attempting.board mid.new.attempts).tasks)) (sym mid.ensures.first) ∙ sym c.is_due.ensures ∙ c.if-not-is_due.false in
    always_on_err c.deliver.result (NoneDead (g.A.Attempting.board mid.new.attempts).tasks) (subst (λ (k : Board). NoneDead k.tasks) (sym mid.ensures.step) (due_success m attempt status due).1)
