use Rattle.std.proofs.Common.{◌++◌, ◌∷◌, [], refl, sym, ap, ◌∙◌, subst, Err}
use Rattle.peg_base.specs.Names.{Names}
use Rattle.dir_disk.specs.State.{bytes_of}
use Rattle.dir_disk.specs.Moments.{Told, clock, files}
use Rattle.dir_disk.specs.Children.{Child, Given, Seen}
use Rattle.dir_disk.specs.declared.site.LogEntry.TheVariants.{Started, StartFailed as Refused}
use Rattle.task_core.specs.Board.{Board, after, Start, Refuse}
use Rattle.job.specs.Work.{text_at}
use Rattle.task_core.proofs.TriedLemmas.{after_start, after_refused}
use Rattle.job.specs.Standing.{HasWork}
use Rattle.job.specs.Turned.{Moves}
use Rattle.job.proofs.Fitting.{IsNew}
use Rattle.job.proofs.Steps.{input_is_no_output, free_output, touches_started, touches_refused, stands_started, stands_refused, stands_is}
use Rattle.job.proofs.Goings.{moves_started, moves_refused}
use Rattle.job.proofs.TurnLemmas.{turn_started, turn_refused, turn_same}
use Rattle.job.proofs.begin.start_child.Goals as goal

pub start-requires-clause-read : goal.start-requires-clause-read
start-requires-clause-read g c =
    input_is_no_output c.args.tasks.now (g.A.Attempting.board c.args.attempts.now) c.args.attempt.now.task.task (g.S.Site.seen c.args.site.now).running (g.S.Dir.lent c.args.site.now) c.args.input.now (g.met.S.Site.lent_to_children c.args.site.now) c.requires.input c.requires.fits

pub start-requires-clause-free : goal.start-requires-clause-free
start-requires-clause-free g c =
    free_output c.args.tasks.now (g.A.Attempting.board c.args.attempts.now) c.args.attempt.now.task.task c.args.attempt.now.number (g.S.Site.seen c.args.site.now).running (g.S.Dir.lent c.args.site.now) c.args.output.now (g.met.S.Site.lent_to_children c.args.site.now) c.requires.output (g.met.A.Attempting.rule.next (g.A.Attempting.board c.args.attempts.now) c.args.attempt.now.task.task c.args.attempt.now.number c.requires.may) c.requires.fits

pub returns-in-Ok-clause-turn : goal.returns-in-Ok-clause-turn
returns-in-Ok-clause-turn g c =
    let w = c.args.tasks.now in
    let m : Board = g.A.Attempting.board c.args.attempts.now in
    let attempt = c.args.attempt.now in
    let t = attempt.task.task in
    let a = attempt.number in
    let d : Told = g.S.Dir.told c.args.site.now in
    let e : Told = g.S.Dir.told c.start.new.self in
    let child : Child = record { attempt = attempt; words = c.words.result.now; input = c.args.input.now; output = c.args.output.now; given = bytes_of (files d c.args.input.now).now } in
    let text_is = ap (λ (p : Names). bytes_of (files d p).now) c.requires.input in
    let is_new : IsNew w (text_at w (files d) t) t a child = record { job = c.requires.job; phase = c.requires.phase; task = refl; number = refl; words = c.words.ensures; input = c.requires.input; output = c.requires.output; given = text_is } in
    let one : Given = record { words = c.words.result.now; input = bytes_of (files d c.args.input.now).now; moment = clock d } in
    turn_started g.A.Attempting.may (Unit {0}) g.S.Dir.tells w m (g.A.Attempting.board c.start-in-Ok.new.self) child (g.S.Site.seen c.args.site.now) (g.S.Site.seen c.start.new.self) (g.S.Site.given c.args.site.now) (g.S.Site.given c.start.new.self) one d e c.requires.may (g.met.A.Attempting.rule.next (g.A.Attempting.board c.args.attempts.now) c.args.attempt.now.task.task c.args.attempt.now.number c.requires.may) c.requires.fits is_new (c.start-in-Ok.ensures a c.requires.may) c.in-Ok.ensures.seen.ok (λ tells. record { is = (c.in-Ok.ensures.given tells).ok; words = c.words.ensures; input = text_is; moment = refl }) (λ tells. let starts = (c.in-Ok.ensures.directory tells).ok in (starts.0, touches_started w t a c.args.output.now (files d) (files e) c.requires.output starts.1))

pub returns-in-Ok-clause-stands : goal.returns-in-Ok-clause-stands
returns-in-Ok-clause-stands g c =
    λ tells.
    let w = c.args.tasks.now in
    let m : Board = g.A.Attempting.board c.args.attempts.now in
    let attempt = c.args.attempt.now in
    let t = attempt.task.task in
    let a = attempt.number in
    let d : Told = g.S.Dir.told c.args.site.now in
    let e : Told = g.S.Dir.told c.start.new.self in
    let old : Seen = g.S.Site.seen c.args.site.now in
    let new : Seen = g.S.Site.seen c.start.new.self in
    let child : Child = record { attempt = attempt; words = c.words.result.now; input = c.args.input.now; output = c.args.output.now; given = bytes_of (files d c.args.input.now).now } in
    let text_is = ap (λ (p : Names). bytes_of (files d p).now) c.requires.input in
    let is_new : IsNew w (text_at w (files d) t) t a child = record { job = c.requires.job; phase = c.requires.phase; task = refl; number = refl; words = c.words.ensures; input = c.requires.input; output = c.requires.output; given = text_is } in
    let starts = (c.in-Ok.ensures.directory tells).ok in
    let touches = touches_started w t a c.args.output.now (files d) (files e) c.requires.output starts.1 in
    let next = g.met.A.Attempting.rule.next (g.A.Attempting.board c.args.attempts.now) c.args.attempt.now.task.task c.args.attempt.now.number c.requires.may in
    let now_is = stands_started w g.S.Site.gives m t a child old.running (files d) (files e) next c.requires.fits is_new touches (c.requires.stands tells) in
    let now_is : HasWork w g.S.Site.gives (files e) (after m (Start t a)) (old.running ++ child ∷ []) = subst (λ (k : Board). HasWork w g.S.Site.gives (files e) k (old.running ++ child ∷ [])) (sym (after_start m t a next)) now_is in
    stands_is w g.S.Site.gives (files e) (after m (Start t a)) (g.A.Attempting.board c.start-in-Ok.new.self) (old.running ++ child ∷ []) new.running (c.start-in-Ok.ensures a c.requires.may) (ap (λ (s : Seen). s.running) c.in-Ok.ensures.seen.ok) now_is

pub returns-in-Ok-clause-moves : goal.returns-in-Ok-clause-moves
returns-in-Ok-clause-moves g c =
    let m : Board = g.A.Attempting.board c.args.attempts.now in
    let attempt = c.args.attempt.now in
    let old : Seen = g.S.Site.seen c.args.site.now in
    let new : Seen = g.S.Site.seen c.start.new.self in
    subst (λ (k : Board). Moves 1 m k old new) (sym (c.start-in-Ok.ensures attempt.number c.requires.may)) (moves_started m attempt.task.task attempt.number (Started attempt) old new (g.met.A.Attempting.rule.next (g.A.Attempting.board c.args.attempts.now) c.args.attempt.now.task.task c.args.attempt.now.number c.requires.may) (ap (λ (s : Seen). s.log) c.in-Ok.ensures.seen.ok) refl)

pub returns-in-Err-Failed-clause-turn : goal.returns-in-Err-Failed-clause-turn
returns-in-Err-Failed-clause-turn g c =
    let w = c.args.tasks.now in
    let m : Board = g.A.Attempting.board c.args.attempts.now in
    let attempt = c.args.attempt.now in
    let t = attempt.task.task in
    let a = attempt.number in
    let d : Told = g.S.Dir.told c.args.site.now in
    let e : Told = g.S.Dir.told c.start.new.self in
    let refused = c.in-Err-Failed.is ∙ ap Err c.in-Err-Failed.field-0-is in
    let text_is = ap (λ (p : Names). bytes_of (files d p).now) c.requires.input in
    let one : Given = record { words = c.words.result.now; input = bytes_of (files d c.args.input.now).now; moment = clock d } in
    let seen = c.start.ensures.seen.failed refused in
    turn_refused g.A.Attempting.may (Unit {0}) g.S.Dir.tells w m (g.A.Attempting.board c.start_failed.new.self) attempt (g.S.Site.seen c.args.site.now) (g.S.Site.seen c.start.new.self) (g.S.Site.given c.args.site.now) (g.S.Site.given c.start.new.self) one d e c.requires.may (g.met.A.Attempting.rule.next (g.A.Attempting.board c.args.attempts.now) c.args.attempt.now.task.task c.args.attempt.now.number c.requires.may) c.requires.fits c.requires.job c.requires.phase (c.start_failed.ensures a c.requires.may) seen.0 seen.1 seen.2 (λ tells. record { is = (c.start.ensures.given tells).failed refused; words = c.words.ensures; input = text_is; moment = refl }) (λ tells. let starts = (c.start.ensures.directory tells).failed refused in (starts.0, touches_refused w t a c.args.output.now (files d) (files e) c.requires.output starts.1))

pub returns-in-Err-Failed-clause-stands : goal.returns-in-Err-Failed-clause-stands
returns-in-Err-Failed-clause-stands g c =
    λ tells.
    let w = c.args.tasks.now in
    let m : Board = g.A.Attempting.board c.args.attempts.now in
    let attempt = c.args.attempt.now in
    let t = attempt.task.task in
    let a = attempt.number in
    let d : Told = g.S.Dir.told c.args.site.now in
    let e : Told = g.S.Dir.told c.start.new.self in
    let old : Seen = g.S.Site.seen c.args.site.now in
    let new : Seen = g.S.Site.seen c.start.new.self in
    let refused = c.in-Err-Failed.is ∙ ap Err c.in-Err-Failed.field-0-is in
    let starts = (c.start.ensures.directory tells).failed refused in
    let touches = touches_refused w t a c.args.output.now (files d) (files e) c.requires.output starts.1 in
    let next = g.met.A.Attempting.rule.next (g.A.Attempting.board c.args.attempts.now) c.args.attempt.now.task.task c.args.attempt.now.number c.requires.may in
    let now_is = stands_refused w g.S.Site.gives m t a old.running (files d) (files e) next c.requires.fits touches (c.requires.stands tells) in
    let now_is : HasWork w g.S.Site.gives (files e) (after m (Refuse t a)) old.running = subst (λ (k : Board). HasWork w g.S.Site.gives (files e) k old.running) (sym (after_refused m t a next)) now_is in
    stands_is w g.S.Site.gives (files e) (after m (Refuse t a)) (g.A.Attempting.board c.start_failed.new.self) old.running new.running (c.start_failed.ensures a c.requires.may) (c.start.ensures.seen.failed refused).0 now_is

pub returns-in-Err-Failed-clause-moves : goal.returns-in-Err-Failed-clause-moves
returns-in-Err-Failed-clause-moves g c =
    let m : Board = g.A.Attempting.board c.args.attempts.now in
    let attempt = c.args.attempt.now in
    let old : Seen = g.S.Site.seen c.args.site.now in
    let new : Seen = g.S.Site.seen c.start.new.self in
    let refused = c.in-Err-Failed.is ∙ ap Err c.in-Err-Failed.field-0-is in
    subst (λ (k : Board). Moves 1 m k old new) (sym (c.start_failed.ensures attempt.number c.requires.may)) (moves_refused m attempt.task.task attempt.number (Refused attempt) old new (g.met.A.Attempting.rule.next (g.A.Attempting.board c.args.attempts.now) c.args.attempt.now.task.task c.args.attempt.now.number c.requires.may) (c.start.ensures.seen.failed refused).1 refl)

pub returns-in-Err-NoMemory-clause-turn : goal.returns-in-Err-NoMemory-clause-turn
returns-in-Err-NoMemory-clause-turn g c =
    let refused = c.in-Err-NoMemory.is ∙ ap Err c.in-Err-NoMemory.field-0-is in
    turn_same g.A.Attempting.may _ _ g.S.Dir.tells c.args.tasks.now (g.A.Attempting.board c.args.attempts.now) (g.A.Attempting.board c.args.attempts.now) (g.S.Site.seen c.args.site.now) (g.S.Site.seen c.start.new.self) (g.S.Site.given c.args.site.now) (g.S.Site.given c.start.new.self) (g.S.Dir.told c.args.site.now) (g.S.Dir.told c.start.new.self) c.requires.fits refl (c.start.ensures.seen.no_memory refused) (λ tells. ((c.start.ensures.given tells).no_memory refused, (c.start.ensures.directory tells).no_memory refused))
