use Rattle.std.proofs.Common.{rules, Err, refl, ap, ◌∙◌, subst, arith}
use Rattle.std.proofs.lemmas.Result.{err_from_is_err_and}
use Rattle.job.specs.declared.turns.Turned.{Turned}
use Rattle.job.specs.Going.{Working, IsExact}
use Rattle.job.specs.Turned.{TurnedSo}
use Rattle.job.proofs.Goings.{exact_passes, exact_ok}
use Rattle.job.proofs.TurnLemmas.{turn_none, turn_then}
use Rattle.job.proofs.PhaseLemmas.{left_few, over_after}
use Rattle.job.proofs.turns.run_tasks.Goals as goal

pub loop-made-init : goal.loop-made-init
loop-made-init g c =
    let first = left_few (g.A.Attempting.board c.args.attempts.now).tasks c.requires.fits.numbered in
    record {
      turn = turn_none g.A.Attempting.may Working (Unit {0}) g.S.Dir.tells c.args.tasks.now (g.A.Attempting.board c.args.attempts.now) (g.S.Site.seen c.args.site.now) (g.S.Site.given c.args.site.now) (g.S.Dir.told c.args.site.now) c.requires.fits;
      stands = c.requires.stands;
      left = omega (arith, first, c.requires.fits.size);
      log = omega arith;
      later = omega arith;
      said = refl;
      says = refl;
      say_faults = refl;
    }

pub returns-in_err-take_turn-clause-turn : goal.returns-in_err-take_turn-clause-turn
returns-in_err-take_turn-clause-turn g c =
    let p = err_from_is_err_and c.from_residual.result c.from_residual.ensures.1 in
    turn_then g.A.Attempting.may Working (IsExact c.args.tasks.now.home c.take_turn.result) (IsExact c.args.tasks.now.home c.from_residual.result) g.S.Dir.tells c.args.tasks.now (g.A.Attempting.board c.args.attempts.now) (g.A.Attempting.board c.loop-made.attempts) (g.A.Attempting.board c.take_turn.new.attempts) (g.S.Site.seen c.args.site.now) (g.S.Site.seen c.loop-made.site) (g.S.Site.seen c.take_turn.new.site) (g.S.Site.given c.args.site.now) (g.S.Site.given c.loop-made.site) (g.S.Site.given c.take_turn.new.site) (g.S.Dir.told c.args.site.now) (g.S.Dir.told c.loop-made.site) (g.S.Dir.told c.take_turn.new.site) (exact_passes c.args.tasks.now.home c.take_turn.result c.from_residual.result c.in_err-take_turn.field-0.0 c.in_err-take_turn.was (p.1 ∙ ap Err p.2)) c.loop-made.invariant.turn c.take_turn.ensures.turn

pub overflow_add-made : goal.overflow_add-made
overflow_add-made g c =
    let moves = subst (λ (turned : Turned). TurnedSo g.A.Attempting.may turned (g.A.Attempting.board c.loop-made.attempts) (g.A.Attempting.board c.take_turn.new.attempts) (g.S.Site.seen c.loop-made.site) (g.S.Site.seen c.take_turn.new.site)) c.in-Started.is c.in_ok-take_turn.ensures.turned in
    omega (arith, moves.left, c.loop-made.invariant.left, c.requires.fits.small.few)

pub loop-made-smaller-in-Started : goal.loop-made-smaller-in-Started
loop-made-smaller-in-Started g c =
    (subst (λ (turned : Turned). TurnedSo g.A.Attempting.may turned (g.A.Attempting.board c.loop-made.attempts) (g.A.Attempting.board c.take_turn.new.attempts) (g.S.Site.seen c.loop-made.site) (g.S.Site.seen c.take_turn.new.site)) c.in-Started.is c.in_ok-take_turn.ensures.turned).fuel

pub loop-made-preserved-in-Started : goal.loop-made-preserved-in-Started
loop-made-preserved-in-Started g c =
    let so_far = c.loop-made.invariant in
    let moves = subst (λ (turned : Turned). TurnedSo g.A.Attempting.may turned (g.A.Attempting.board c.loop-made.attempts) (g.A.Attempting.board c.take_turn.new.attempts) (g.S.Site.seen c.loop-made.site) (g.S.Site.seen c.take_turn.new.site)) c.in-Started.is c.in_ok-take_turn.ensures.turned in
    record {
      turn = turn_then g.A.Attempting.may Working (IsExact c.args.tasks.now.home c.take_turn.result) (Unit {0}) g.S.Dir.tells c.args.tasks.now (g.A.Attempting.board c.args.attempts.now) (g.A.Attempting.board c.loop-made.attempts) (g.A.Attempting.board c.take_turn.new.attempts) (g.S.Site.seen c.args.site.now) (g.S.Site.seen c.loop-made.site) (g.S.Site.seen c.take_turn.new.site) (g.S.Site.given c.args.site.now) (g.S.Site.given c.loop-made.site) (g.S.Site.given c.take_turn.new.site) (g.S.Dir.told c.args.site.now) (g.S.Dir.told c.loop-made.site) (g.S.Dir.told c.take_turn.new.site) (λ _. exact_ok c.args.tasks.now.home c.take_turn.result c.in_ok-take_turn.field-0 c.in_ok-take_turn.was) so_far.turn c.take_turn.ensures.turn;
      stands = c.in_ok-take_turn.ensures.stands;
      left = omega (arith, moves.left, so_far.left);
      log = omega (arith, moves.log, so_far.log);
      later = search rules;
      said = c.take_turn.ensures.said ∙ so_far.said;
      says = c.take_turn.ensures.says ∙ so_far.says;
      say_faults = c.take_turn.ensures.say_faults ∙ so_far.say_faults;
    }

pub loop-made-smaller : goal.loop-made-smaller
loop-made-smaller g c =
    (subst (λ (turned : Turned). TurnedSo g.A.Attempting.may turned (g.A.Attempting.board c.loop-made.attempts) (g.A.Attempting.board c.take_turn.new.attempts) (g.S.Site.seen c.loop-made.site) (g.S.Site.seen c.take_turn.new.site)) c.in-Ended.is c.in_ok-take_turn.ensures.turned).fuel

pub loop-made-preserved : goal.loop-made-preserved
loop-made-preserved g c =
    let so_far = c.loop-made.invariant in
    let moves = subst (λ (turned : Turned). TurnedSo g.A.Attempting.may turned (g.A.Attempting.board c.loop-made.attempts) (g.A.Attempting.board c.take_turn.new.attempts) (g.S.Site.seen c.loop-made.site) (g.S.Site.seen c.take_turn.new.site)) c.in-Ended.is c.in_ok-take_turn.ensures.turned in
    record {
      turn = turn_then g.A.Attempting.may Working (IsExact c.args.tasks.now.home c.take_turn.result) (Unit {0}) g.S.Dir.tells c.args.tasks.now (g.A.Attempting.board c.args.attempts.now) (g.A.Attempting.board c.loop-made.attempts) (g.A.Attempting.board c.take_turn.new.attempts) (g.S.Site.seen c.args.site.now) (g.S.Site.seen c.loop-made.site) (g.S.Site.seen c.take_turn.new.site) (g.S.Site.given c.args.site.now) (g.S.Site.given c.loop-made.site) (g.S.Site.given c.take_turn.new.site) (g.S.Dir.told c.args.site.now) (g.S.Dir.told c.loop-made.site) (g.S.Dir.told c.take_turn.new.site) (λ _. exact_ok c.args.tasks.now.home c.take_turn.result c.in_ok-take_turn.field-0 c.in_ok-take_turn.was) so_far.turn c.take_turn.ensures.turn;
      stands = c.in_ok-take_turn.ensures.stands;
      left = omega (arith, moves.left, so_far.left);
      log = omega (arith, moves.log, so_far.log);
      later = search rules;
      said = c.take_turn.ensures.said ∙ so_far.said;
      says = c.take_turn.ensures.says ∙ so_far.says;
      say_faults = c.take_turn.ensures.say_faults ∙ so_far.say_faults;
    }

pub returns-in-Rests-clause-turn : goal.returns-in-Rests-clause-turn
returns-in-Rests-clause-turn g c =
    turn_then g.A.Attempting.may Working (IsExact c.args.tasks.now.home c.take_turn.result) _ g.S.Dir.tells c.args.tasks.now (g.A.Attempting.board c.args.attempts.now) (g.A.Attempting.board c.loop-made.attempts) (g.A.Attempting.board c.take_turn.new.attempts) (g.S.Site.seen c.args.site.now) (g.S.Site.seen c.loop-made.site) (g.S.Site.seen c.take_turn.new.site) (g.S.Site.given c.args.site.now) (g.S.Site.given c.loop-made.site) (g.S.Site.given c.take_turn.new.site) (g.S.Dir.told c.args.site.now) (g.S.Dir.told c.loop-made.site) (g.S.Dir.told c.take_turn.new.site) (λ _. exact_ok c.args.tasks.now.home c.take_turn.result c.in_ok-take_turn.field-0 c.in_ok-take_turn.was) c.loop-made.invariant.turn c.take_turn.ensures.turn

pub returns-in-Rests-clause-over : goal.returns-in-Rests-clause-over
returns-in-Rests-clause-over g c =
    let rests = subst (λ (turned : Turned). TurnedSo g.A.Attempting.may turned (g.A.Attempting.board c.loop-made.attempts) (g.A.Attempting.board c.take_turn.new.attempts) (g.S.Site.seen c.loop-made.site) (g.S.Site.seen c.take_turn.new.site)) c.in-Rests.is c.in_ok-take_turn.ensures.turned in
    over_after g.A.Attempting.may c.loop-made.made (g.A.Attempting.board c.take_turn.new.attempts) (g.S.Site.seen c.args.site.now) (g.S.Site.seen c.loop-made.site) (g.S.Site.seen c.take_turn.new.site) rests.0 rests.1 rests.3 c.loop-made.invariant.log
