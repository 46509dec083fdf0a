use Rattle.std.proofs.Common.{◌∙◌, sym}
use Rattle.dir_mem.specs.Log.{state_of}
use Rattle.dir_mem.proofs.LookLemmas.{move_clear, not_true}
use Rattle.dir_mem.proofs.LookBackLemmas.{move_empty, move_holds, move_open, move_short, not_false}
use Rattle.dir_mem.proofs.looking.can_move.Goals as goal

pub returns-clause-can : goal.returns-clause-can
returns-clause-can c = λ is.
    let vacant = c.is_vacant.ensures.vacant c.if-not-is_vacant.false in
    let apart = c.are_apart.ensures.apart c.if-not-are_apart.false in
    move_clear c.args.paths.now (state_of c.args.steps.now) c.args.from.now c.args.to.now c.requires (sym c.holds_any.ensures ∙ c.if-not-holds_any.false) vacant.0 vacant.1 apart.0 apart.1 (sym c.gets_too_deep.ensures ∙ not_true c.gets_too_deep.result is)

pub returns-clause-cannot : goal.returns-clause-cannot
returns-clause-cannot c = λ can.
    not_false c.gets_too_deep.result (c.gets_too_deep.ensures ∙ move_short c.args.paths.now (state_of c.args.steps.now) c.args.from.now c.args.to.now can)

pub returns-then-not-holds_any-clause-cannot : goal.returns-then-not-holds_any-clause-cannot
returns-then-not-holds_any-clause-cannot c = λ can.
    sym c.if-not-holds_any.true ∙ c.holds_any.ensures ∙ move_holds c.args.paths.now (state_of c.args.steps.now) c.args.from.now c.args.to.now c.requires can

pub returns-then-not-is_vacant-clause-cannot : goal.returns-then-not-is_vacant-clause-cannot
returns-then-not-is_vacant-clause-cannot c = λ can.
    sym c.if-not-is_vacant.true ∙ c.is_vacant.ensures.taken (move_empty (state_of c.args.steps.now) c.args.from.now c.args.to.now can) (move_open c.args.paths.now (state_of c.args.steps.now) c.args.from.now c.args.to.now can)
