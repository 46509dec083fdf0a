use Rattle.std.proofs.Common.{ℕ, List, sym, subst, arith}
use Rattle.child.specs.Shown.{IsFrontOf}
use Rattle.child.proofs.FrontLemmas.{where_done, last_is, numbered_is}
use Rattle.child.proofs.fronts.Fronts.show.Goals as goal

pub returns-then-line-ended : goal.returns-then-line-ended
returns-then-line-ended c = λ bytes are count low.
    where_done c.copy.result (subst (λ (text : List ℕ). IsFrontOf text c.copy.new.self) (sym (last_is bytes c.args.piece.now c.args.line (omega (arith, count, low, c.if-line-ended.true))))) (c.copy.ensures _ are.last)

pub returns : goal.returns
returns c = λ bytes are count low.
    let begun = c.in_ok-copy.ensures _ are.begun in
    where_done c.seek.result (subst (λ (text : List ℕ). IsFrontOf text c.seek.new.shown) (sym (numbered_is bytes c.args.piece.now c.args.line _ (omega (arith, count, c.if-line-ended.false))))) (c.seek.ensures bytes begun)
