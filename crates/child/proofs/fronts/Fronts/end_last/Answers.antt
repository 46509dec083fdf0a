use Rattle.std.proofs.Common.{ℕ, List, [], ◌++◌, sym, subst}
use Rattle.std.proofs.lemmas.List.{take_rest}
use Rattle.peg_text.specs.Records.{Cut, cut_of}
use Rattle.child.specs.declared.front.Front.{Front}
use Rattle.child.specs.Shown.{IsFrontOf}
use Rattle.child.proofs.CutLemmas.{cut_of-held}
use Rattle.child.proofs.FrontLemmas.{where_done, ends_at, cut_at, no_last_lf}
use Rattle.child.proofs.fronts.Fronts.end_last.Goals as goal

pub returns-in-Some : goal.returns-in-Some
returns-in-Some c = λ bytes are.
    let cut = cut_at bytes c.args.piece.now c.in-Some.end (ends_at c.args.piece.now c.in-Some.end c.in-Some.ensures) in
    where_done c.add.result (λ is. subst (λ (t : Cut). IsFrontOf t.rest c.add.new.self) (sym cut) (subst (λ (text : List ℕ). IsFrontOf text c.add.new.self) (take_rest c.args.piece.now _) is)) (c.add.ensures [] c.clear.ensures)

pub returns-in_ok-add-in-None : goal.returns-in_ok-add-in-None
returns-in_ok-add-in-None c = λ bytes are.
    let cut = cut_of-held bytes c.args.piece.now (no_last_lf c.args.piece.now c.in-None.ensures) in
    let begun = c.in_ok-add-in-None.ensures (cut_of bytes).rest are.begun in
    subst (λ (t : Cut). IsFrontOf t.rest c.swap.new.x) (sym cut) (subst (λ (front : Front). IsFrontOf ((cut_of bytes).rest ++ c.args.piece.now) front) (sym c.swap.ensures.x_after) begun)
