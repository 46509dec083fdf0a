use Rattle.std.proofs.Common.{ℕ, List, [], subst}
use Rattle.std.proofs.lemmas.List.{take_rest}
use Rattle.peg_text.specs.Records.{cut_of}
use Rattle.child.specs.Shown.{IsFrontOf}
use Rattle.child.proofs.FrontLemmas.{where_done, ends_at, no_last_lf, AreFronts-ended, AreFronts-begun}
use Rattle.child.proofs.fronts.Fronts.take.Goals as goal

pub returns-in_ok-end_last-in-Some : goal.returns-in_ok-end_last-in-Some
returns-in_ok-end_last-in-Some c = λ bytes are.
    let ends = ends_at c.args.piece.now c.in-Some.end c.in-Some.ensures in
    let last = c.in_ok-end_last-in-Some.ensures bytes are in
    where_done c.add.result
    (λ is. AreFronts-ended bytes c.args.piece.now c.in-Some.end _ _ ends last (subst (λ (text : List ℕ). IsFrontOf text c.add.new.self) (take_rest c.args.piece.now _) is))
    (c.add.ensures [] c.clear.ensures)

pub returns-in-None : goal.returns-in-None
returns-in-None c = λ bytes are.
    where_done c.add-in-None.result (λ is. AreFronts-begun bytes c.args.piece.now c.args.self.now _ (no_last_lf c.args.piece.now c.in-None.ensures) are is) (c.add-in-None.ensures (cut_of bytes).rest are.begun)
