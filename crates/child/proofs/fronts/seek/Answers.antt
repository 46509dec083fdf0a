use Rattle.std.proofs.Common.{ℕ, ◌+◌, List, length, sym, subst, arith}
use Rattle.std.proofs.lemmas.List.{take_rest}
use Rattle.peg_text.specs.Records.{Cut, cut_of}
use Rattle.child.specs.Shown.{IsFrontOf}
use Rattle.child.proofs.CutLemmas.{found_at, no_lf}
use Rattle.child.proofs.FrontLemmas.{where_done, found_is, next_count, next_cut, none_is}
use Rattle.child.proofs.fronts.seek.Goals as goal

pub returns-then-left-eq0 : goal.returns-then-left-eq0
returns-then-left-eq0 c = λ bytes is.
    let l = c.loop-length in
    let found = found_at c.args.piece.now _ l.start c.in-Some.length l.invariant.inside (take_rest c.args.piece.now l.start) c.in-Some.ensures in
    let record' = found_is bytes c.args.piece.now l.start c.in-Some.length _ found (length (cut_of bytes).whole + c.args.skip) (omega (arith, l.invariant.count bytes, c.if-left-eq0.true)) in
    where_done c.add.result (subst (λ (text : List ℕ). IsFrontOf text c.add.new.self) (sym record')) (c.add.ensures _ (l.invariant.shows bytes is))

pub loop-length-preserved : goal.loop-length-preserved
loop-length-preserved c =
    let l = c.loop-length in
    let found = found_at c.args.piece.now _ l.start c.in-Some.length l.invariant.inside (take_rest c.args.piece.now l.start) c.in-Some.ensures in
    record {
      inside = omega (arith, found.inside);
      count = λ bytes.
          omega (arith, l.invariant.count bytes, c.if-left-eq0.false, next_count bytes c.args.piece.now l.start c.in-Some.length _ found);
      shows = λ bytes is. subst (λ (t : Cut). IsFrontOf t.rest c.clear.new.self) (sym (next_cut bytes c.args.piece.now l.start c.in-Some.length _ found)) c.clear.ensures;
    }

pub returns : goal.returns
returns c = λ bytes is.
    let l = c.loop-length in
    let none = none_is bytes c.args.piece.now l.start (length (cut_of bytes).whole + c.args.skip) (no_lf _ c.in_default.ensures) (omega (arith, l.invariant.count bytes)) in
    subst (λ (text : List ℕ). IsFrontOf text c.clear-2.new.self) (sym none) c.clear-2.ensures
