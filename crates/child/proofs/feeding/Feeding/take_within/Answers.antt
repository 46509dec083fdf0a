use Rattle.std.proofs.Common.{arith}
use Rattle.std.proofs.lemmas.List.{take_rest}
use Rattle.child.proofs.CutLemmas.{no_lf, found_at}
use Rattle.child.proofs.FeedingLemmas.{feeds_found, refuses_found, feeds_rest, refuses_rest}
use Rattle.child.proofs.feeding.Feeding.take_within.Goals as goal

pub returns-in-Err-clause-err : goal.returns-in-Err-clause-err
returns-in-Err-clause-err g c =
    let l = c.loop-length in
    let found = found_at c.args.piece.now _ l.start c.in-Some.length l.invariant.inside (take_rest c.args.piece.now l.start) c.in-Some.ensures in
    refuses_found _ _ c.args.piece.now l.start c.in-Some.length _ _ _ c.in-Err.status found l.invariant.fed c.in-Err.ensures.err

pub loop-length-preserved : goal.loop-length-preserved
loop-length-preserved g c =
    let l = c.loop-length in
    let found = found_at c.args.piece.now _ l.start c.in-Some.length l.invariant.inside (take_rest c.args.piece.now l.start) c.in-Some.ensures in
    record {
      inside = omega (arith, found.inside);
      fed = feeds_found _ _ _ c.args.piece.now l.start c.in-Some.length _ _ _ _ found l.invariant.fed c.in-Ok.ensures.ok;
      counted = c.in-Ok.ensures.counted;
      taken = omega (arith, c.in-Ok.ensures.more, l.invariant.taken, found.len_is);
    }

pub hold-requires-clause-unbroken : goal.hold-requires-clause-unbroken
hold-requires-clause-unbroken g c = no_lf _ c.in_default.ensures

pub returns-clause-ok : goal.returns-clause-ok
returns-clause-ok g c =
    let l = c.loop-length in
    feeds_rest _ _ _ c.args.piece.now l.start _ _ c.hold.result l.invariant.fed c.hold.ensures.ok

pub returns-clause-err : goal.returns-clause-err
returns-clause-err g c =
    let l = c.loop-length in
    refuses_rest _ _ c.args.piece.now l.start _ _ c.hold.result l.invariant.fed c.hold.ensures.err
