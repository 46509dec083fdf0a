use Rattle.std.proofs.Common.{sym, arith}
use Rattle.edge_text.proofs.AnswerLemmas.{unless_both}
use Rattle.edge_text.proofs.RecordLoopLemmas.{OnTheWay-more, OnTheWay-refuses, OnTheWay-ends, next-later}
use Rattle.edge_text.proofs.records.read_records.Goals as goal

pub returns-in-Err-clause-err : goal.returns-in-Err-clause-err
returns-in-Err-clause-err c =
    let l = c.loop-judged in
    unless_both c.in-Err.fault (λ answer added. (OnTheWay-refuses c.args.nodes c.args.first c.args.bytes.now c.args.edges.now.items l.line l.start c.in-Some.judged.next l.edges.items c.accept.new.edges.items c.in-Some.judged.verdict c.in-Err.fault l.invariant c.in-Some.ensures (sym answer) added).0) c.in-Err.ensures.answer c.in-Err.ensures.added

pub returns-in-Err-clause-added : goal.returns-in-Err-clause-added
returns-in-Err-clause-added c =
    let l = c.loop-judged in
    unless_both c.in-Err.fault (λ answer added. (OnTheWay-refuses c.args.nodes c.args.first c.args.bytes.now c.args.edges.now.items l.line l.start c.in-Some.judged.next l.edges.items c.accept.new.edges.items c.in-Some.judged.verdict c.in-Err.fault l.invariant c.in-Some.ensures (sym answer) added).1) c.in-Err.ensures.answer c.in-Err.ensures.added

pub loop-judged-smaller : goal.loop-judged-smaller
loop-judged-smaller c =
    omega (arith, next-later c.args.nodes c.args.bytes.now c.loop-judged.start c.in-Some.judged.next c.in-Some.judged.verdict c.loop-judged.invariant.inside c.in-Some.ensures, c.in-Some.ensures.inside)

pub loop-judged-preserved : goal.loop-judged-preserved
loop-judged-preserved c =
    let l = c.loop-judged in
    OnTheWay-more c.args.nodes c.args.first c.args.bytes.now c.args.edges.now.items l.line l.start c.in-Some.judged.next l.edges.items c.accept.new.edges.items c.in-Some.judged.verdict l.invariant c.in-Some.ensures (sym c.in_default-accept.ensures.answer) c.in_default-accept.ensures.added

pub returns-clause-ok : goal.returns-clause-ok
returns-clause-ok c =
    let l = c.loop-judged in
    (OnTheWay-ends c.args.nodes c.args.first c.args.bytes.now c.args.edges.now.items l.line l.start l.edges.items l.invariant c.in_default.ensures).0

pub returns-clause-added : goal.returns-clause-added
returns-clause-added c =
    let l = c.loop-judged in
    (OnTheWay-ends c.args.nodes c.args.first c.args.bytes.now c.args.edges.now.items l.line l.start l.edges.items l.invariant c.in_default.ensures).1
