use Rattle.std.proofs.Common.{◌≡◌, ◌∙◌, ◌++◌, List, [], Some, length, get_or, ap, sym, refl, arith, rules}
use Rattle.std.proofs.lemmas.List.{append-nil}
use Rattle.peg_base.proofs.Under.{under-refl}
use Rattle.dir_disk.specs.Moments.{Told, files}
use Rattle.dir_disk.proofs.Keeping.{append_stands, stands_then}
use Rattle.pairs.specs.Pairs.{Pair, pairs_text, sorted_pairs}
use Rattle.merge.specs.Sources.{all_of, lefts}
use Rattle.pieces.specs.Pieces.{gathered}
use Rattle.merge.proofs.StepLemmas.{same_at, all_ended, lent_more, sources_more, counted_more, sent_more}
use Rattle.pieces.proofs.PieceLemmas.{appended_others, gathered_after}
use Rattle.merge.proofs.merging.give_all.Goals as goal

pub returns-in_err-append-clause-stands : goal.returns-in_err-append-clause-stands
returns-in_err-append-clause-stands g c =
    λ tells.
    let out = c.args.out.now in
    let a : Told = g.D.Dir.told c.args.dir.now in
    let b : Told = g.D.Dir.told c.loop-count.dir in
    let d : Told = g.D.Dir.told c.append.new.self in
    stands_then out a b d (c.loop-count.invariant.stands tells) (append_stands out out c.deref-in_default.result.now b d c.append.result (under-refl out) (c.append.ensures.call tells) (λ q. g.met.D.Dir.now_allowed c.loop-count.dir q tells))

pub returns-in_default-clause-count : goal.returns-in_default-clause-count
returns-in_default-clause-count g c =
    λ tells.
    let entry = files (g.D.Dir.told c.args.dir.now) in
    let none : length (all_of (lefts entry c.loop-count.sources)) ≡ 0 = ap length (all_ended entry c.loop-count.sources c.in_default.ensures) in
    omega (arith, none, c.loop-count.invariant.counted tells)

pub returns-in_default-clause-written : goal.returns-in_default-clause-written
returns-in_default-clause-written g c =
    λ tells.
    let out = c.args.out.now in
    let entry = files (g.D.Dir.told c.args.dir.now) in
    let s = files (g.D.Dir.told c.loop-count.dir) in
    let t = files (g.D.Dir.told c.append.new.self) in
    let is = (c.in_ok-append.ensures.call tells).ok.1 in
    let piece = c.loop-count.piece.items in
    let none : all_of (lefts entry c.loop-count.sources) ≡ [] = all_ended entry c.loop-count.sources c.in_default.ensures in
    let whole = sym (append-nil (gathered out s piece)) ∙ ap (λ (ps : List Pair). gathered out s piece ++ pairs_text (sorted_pairs ps)) (sym none) ∙ c.loop-count.invariant.sent tells in
    record {
      now = gathered_after out c.deref-in_default.result.now s t is ∙ ap (λ l. Some (gathered out s l)) c.deref-in_default.ensures.value ∙ ap Some whole;
      others = λ q other. appended_others out c.deref-in_default.result.now s t is q other ∙ c.loop-count.invariant.others tells q other;
    }

pub returns-in_default-clause-stands : goal.returns-in_default-clause-stands
returns-in_default-clause-stands g c =
    λ tells.
    let out = c.args.out.now in
    let a : Told = g.D.Dir.told c.args.dir.now in
    let b : Told = g.D.Dir.told c.loop-count.dir in
    let d : Told = g.D.Dir.told c.append.new.self in
    stands_then out a b d (c.loop-count.invariant.stands tells) (append_stands out out c.deref-in_default.result.now b d c.append.result (under-refl out) (c.append.ensures.call tells) (λ q. g.met.D.Dir.now_allowed c.loop-count.dir q tells))

pub returns-in_err-give-clause-stands : goal.returns-in_err-give-clause-stands
returns-in_err-give-clause-stands g c =
    λ tells.
    stands_then c.args.out.now (g.D.Dir.told c.args.dir.now) (g.D.Dir.told c.loop-count.dir) (g.D.Dir.told c.give.new.dir) (c.loop-count.invariant.stands tells) (c.give.ensures.stands tells)

pub loop-count-preserved : goal.loop-count-preserved
loop-count-preserved g c =
    let out = c.args.out.now in
    let entry = files (g.D.Dir.told c.args.dir.now) in
    let state = files (g.D.Dir.told c.loop-count.dir) in
    let sources = c.loop-count.sources in
    let at = c.in-Some.at in
    let source = get_or sources at c.index-sources-at.result in
    let is : source ≡ get_or sources at source = same_at sources at c.index-sources-at.result source c.in-Some.ensures.inside in
    let new = c.give.new.source in
    let inv = c.loop-count.invariant in
    record {
      lent_sources = lent_more sources at source new is c.in-Some.ensures c.give.ensures.path (g.D.Dir.lent c.args.dir.now) inv.lent_sources;
      leaders = c.renew.ensures sources new refl inv.leaders;
      sources = λ tells. sources_more out entry state sources at source new is c.in-Some.ensures c.give.ensures.path (inv.sources tells) (inv.others tells) (c.in_ok-give.ensures.left tells);
      counted = λ tells. counted_more out entry state sources at source new is c.in-Some.ensures c.give.ensures.path (inv.sources tells) (inv.others tells) (c.in_ok-give.ensures.left tells) c.loop-count.count _ (inv.counted tells);
      sent = λ tells. sent_more out entry state sources at source new is c.in-Some.ensures c.give.ensures.path (inv.sources tells) (inv.others tells) (c.in_ok-give.ensures.left tells) (gathered out state c.loop-count.piece.items) _ _ (inv.sent tells) (c.in_ok-give.ensures.sent tells);
      can = λ tells. c.in_ok-give.ensures.can tells;
      others = λ tells q other. c.in_ok-give.ensures.others tells q other ∙ inv.others tells q other;
      stands = λ tells. stands_then out (g.D.Dir.told c.args.dir.now) (g.D.Dir.told c.loop-count.dir) (g.D.Dir.told c.give.new.dir) (inv.stands tells) (c.give.ensures.stands tells);
      lent = search rules;
      beside = search rules;
      later = search rules;
    }
