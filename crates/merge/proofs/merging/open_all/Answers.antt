use Rattle.std.proofs.Common.{◌≡◌, ◌∙◌, List, map, ap, sym, subst, rules}
use Rattle.std.proofs.lemmas.List.Elements.{All-get_or}
use Rattle.peg_base.specs.Names.{Names}
use Rattle.dir_disk.specs.State.{State}
use Rattle.dir_disk.specs.Calls.{HasFile}
use Rattle.dir_disk.specs.Moments.{Told, files}
use Rattle.merge.specs.declared.source.Source.{Source}
use Rattle.merge.specs.Sources.{left_of, lefts}
use Rattle.merge.proofs.OpenLemmas.{pairs_at, path_of, paths_more, lefts_more}
use Rattle.merge.proofs.SourceLemmas.{same_state, same_then}
use Rattle.merge.proofs.merging.open_all.Goals as goal

pub open-requires-clause-there : goal.open-requires-clause-there
open-requires-clause-there g c =
    λ tells.
    let a : Told = g.D.Dir.told c.args.dir.now in
    let b : Told = g.D.Dir.told c.loop-run.dir in
    let same = same_state a b (c.loop-run.invariant.stands tells) in
    subst (λ (s : State). HasFile s c.run-item.result) (sym same) (subst (λ (q : Names). HasFile (files a) q) (sym c.run-item.is) (All-get_or (HasFile (files a)) c.args.runs.now c.loop-run.run-index c.run-item.result c.loop-run-test.true (c.requires.there tells)))

pub returns-in_err-source-clause-stands : goal.returns-in_err-source-clause-stands
returns-in_err-source-clause-stands g c =
    λ tells.
    same_then (g.D.Dir.told c.args.dir.now) (g.D.Dir.told c.loop-run.dir) (g.D.Dir.told c.open.new.dir) (c.loop-run.invariant.stands tells) (c.open.ensures.stands tells)

pub returns-in_err-keep-clause-stands : goal.returns-in_err-keep-clause-stands
returns-in_err-keep-clause-stands g c =
    λ tells.
    same_then (g.D.Dir.told c.args.dir.now) (g.D.Dir.told c.loop-run.dir) (g.D.Dir.told c.open.new.dir) (c.loop-run.invariant.stands tells) (c.open.ensures.stands tells)

pub loop-run-preserved : goal.loop-run-preserved
loop-run-preserved g c =
    let a : Told = g.D.Dir.told c.args.dir.now in
    let b : Told = g.D.Dir.told c.loop-run.dir in
    let source = c.in_ok-source.source in
    let runs = c.args.runs.now in
    let i = c.loop-run.run-index in
    let d = c.run-item.result in
    let items = c.loop-run.sources.items in
    record {
      paths = ap (λ (l : List Source). map path_of l) c.in_ok-keep.ensures ∙ paths_more items source runs i d c.loop-run.invariant.paths c.loop-run-test.true (c.in_ok-source.ensures.path ∙ c.run-item.is);
      lefts =
          λ tells.
          let same = same_state a b (c.loop-run.invariant.stands tells) in
          let left : left_of (files a) source ≡ pairs_at (files a) d = subst (λ (s : State). left_of s source ≡ pairs_at s d) same (c.in_ok-source.ensures.left tells) in
          ap (λ (l : List Source). lefts (files a) l) c.in_ok-keep.ensures ∙ lefts_more (files a) items source runs i d (c.loop-run.invariant.lefts tells) c.loop-run-test.true (left ∙ ap (pairs_at (files a)) c.run-item.is);
      stands = λ tells. same_then a b (g.D.Dir.told c.open.new.dir) (c.loop-run.invariant.stands tells) (c.open.ensures.stands tells);
      lent = search rules;
      beside = search rules;
      later = search rules;
    }
