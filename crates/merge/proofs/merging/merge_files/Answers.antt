use Rattle.std.proofs.Common.{◌≡◌, ◌∙◌, List, length, ap, sym, subst}
use Rattle.std.specs.List.{All}
use Rattle.std.specs.Prelude.{IfOk, OnOk}
use Rattle.std.proofs.lemmas.List.Elements.{All-weaker}
use Rattle.dir_disk.specs.State.{State}
use Rattle.dir_disk.specs.Calls.{HasFile}
use Rattle.dir_disk.specs.Keeping.{HasWritten}
use Rattle.dir_disk.specs.Lent.{Loan, IsNoOutput}
use Rattle.dir_disk.specs.Moments.{Told, files}
use Rattle.dir_disk.proofs.Keeping.{stands_then}
use Rattle.pairs.specs.Pairs.{Pair, pairs_text, sorted_pairs}
use Rattle.merge.specs.declared.source.Source.{Source}
use Rattle.merge.specs.Runs.{IsRun, lists_at}
use Rattle.merge.specs.Sources.{IsSource, all_of, lefts}
use Rattle.merge.proofs.OpenLemmas.{sources_lent, sources_ready}
use Rattle.merge.proofs.SourceLemmas.{same_state}
use Rattle.merge.proofs.WriteLemmas.{same_stands}
use Rattle.merge.proofs.merging.merge_files.Goals as goal

pub open_all-requires-clause-there : goal.open_all-requires-clause-there
open_all-requires-clause-there g c =
    λ tells.
    let entry = files (g.D.Dir.told c.args.dir.now) in
    All-weaker (IsRun entry) (HasFile entry) (λ path run. run.there) c.args.runs.now (c.requires.runs tells)

pub give_all-requires-clause-lent_sources : goal.give_all-requires-clause-lent_sources
give_all-requires-clause-lent_sources g c =
    subst (λ (l : List Source). All (λ source. IsNoOutput (g.D.Dir.lent c.open_all.new.dir) source.path) l) (sym c.deref_mut.ensures.value) (subst (λ (lent : List Loan). All (λ source. IsNoOutput lent source.path) c.in_ok-sources.sources.items) (sym c.open_all.ensures.lent) (sources_lent (g.D.Dir.lent c.args.dir.now) c.args.runs.now c.in_ok-sources.sources.items c.in_ok-sources.ensures.paths c.requires.lent_runs))

pub give_all-requires-clause-sources : goal.give_all-requires-clause-sources
give_all-requires-clause-sources g c =
    λ tells.
    let out = c.args.out.now in
    let a : Told = g.D.Dir.told c.args.dir.now in
    let b : Told = g.D.Dir.told c.open_all.new.dir in
    let same = same_state a b (c.open_all.ensures.stands tells) in
    subst (λ (l : List Source). All (IsSource out (files b)) l) (sym c.deref_mut.ensures.value) (subst (λ (s : State). All (IsSource out s) c.in_ok-sources.sources.items) (sym same) (sources_ready out (files a) c.args.runs.now c.in_ok-sources.sources.items c.in_ok-sources.ensures.paths (c.in_ok-sources.ensures.lefts tells) (c.requires.runs tells) (c.requires.vacant tells)))

pub returns-clause-count : goal.returns-clause-count
returns-clause-count g c =
    λ tells.
    let a : Told = g.D.Dir.told c.args.dir.now in
    let b : Told = g.D.Dir.told c.open_all.new.dir in
    let same = same_state a b (c.open_all.ensures.stands tells) in
    let lists : lefts (files b) c.deref_mut.result.now ≡ lists_at (files a) c.args.runs.now = ap (λ (s : State). lefts s c.deref_mut.result.now) same ∙ ap (lefts (files a)) c.deref_mut.ensures.value ∙ c.in_ok-sources.ensures.lefts tells in
    subst (λ (ls : List (List Pair)). IfOk c.give_all.result (λ count. count ≡ length (all_of ls))) lists (c.give_all.ensures.count tells)

pub returns-clause-written : goal.returns-clause-written
returns-clause-written g c =
    λ tells.
    let out = c.args.out.now in
    let a : Told = g.D.Dir.told c.args.dir.now in
    let b : Told = g.D.Dir.told c.open_all.new.dir in
    let d : Told = g.D.Dir.told c.give_all.new.dir in
    let same = same_state a b (c.open_all.ensures.stands tells) in
    let lists : lefts (files b) c.deref_mut.result.now ≡ lists_at (files a) c.args.runs.now = ap (λ (s : State). lefts s c.deref_mut.result.now) same ∙ ap (lefts (files a)) c.deref_mut.ensures.value ∙ c.in_ok-sources.ensures.lefts tells in
    subst (λ (s : State). OnOk c.give_all.result (HasWritten out (pairs_text (sorted_pairs (all_of (lists_at (files a) c.args.runs.now)))) s (files d))) same (subst (λ (ls : List (List Pair)). OnOk c.give_all.result (HasWritten out (pairs_text (sorted_pairs (all_of ls))) (files b) (files d))) lists (c.give_all.ensures.written tells))

pub returns-clause-stands : goal.returns-clause-stands
returns-clause-stands g c =
    λ tells.
    let out = c.args.out.now in
    let a : Told = g.D.Dir.told c.args.dir.now in
    let b : Told = g.D.Dir.told c.open_all.new.dir in
    stands_then out a b (g.D.Dir.told c.give_all.new.dir) (same_stands out a b (c.open_all.ensures.stands tells)) (c.give_all.ensures.stands tells)
