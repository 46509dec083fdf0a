use Rattle.std.proofs.Common.{◌≡◌, ◌∙◌, ◌+◌, ℕ, List, [], length, ap, sym, arith, rules, Vec, Global}
use Rattle.std.proofs.lemmas.List.{length-map, get_or-map}
use Rattle.dir_disk.specs.Moments.{files}
use Rattle.pairs.specs.Pairs.{Pair}
use Rattle.spill.specs.declared.entry.Entry.{Entry}
use Rattle.spill.specs.Chunks.{list_at}
use Rattle.spill.specs.Lines.{entry_pairs, lists_of}
use Rattle.spill.proofs.WritingLemmas.{others_more, run_more, written_more}
use Rattle.spill.proofs.writing.write_runs.Goals as goal

-- the pairs of a vector of entries
abbrev pairs_of : List ℕ → Vec Entry Global → List Pair
pairs_of text entries = entry_pairs text entries.items

pub returns-in_err-write_run-clause-steps : goal.returns-in_err-write_run-clause-steps
returns-in_err-write_run-clause-steps g c =
    λ tells.
    let of : Vec Entry Global → List Pair = pairs_of c.args.text.now in
    let lists : List (List Pair) = lists_of c.args.text.now c.args.parts.now in
    let i = c.loop-entries.entries-index in
    let pairs : entry_pairs c.args.text.now c.deref.result.now ≡ list_at lists i = ap (entry_pairs c.args.text.now) c.deref.ensures.value ∙ ap of c.entries-item.is ∙ sym (get_or-map of c.args.parts.now i c.entries-item.result [] c.loop-entries-test.true) in
    run_more c.args.folder.now c.args.flush c.loop-entries.part i lists (entry_pairs c.args.text.now c.deref.result.now) (g.D.Dir.told c.args.dir.now) (g.D.Dir.told c.loop-entries.dir) (g.D.Dir.told c.write_run.new.dir) c.loop-entries.invariant.part pairs (c.loop-entries.invariant.steps tells) (c.write_run.ensures.steps tells)

pub loop-entries-preserved : goal.loop-entries-preserved
loop-entries-preserved g c =
    let of : Vec Entry Global → List Pair = pairs_of c.args.text.now in
    let lists : List (List Pair) = lists_of c.args.text.now c.args.parts.now in
    let i = c.loop-entries.entries-index in
    let pairs : entry_pairs c.args.text.now c.deref.result.now ≡ list_at lists i = ap (entry_pairs c.args.text.now) c.deref.ensures.value ∙ ap of c.entries-item.is ∙ sym (get_or-map of c.args.parts.now i c.entries-item.result [] c.loop-entries-test.true) in
    let long : length lists ≡ length c.args.parts.now = length-map c.args.parts.now of in
    record {
      part = ap (λ (n : ℕ). n + 1) c.loop-entries.invariant.part;
      steps = λ tells. run_more c.args.folder.now c.args.flush c.loop-entries.part i lists (entry_pairs c.args.text.now c.deref.result.now) (g.D.Dir.told c.args.dir.now) (g.D.Dir.told c.loop-entries.dir) (g.D.Dir.told c.write_run.new.dir) c.loop-entries.invariant.part pairs (c.loop-entries.invariant.steps tells) (c.write_run.ensures.steps tells);
      others = λ tells. others_more c.args.folder.now c.args.flush c.loop-entries.part i lists (entry_pairs c.args.text.now c.deref.result.now) (files (g.D.Dir.told c.args.dir.now)) (files (g.D.Dir.told c.loop-entries.dir)) (files (g.D.Dir.told c.write_run.new.dir)) c.loop-entries.invariant.part pairs (c.loop-entries.invariant.others tells) (c.in_ok-write_run.ensures.others tells);
      written = λ tells. written_more c.args.folder.now c.args.flush c.loop-entries.part i lists (entry_pairs c.args.text.now c.deref.result.now) (g.D.Dir.told c.loop-entries.dir) (g.D.Dir.told c.write_run.new.dir) (omega (arith, long, c.requires.few)) (omega (arith, long, c.loop-entries-test.true)) c.loop-entries.invariant.part pairs (c.loop-entries.invariant.written tells) (c.write_run.ensures.steps tells) (c.in_ok-write_run.ensures.written tells);
      lent = search rules;
      beside = search rules;
      later = search rules;
    }
