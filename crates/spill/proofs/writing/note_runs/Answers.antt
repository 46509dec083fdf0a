use Rattle.std.proofs.Common.{◌≡◌, ◌∙◌, ◌+◌, ◌<◌, ◌++◌, ℕ, List, [], map, length, get_or, set, ap, sym, subst, arith, Vec, Global}
use Rattle.std.proofs.lemmas.List.{length-map, length-set, map-set, get_or-map}
use Rattle.peg_base.specs.Names.{Names}
use Rattle.pairs.specs.Pairs.{Pair}
use Rattle.spill.specs.declared.entry.Entry.{Entry}
use Rattle.spill.specs.Lines.{entry_pairs, lists_of}
use Rattle.spill.specs.Runs.{run_of, new_runs}
use Rattle.spill.specs.Chunks.{list_at}
use Rattle.spill.proofs.WritingLemmas.{NotedBelow, noted_more, noted_all}
use Rattle.spill.proofs.writing.note_runs.Goals as goal

-- the pairs of a vector of entries, and what a vector of paths holds
abbrev pairs_of : List ℕ → Vec Entry Global → List Pair
pairs_of text entries = entry_pairs text entries.items

abbrev names_of : Vec Names Global → List Names
names_of paths = paths.items

pub loop-entries-preserved : goal.loop-entries-preserved
loop-entries-preserved c =
    let folder = c.args.folder.now in
    let flush = c.args.flush in
    let i = c.loop-entries.entries-index in
    let items = c.loop-entries.runs.items in
    let before : List (List Names) = map names_of c.args.runs.now.items in
    let after : List (List Names) = map names_of items in
    let more = c.note_run.new.paths in
    let at_part : c.loop-entries.part ≡ i = c.loop-entries.invariant.part in
    let inside : i < length items = omega (arith, c.loop-entries-test.true, c.loop-entries.invariant.len, c.requires.same) in
    let long : length after ≡ length items = length-map items names_of in
    let there : i < length after = omega arith in
    let paths : names_of c.index_mut.result.now ≡ get_or after i [] = ap names_of c.index_mut.ensures.value ∙ ap (λ (n : ℕ). names_of (get_or items n c.index_mut.result.now)) at_part ∙ sym (get_or-map names_of items i c.index_mut.result.now [] inside) in
    record {
      part = ap (λ (n : ℕ). n + 1) at_part;
      len = length-set items c.loop-entries.part more ∙ c.loop-entries.invariant.len;
      noted =
          λ text.
          let of : Vec Entry Global → List Pair = pairs_of text in
          let lists : List (List Pair) = lists_of text c.args.parts.now in
          let pairs : entry_pairs text c.deref.result.now ≡ list_at lists i = ap (entry_pairs text) c.deref.ensures.value ∙ ap of c.entries-item.is ∙ sym (get_or-map of c.args.parts.now i c.entries-item.result [] c.loop-entries-test.true) in
          let noted : names_of more ≡ names_of c.index_mut.result.now ++ new_runs (run_of folder i flush) (list_at lists i) = c.in_ok-note_run.ensures text ∙ ap (λ (n : ℕ). names_of c.index_mut.result.now ++ new_runs (run_of folder n flush) (entry_pairs text c.deref.result.now)) at_part ∙ ap (λ (ps : List Pair). names_of c.index_mut.result.now ++ new_runs (run_of folder i flush) ps) pairs in
          subst (λ (ls : List (List Names)). NotedBelow folder flush lists (i + 1) before ls) (sym (ap (λ (n : ℕ). map names_of (set items n more)) at_part ∙ map-set names_of items i more)) (noted_more folder flush lists i before after (names_of c.index_mut.result.now) (names_of more) (c.loop-entries.invariant.noted text) there paths noted);
    }

pub returns-clause-noted : goal.returns-clause-noted
returns-clause-noted c =
    λ text.
    let lists : List (List Pair) = lists_of text c.args.parts.now in
    let long : length lists ≡ length c.args.parts.now = length-map c.args.parts.now (pairs_of text) in
    noted_all c.args.folder.now c.args.flush lists c.loop-entries.entries-index (map names_of c.args.runs.now.items) (map names_of c.loop-entries.runs.items) (omega (arith, long, c.loop-entries-test.false)) (c.loop-entries.invariant.noted text)
