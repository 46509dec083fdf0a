use Rattle.std.proofs.Common.{◌≡◌, ◌∙◌, ◌<◌, ◌≤◌, ◌++◌, List, map, drop, length, get_or, set, ap, sym, arith, Vec, Global}
use Rattle.std.specs.List.{All}
use Rattle.std.proofs.lemmas.List.{length-map, map-set, get_or-map, take_all, drop_all, append-nil}
use Rattle.std.proofs.lemmas.List.Edits.{map_over_more}
use Rattle.std.proofs.lemmas.List.Elements.{All-set}
use Rattle.pairs.specs.Pairs.{Pair, sorted_pairs}
use Rattle.spill.specs.declared.entry.Entry.{Entry}
use Rattle.spill.specs.Lines.{IsEntry, entry_pairs, lists_of}
use Rattle.spill.proofs.chunk.sort_parts.Goals as goal

pub loop-entries-preserved : goal.loop-entries-preserved
loop-entries-preserved c =
    let text = c.args.text.now in
    let items = c.loop-entries.parts in
    let i = c.loop-entries.entries-index in
    let entries : Vec Entry Global = get_or items i c.entries-item.result in
    let sorted = c.sort_entries.new.entries in
    let all : List (List Pair) = lists_of text c.args.parts.now in
    let pairs : Vec Entry Global → List Pair = λ v. entry_pairs text v.items in
    let many : length all ≡ length c.args.parts.now = length-map c.args.parts.now pairs in
    let inside : i < length all = omega (arith, many, c.loop-entries-test.true) in
    let within : i < length items = omega (arith, c.loop-entries.auto.parts, c.loop-entries-test.true) in
    let item : pairs entries ≡ get_or (lists_of text items) i (pairs entries) = sym (get_or-map pairs items i c.entries-item.result (pairs entries) within) in
    record {
      are = All-set (λ (v : Vec Entry Global). All (IsEntry text) v.items) items i sorted c.sort_entries.ensures.are c.loop-entries.invariant.are;
      sorted = map-set pairs items i sorted ∙ ap (λ (ps : List Pair). set (lists_of text items) i ps) c.sort_entries.ensures.sorted ∙ map_over_more sorted_pairs all (lists_of text items) i (pairs entries) inside c.loop-entries.invariant.sorted item;
    }

pub returns-clause-sorted : goal.returns-clause-sorted
returns-clause-sorted c =
    let all : List (List Pair) = lists_of c.args.text.now c.args.parts.now in
    let i = c.loop-entries.entries-index in
    let many : length all ≡ length c.args.parts.now = length-map c.args.parts.now (λ (v : Vec Entry Global). entry_pairs c.args.text.now v.items) in
    let reached : length all ≤ i = omega (arith, many, c.loop-entries-test.false) in
    c.loop-entries.invariant.sorted ∙ ap (λ (ps : List (List Pair)). map sorted_pairs ps ++ drop i all) (take_all i all reached) ∙ ap (λ (ps : List (List Pair)). map sorted_pairs all ++ ps) (drop_all i all reached) ∙ append-nil (map sorted_pairs all)
