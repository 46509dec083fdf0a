use Rattle.std.proofs.Common.{◌≡◌, ◌∙◌, ℕ, List, Some, length, get_or, ap, sym, arith, rules}
use Rattle.std.proofs.lemmas.List.{get_or-map, length-map, take_all}
use Rattle.dir_disk.specs.Moments.{Told, files}
use Rattle.pairs.specs.Pairs.{Pair, pairs_text}
use Rattle.pieces.specs.Pieces.{gathered}
use Rattle.pieces.proofs.PieceLemmas.{appended_others, gathered_after}
use Rattle.spill.specs.declared.entry.Entry.{Entry}
use Rattle.spill.specs.Lines.{pair_of_entry, entry_pairs}
use Rattle.spill.proofs.WritingLemmas.{append_more, stands_more, pair_sent}
use Rattle.spill.proofs.writing.write_pairs.Goals as goal

pub returns-in_err-send_piece-clause-steps : goal.returns-in_err-send_piece-clause-steps
returns-in_err-send_piece-clause-steps g c =
    λ tells.
    stands_more c.args.path.now (g.D.Dir.told c.args.dir.now) (g.D.Dir.told c.loop-entry.dir) (g.D.Dir.told c.send_piece.new.dir) (c.loop-entry.invariant.steps tells) (c.send_piece.ensures.stands tells)

pub loop-entry-preserved : goal.loop-entry-preserved
loop-entry-preserved g c = record {
  steps = λ tells. stands_more c.args.path.now (g.D.Dir.told c.args.dir.now) (g.D.Dir.told c.loop-entry.dir) (g.D.Dir.told c.send_piece.new.dir) (c.loop-entry.invariant.steps tells) (c.send_piece.ensures.stands tells);
  can = λ tells. c.in_ok-send_piece.ensures.can tells;
  others = λ tells q other. c.in_ok-send_piece.ensures.others tells q other ∙ c.loop-entry.invariant.others tells q other;
  sent =
      λ tells.
      let text = c.args.text.now in
      let entries = c.args.entries.now in
      let i = c.loop-entry.entry-index in
      let none : Entry = record { rank = 0; start = 0; size = 0 } in
      let entry : Entry = get_or entries i none in
      let p : Pair = pair_of_entry text entry in
      let many : length (entry_pairs text entries) ≡ length entries = length-map entries (pair_of_entry text) in
      let is_pair : p ≡ get_or (entry_pairs text entries) i p = sym (get_or-map (pair_of_entry text) entries i none p c.loop-entry-test.true) in
      pair_sent c.args.path.now (files (g.D.Dir.told c.loop-entry.dir)) (files (g.D.Dir.told c.send_piece.new.dir)) c.loop-entry.piece.items c.write.new.out.items c.send_piece.new.piece.items (entry_pairs text entries) i p p (c.loop-entry.invariant.sent tells) (omega (arith, many, c.loop-entry-test.true)) is_pair c.in_ok-write.ensures (c.in_ok-send_piece.ensures.sent tells);
  lent = search rules;
  beside = search rules;
  later = search rules;
}

pub returns-in_err-append-clause-steps : goal.returns-in_err-append-clause-steps
returns-in_err-append-clause-steps g c =
    λ tells.
    append_more c.args.path.now c.deref.result.now (g.D.Dir.told c.args.dir.now) (g.D.Dir.told c.loop-entry.dir) (g.D.Dir.told c.append.new.self) c.append.result (c.loop-entry.invariant.steps tells) (c.append.ensures.call tells) (λ q. g.met.D.Dir.now_allowed c.loop-entry.dir q tells)

pub returns-clause-steps : goal.returns-clause-steps
returns-clause-steps g c =
    λ tells.
    append_more c.args.path.now c.deref.result.now (g.D.Dir.told c.args.dir.now) (g.D.Dir.told c.loop-entry.dir) (g.D.Dir.told c.append.new.self) c.append.result (c.loop-entry.invariant.steps tells) (c.append.ensures.call tells) (λ q. g.met.D.Dir.now_allowed c.loop-entry.dir q tells)

pub returns-clause-others : goal.returns-clause-others
returns-clause-others g c =
    λ tells q other.
    appended_others c.args.path.now c.deref.result.now (files (g.D.Dir.told c.loop-entry.dir)) (files (g.D.Dir.told c.append.new.self)) (c.in_ok-append.ensures.call tells).ok.1 q other ∙ c.loop-entry.invariant.others tells q other

pub returns-clause-written : goal.returns-clause-written
returns-clause-written g c =
    λ tells.
    let path = c.args.path.now in
    let mid : Told = g.D.Dir.told c.loop-entry.dir in
    let new : Told = g.D.Dir.told c.append.new.self in
    let pairs : List Pair = entry_pairs c.args.text.now c.args.entries.now in
    let many : length pairs ≡ length c.args.entries.now = length-map c.args.entries.now (pair_of_entry c.args.text.now) in
    gathered_after path c.deref.result.now (files mid) (files new) (c.in_ok-append.ensures.call tells).ok.1 ∙ ap (λ (t : List ℕ). Some (gathered path (files mid) t)) c.deref.ensures.value ∙ ap Some (c.loop-entry.invariant.sent tells) ∙ ap (λ (l : List Pair). Some (pairs_text l)) (take_all c.loop-entry.entry-index pairs (omega (arith, many, c.loop-entry-test.false)))
