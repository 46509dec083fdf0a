-- One entry or both stand behind the bytes that were there.
use Rattle.std.proofs.Common.{◌≡◌, ◌+◌, ◌*◌, ◌++◌, List, [], length, take, if◌then◌else◌, sym, ap, ◌∙◌, arith}
use Rattle.std.proofs.lemmas.List.{append_assoc, append-nil}
use Rattle.gimv_base.specs.EdgeTexts.{unit_entry, unit_entries}
use Rattle.gimv_base.proofs.EdgeTexts.{length_of_unit_entry, length_of_unit_entries, written_behind}
use Rattle.gimv_base.proofs.entries.write_unit_entries.Goals as goal

pub returns-then-not-both-clause-is : goal.returns-then-not-both-clause-is
returns-then-not-both-clause-is c =
    let source = c.args.source.now in
    let target = c.args.target.now in
    let front = c.split_at_mut-room.result.0.now in
    let past = c.split_at_mut-entry.result.1.now in
    let size = length_of_unit_entry target source in
    let one : unit_entries c.args.both source target ≡ unit_entry target source =
    ap (λ b. unit_entry target source ++ (if b then unit_entry source target else [])) c.if-not-both.true ∙ append-nil _ in
    ap (λ l. take (c.args.before + (length source + length target + 6)) (front ++ (l ++ past))) c.write_unit_entry.ensures
    ∙ written_behind front (unit_entry target source) past c.args.before _ c.split_at_mut-room.ensures.front_len (omega (arith, size))
    ∙ ap (λ l. l ++ unit_entry target source) c.split_at_mut-room.ensures.front
    ∙ ap (λ l. take c.args.before c.args.list.now ++ l) (sym one)

pub returns-clause-is : goal.returns-clause-is
returns-clause-is c =
    let source = c.args.source.now in
    let target = c.args.target.now in
    let front = c.split_at_mut-room.result.0.now in
    let past = c.split_at_mut-turned.result.1.now in
    let first = unit_entry target source in
    let second = unit_entry source target in
    let two : unit_entries c.args.both source target ≡ first ++ second =
    ap (λ b. first ++ (if b then second else [])) c.if-not-both.false in
    let entries : c.write_unit_entry.new.room ++ (c.write_unit_entry-2.new.room ++ past) ≡ (first ++ second) ++ past =
    ap (λ l. l ++ (c.write_unit_entry-2.new.room ++ past)) c.write_unit_entry.ensures
    ∙ ap (λ l. first ++ (l ++ past)) c.write_unit_entry-2.ensures
    ∙ sym (append_assoc first second past) in
    ap (λ l. take (c.args.before + 2 * (length source + length target + 6)) (front ++ l)) entries
    ∙ written_behind front (first ++ second) past c.args.before _ c.split_at_mut-room.ensures.front_len (length_of_unit_entries source target)
    ∙ ap (λ l. l ++ (first ++ second)) c.split_at_mut-room.ensures.front
    ∙ ap (λ l. take c.args.before c.args.list.now ++ l) (sym two)
