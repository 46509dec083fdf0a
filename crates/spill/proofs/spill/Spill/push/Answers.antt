use Rattle.std.proofs.Common.{◌≡◌, ◌∙◌, ◌+◌, ◌<◌, ◌++◌, ◌∷◌, [], ℕ, List, length, set, ap, sym, subst, arith, rules, length-append}
use Rattle.std.proofs.lemmas.List.Elements.{All-from_get_or}
use Rattle.peg_text.specs.Pairs.{pair_line}
use Rattle.pairs.specs.Pairs.{Pair, pairs_in}
use Rattle.pairs.specs.Prefixes.{AreBytes}
use Rattle.spill.specs.contracts.spill.Spill.{the_view}
use Rattle.spill.specs.Spills.{Held, IsWell, with_pair}
use Rattle.spill.proofs.SpillLemmas.{bytes_inside, pairs_pushed, parts_counted, well_kept, well_pushed}
use Rattle.spill.proofs.spill.Spill.push.Goals as goal

pub index_mut-requires : goal.index_mut-requires
index_mut-requires c =
    let inside = c.self.inside in
    let many = parts_counted inside.text.items inside.parts.items inside.bytes inside.reducers (length inside.runs.items) inside.folder c.self.invariant in
    omega (arith, many, c.part_of-part.ensures.below, inside.parts.ok.0)

pub invariant_of-self : goal.invariant_of-self
invariant_of-self c =
    let inside = c.self.inside in
    let parts = set inside.parts.items c.part_of-part.result c.hold.new.entries in
    let well = well_kept inside.text.items inside.parts.items c.index_mut.result.now c.hold.new.entries inside.bytes inside.reducers (length inside.runs.items) c.part_of-part.result inside.folder c.self.invariant c.part_of-part.ensures.below c.index_mut.ensures.value c.in_err-hold.ensures.entries_kept in
    subst (λ (text : List ℕ). IsWell text parts inside.bytes inside.reducers (length inside.runs.items) inside.folder) (sym c.in_err-hold.ensures.text_kept) well

pub overflow_add-self-2 : goal.overflow_add-self-2
overflow_add-self-2 c =
    let inside = c.self.inside in
    let bytes = bytes_inside inside.text.items inside.parts.items inside.bytes inside.reducers (length inside.runs.items) inside.folder c.self.invariant in
    let key = c.args.key.now in
    let value = c.args.value.now in
    let text = c.hold.new.text in
    let long = ap length c.in_ok-hold.ensures.text in
    let whole = length-append inside.text.items (pair_line key value) in
    let line = length-append (key ++ 9 ∷ value) (10 ∷ []) in
    let front = length-append key (9 ∷ value) in
    omega (arith, bytes, long, whole, line, front, text.ok.0, text.ok.1, text.small)

pub invariant_of-self-2 : goal.invariant_of-self-2
invariant_of-self-2 c =
    let inside = c.self.inside in
    let p : Pair = (c.args.key.now, c.args.value.now) in
    let runs = length inside.runs.items in
    let bytes : ℕ = inside.bytes + (length p.0 + length p.1) in
    let parts = set inside.parts.items c.part_of-part.result c.hold.new.entries in
    let keys : AreBytes p.0 = All-from_get_or (λ b. b < 256) c.args.key.now 0 (λ k inside. search (rules, c.type_inv.key)) in
    let values : AreBytes p.1 = All-from_get_or (λ b. b < 256) c.args.value.now 0 (λ k inside. search (rules, c.type_inv.value)) in
    let well = well_pushed inside.text.items inside.parts.items c.index_mut.result.now c.hold.new.entries inside.bytes inside.reducers runs c.part_of-part.result inside.folder p c.self.invariant c.requires keys values c.part_of-part.ensures.exact c.part_of-part.ensures.below c.index_mut.ensures.value c.in_ok-hold.ensures.entry in
    subst (λ (text : List ℕ). IsWell text parts bytes inside.reducers runs inside.folder) (sym c.in_ok-hold.ensures.text) well

pub returns-clause-pushed : goal.returns-clause-pushed
returns-clause-pushed c =
    let inside = c.self.inside in
    let p : Pair = (c.args.key.now, c.args.value.now) in
    let pairs : pairs_in c.hold.new.text.items ≡ pairs_in inside.text.items ++ p ∷ [] = ap pairs_in c.in_ok-hold.ensures.text ∙ pairs_pushed inside.text.items p c.self.invariant.lines c.self.invariant.plain c.requires in
    ap (λ (ps : List Pair). let h : Held = record (the_view inside) { pairs = ps } in h) pairs ∙ ap (with_pair p) c.self.view_is
