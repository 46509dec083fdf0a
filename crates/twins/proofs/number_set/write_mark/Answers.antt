use Rattle.std.proofs.Common.{◌≡◌, ⊎_elim, ◌∙◌, refl, sym, ap, arith}
use Rattle.std.specs.BinaryHeap.{heap_items}
use Rattle.twins.specs.Numbers.{is_in, entries_by, mark_at}
use Rattle.twins.specs.declared.number_set.Mark.TheVariants.{In}
use Rattle.twins.proofs.NumberLemmas.{heap_has_room, IsHeapOf-pushed, IsHeapOf-marked, marked_is, marked_same}
use Rattle.twins.proofs.number_set.write_mark.Goals as goal
use Rattle.twins.proofs.number_set.write_mark.Goals.{then-member-2, else-member-2}

pub unwrap-requires : goal.unwrap-requires
unwrap-requires c =
    let few = heap_has_room c.args.marks.now (heap_items c.args.heap.now) c.args.number c.requires.heap c.requires.below c.in-Out.is in
    c.push.ensures.succeeds (omega (arith, few, c.requires.room, c.args.heap.now.data.ok.0))

pub returns-then-member-clause-heap : goal.returns-then-member-clause-heap
returns-then-member-clause-heap c =
    let pushed = rw c.unwrap.ensures at c.push.ensures.permutation in
    let order = rw c.unwrap.ensures at c.push.ensures.heap_order in
    IsHeapOf-pushed c.args.marks.now (heap_items c.args.heap.now) (heap_items c.push.new.self) _ c.args.number c.requires.heap c.requires.below pushed (order c.requires.heap.ordered) refl c.in-Out.is

pub returns-then-member-clause-marked : goal.returns-then-member-clause-marked
returns-then-member-clause-marked c = marked_is c.args.marks.now c.args.number In c.args.member (sym c.if-member.true)

pub returns-else-member-clause-marked : goal.returns-else-member-clause-marked
returns-else-member-clause-marked c = marked_same c.args.marks.now c.args.number c.args.member (ap is_in c.in-Out.is ∙ sym c.if-member.false)

pub returns-after-member-2 : goal.returns-after-member-2
returns-after-member-2 c =
    let marks = c.args.marks.now in
    let t = c.args.number in
    let s = c.if-member-2.marks in
    let had : entries_by (mark_at marks t) ≡ 1 = ⊎_elim (λ is. ap entries_by is) (λ is. ap entries_by is) c.in-Stale.is in
    let entry : entries_by s ≡ 1 = elim c.if-member-2.branch [ then-member-2 w ↦ ap entries_by w.marks-is | else-member-2 w ↦ ap entries_by w.marks-is ] in
    let member : is_in s ≡ c.args.member =
    elim c.if-member-2.branch [ then-member-2 w ↦ ap is_in w.marks-is ∙ sym w.if-member-2.true | else-member-2 w ↦ ap is_in w.marks-is ∙ sym w.if-member-2.false ]
    in
    record {
      heap = IsHeapOf-marked marks (heap_items c.args.heap.now) t s c.requires.heap c.requires.below (entry ∙ sym had);
      marked = marked_is marks t s c.args.member member;
      room = omega arith;
    }
