use Rattle.std.proofs.Common.{◌≡◌, sym}
use Rattle.std.proofs.lemmas.Bool.{false≢true}
use Rattle.std.specs.BinaryHeap.{heap_items}
use Rattle.twins.specs.Numbers.{mark_at}
use Rattle.twins.specs.declared.number_set.Mark.TheVariants.{Stale}
use Rattle.twins.proofs.NumberLemmas.{top_is_below, stale_at_top, IsHeapOf-dropped, dropped_same}
use Rattle.twins.proofs.number_set.drop_stale.Goals as goal

pub bounds : goal.bounds
bounds c =
    let top = c.in-Some.ensures in
    top_is_below c.args.marks.now (heap_items c.args.heap.now) c.in-Some.field-0 c.requires top.some top.is

pub returns-in_default : goal.returns-in_default
returns-in_default c =
    let marks = c.args.marks.now in
    let heap = heap_items c.args.heap.now in
    let x = c.in-Some.field-0 in
    let top = c.in-Some.ensures in
    let below = top_is_below marks heap x c.requires top.some top.is in
    let stale : mark_at marks x.0 ≡ Stale = stale_at_top marks heap x c.requires top c.in_default.not-In in
    let dropped = IsHeapOf-dropped marks heap (heap_items c.pop.new.self) x c.pop.result c.requires top below stale c.args.heap.now.data.ok.0 c.pop.ensures.none c.pop.ensures.top c.pop.ensures.permutation c.pop.ensures.heap_order in
    record {
      heap = dropped.0;
      settled = λ no. absurd (false≢true (sym no));
      shorter = λ is. dropped.1;
      same = dropped_same marks x.0 below stale;
      room = c.pop.ensures.capacity;
    }
