use Rattle.std.proofs.Common.{◌≡◌, length, map}
use Rattle.std.specs.BinaryHeap.{heap_items, heap_capacity}
use Rattle.twins.specs.Numbers.{IsHeapOf, is_in}
use Rattle.twins.proofs.number_set.settle.Given as goal

abbrev pub invariant-loop : goal.invariant-loop
invariant-loop l = record {
  heap : IsHeapOf l.marks (heap_items l.heap);
  same : map is_in l.marks ≡ map is_in l.initial.marks;
  room : heap_capacity l.heap ≡ heap_capacity l.initial.heap;
}

abbrev pub decreases-loop : goal.decreases-loop
decreases-loop l = length (heap_items l.heap)
