use Rattle.std.proofs.Common.{◌≡◌, ℕ, Bool, List, false, subst}
use Rattle.std.specs.BinaryHeap.{heap_items, heap_capacity}
use Rattle.task_core.specs.Rules.{IsLeast}
use Rattle.twins.specs.Numbers.{contains}
use Rattle.twins.proofs.NumberLemmas.{least_in, none_in}
use Rattle.twins.proofs.number_set.NumberSet.least.Goals as goal

pub returns : goal.returns
returns c =
    let top = c.in_ok-number.ensures in
    subst (λ (s : List Bool). IsLeast (contains s) c.in_ok-number.field-0.0) c.self.view_is
    (least_in c.self.inside.marks.items (heap_items c.self.inside.heap) (heap_capacity c.self.inside.heap) c.in_ok-number.field-0 c.self.invariant top)

pub returns-in_err-number : goal.returns-in_err-number
returns-in_err-number c =
    rw c.from_residual.ensures
    (subst (λ (s : List Bool). (t : ℕ) → contains s t ≡ false) c.self.view_is (none_in c.self.inside.marks.items (heap_items c.self.inside.heap) c.self.invariant.entries c.in_err-number.ensures))
