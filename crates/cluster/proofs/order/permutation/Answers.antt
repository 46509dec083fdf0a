use Rattle.std.proofs.Common.{ℕ, Ok, refl, arith, rules, get_or, subst, length}
use Rattle.std.specs.List.{range_with_len}
use Rattle.std.specs.List.Sorted.{IsPermutation}
use Rattle.std.proofs.lemmas.Iterator.{items_from_collect, YieldsList-from_range}
use Rattle.std.proofs.lemmas.Fn.{always_returns_same}
use Rattle.cluster.proofs.OrderLemmas.{in_order_from_sort}
use Rattle.cluster.proofs.order.permutation.Goals as goal

pub returns : goal.returns
returns c =
    let labels = c.args.labels.now in
    let made = items_from_collect {E = ℕ} (Ok c.in_ok-ids.ids) c.in_ok-ids.ensures.ran
    (YieldsList-from_range 0 (length labels) (length labels) refl (omega arith)) in
    in_order_from_sort labels _ (subst (λ xs. IsPermutation xs c.sort_unstable_by_key.new.self.items) made c.sort_unstable_by_key.ensures.permutation)
    (c.sort_unstable_by_key.ensures.sorted (λ (i : ℕ). (get_or labels i 0, i)) (always_returns_same _ _ _ (λ a r f h. search rules)))
