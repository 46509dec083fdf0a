-- The labels after six steps are the least ones, and they are these.
use Rattle.std.proofs.Common.{◌≡◌, ℕ, ◌<◌, List, [], ◌∷◌, get_or, refl, sym, subst, lit<, zero-add, arith}
use Rattle.std.proofs.lemmas.List.Elements.{All-from_recursion}
use Rattle.std.proofs.lemmas.List.FromFn.{get_or-map-range_with_len}
use Rattle.graph.specs.declared.edges.Edge.{Edge}
use Rattle.graph.specs.Edges.{AreBelow}
use Rattle.graph.specs.Examples.{three_edges}
use Rattle.graph.specs.Walks.{IsLeast}
use Rattle.graph.specs.Laws.{labels_after}
use Rattle.graph.proofs.ChangeLemmas.{ends_at_least}
use Rattle.graph.proofs.examples.least_labels_of_three_edges.Goals as goal

are_below : AreBelow 6 three_edges
are_below =
    All-from_recursion (λ (e : Edge). (e.source < 6) × (e.target < 6)) three_edges
    ((lit< tt, lit< tt), ((lit< tt, lit< tt), ((lit< tt, lit< tt), tt)))

pub returns : goal.returns
returns c = record {
  each_node = refl;
  least = λ i lt.
      let ends = ends_at_least 6 three_edges (omega arith) (omega arith) are_below in
      let labels : List ℕ = 0 ∷ 0 ∷ 0 ∷ 3 ∷ 3 ∷ 5 ∷ [] in
      let same : get_or labels i 0 ≡ labels_after three_edges 6 i = get_or-map-range_with_len (labels_after three_edges 6) 0 6 i i 0 lt (zero-add i) in
      subst (IsLeast three_edges i) (sym same) (ends.least 6 ends.soon i lt);
}
