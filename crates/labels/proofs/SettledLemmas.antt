-- Labels that are reached and the same along each edge are the least ones.
use Rattle.std.proofs.Common.{◌≡◌, ℕ, ◌<◌, ◌≤◌, List, [], ◌∷◌, length, get_or, sym, subst, ◌∙◌, inl, inr, zero-add, arith}
use Rattle.std.specs.List.{range_with_len}
use Rattle.std.proofs.lemmas.List.Elements.{All-contains}
use Rattle.std.proofs.lemmas.List.FromFn.{get_or-range_with_len}
use Rattle.graph.specs.declared.edges.Edge.{Edge}
use Rattle.graph.specs.Edges.{AreBelow}
use Rattle.graph.specs.Walks.{Joins, IsWalk, Reaches, AreLeast}
use Rattle.graph.specs.Laws.{AreReached}
use Rattle.graph.proofs.WalkLemmas.{reaches_itself, joined-lt}
use Rattle.labels.specs.Labels.{AreSettled}

same_by : (labels : List ℕ) (e : Edge) (i j : ℕ) → get_or labels e.source 0 ≡ get_or labels e.target 0 → Joins e i j → get_or labels i 0 ≡ get_or labels j 0
same_by labels e i j same (inl there) = subst (λ k. get_or labels k 0 ≡ get_or labels j 0) there.0 (subst (λ k. get_or labels e.source 0 ≡ get_or labels k 0) there.1 same)
same_by labels e i j same (inr back) = sym (subst (λ k. get_or labels k 0 ≡ get_or labels i 0) back.0 (subst (λ k. get_or labels e.source 0 ≡ get_or labels k 0) back.1 same))

settled_along : (n : ℕ) (edges : List Edge) (labels : List ℕ) → AreBelow n edges → AreReached n edges (λ i. get_or labels i 0) → AreSettled labels edges
    → (i : ℕ) (ks : List ℕ) (j : ℕ) → i < n → IsWalk edges i ks j → get_or labels i 0 ≤ j
settled_along n edges labels below had settled i [] j lt walk = omega (arith, had.low i lt)
settled_along n edges labels below had settled i (k ∷ ks) j lt walk =
    let joined = walk.0 in
    let at = All-contains (λ (e : Edge). get_or labels e.source 0 ≡ get_or labels e.target 0) edges joined.edge settled joined.listed in
    omega
    (arith, same_by labels joined.edge i k at joined.joins, settled_along n edges labels below had settled k ks j (joined-lt n edges i k below joined) walk.1)

pub least_from_settled : (n : ℕ) (edges : List Edge) (labels : List ℕ) → AreBelow n edges → length labels ≡ n → AreReached n edges (λ i. get_or labels i 0) → AreSettled labels edges → AreLeast n edges labels
least_from_settled n edges labels below long had settled = record {
  each_node = long;
  least = λ i lt. record {
    reached = had.reached i lt;
    least = λ j to. settled_along n edges labels below had settled i to.over j lt to.walk;
  };
}

-- each node reaches itself
pub own_reached : (n : ℕ) (edges : List Edge) → AreReached n edges (λ i. get_or (range_with_len 0 n) i 0)
own_reached n edges = record {
  reached = λ i lt. let is : get_or (range_with_len 0 n) i 0 ≡ i = get_or-range_with_len 0 n i 0 lt ∙ zero-add i in subst (Reaches edges i) (sym is) (reaches_itself edges i);
  low = λ i lt. let is : get_or (range_with_len 0 n) i 0 ≡ i = get_or-range_with_len 0 n i 0 lt ∙ zero-add i in omega arith;
}
