use Rattle.std.proofs.Common.{◌≡◌, ℕ, List, length, get_or, sym, ap, subst, ◌∙◌}
use Rattle.std.specs.List.{range_with_len}
use Rattle.std.proofs.lemmas.List.{take_at}
use Rattle.std.proofs.lemmas.List.FromFn.{length-range_with_len}
use Rattle.graph.specs.Laws.{AreReached}
use Rattle.graph.specs.Walks.{AreLeast}
use Rattle.graph.proofs.WalkLemmas.{AreBelow-same}
use Rattle.labels.proofs.SettledLemmas.{own_reached, least_from_settled}
use Rattle.labels.proofs.least_labels.Goals as goal

-- as many labels as nodes
each_node : (labels : List ℕ) (n : ℕ) → labels ≡ range_with_len 0 n → length labels ≡ n
each_node labels n own = ap length own ∙ length-range_with_len 0 n

pub settle-requires-clause-below : goal.settle-requires-clause-below
settle-requires-clause-below c = AreBelow-same (length c.deref_mut.result.now) c.args.nodes c.args.edges.now (each_node c.deref_mut.result.now c.args.nodes (c.deref_mut.ensures.value ∙ c.in_ok-labels.ensures)) c.requires

pub settle-requires-clause-reached : goal.settle-requires-clause-reached
settle-requires-clause-reached c =
    let edges = c.args.edges.now in
    subst (λ (labels : List ℕ). AreReached (length labels) edges (λ i. get_or labels i 0)) (sym (c.deref_mut.ensures.value ∙ c.in_ok-labels.ensures))
    (subst (λ (n : ℕ). AreReached n edges (λ i. get_or (range_with_len 0 c.args.nodes) i 0)) (sym (length-range_with_len 0 c.args.nodes)) (own_reached c.args.nodes edges))

pub returns : goal.returns
returns c =
    let edges = c.args.edges.now in
    let labels = c.settle.new.labels in
    let as_many : length labels ≡ length c.deref_mut.result.now = c.settle.auto.labels in
    let long : length labels ≡ c.args.nodes = as_many ∙ each_node c.deref_mut.result.now c.args.nodes (c.deref_mut.ensures.value ∙ c.in_ok-labels.ensures) in
    let whole : length labels ≡ c.in_ok-labels.labels.len = as_many ∙ c.deref_mut.ensures.len in
    let reached = subst (λ (n : ℕ). AreReached n edges (λ i. get_or labels i 0)) long c.settle.ensures.reached in
    subst (AreLeast c.args.nodes edges) (sym (take_at labels _ c.in_ok-labels.labels.len whole))
    (least_from_settled c.args.nodes edges labels c.requires long reached c.settle.ensures.settled)
