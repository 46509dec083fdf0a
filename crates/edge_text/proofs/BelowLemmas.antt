-- Accepted edges join nodes of the graph.
use Rattle.std.proofs.Common.{ℕ, ◌<◌, List, [], ◌∷◌, Option, Some, None, subst, eqb, leb}
use Rattle.std.proofs.lemmas.Bool.{cond_both, leb-false}
use Rattle.std.proofs.lemmas.List.Elements.{All-nil, All-cons, All-append}
use Rattle.graph.specs.declared.edges.Edge.{Edge}
use Rattle.graph.specs.Edges.{AreBelow}
use Rattle.peg_text.specs.Pairs.{key_of, value_of}
use Rattle.edge_text.specs.declared.verdict.Verdict.{Verdict}
use Rattle.edge_text.specs.Verdicts.{without_cr, says_nothing, id_of, pair_verdict, verdict_of}
use Rattle.edge_text.specs.Edges.{most_bytes}
use Rattle.edge_text.specs.Feeding.{State, Reads, Refused, edge_in, after_byte, edges_at, fed_edges, ended_edges, nodes_of}
use Rattle.edge_text.specs.Laws.{AcceptedAreBelow}
use Rattle.edge_text.proofs.FeedingLemmas.{nodes_of-after_byte}

abbrev IsBelow : ℕ → Edge → Type 0
IsBelow n edge = (edge.source < n) × (edge.target < n)

none_below : (n : ℕ) → AreBelow n []
none_below n = All-nil (IsBelow n)

below-pair : (n : ℕ) (source target : Option ℕ) → AreBelow n (edge_in (pair_verdict n source target))
below-pair n None target = none_below n
below-pair n (Some source) None = none_below n
below-pair n (Some source) (Some target) =
    let P : Verdict → Type 0 = λ v. AreBelow n (edge_in v) in
    cond_both (leb n source) _ _ P (λ _. none_below n) (λ low. cond_both (leb n target) _ _ P (λ _. none_below n) (λ low'. All-cons (IsBelow n) (record { source = source; target = target }) [] (leb-false n source low, leb-false n target low') (none_below n)))

pub below-verdict : (n : ℕ) (text : List ℕ) → AreBelow n (edge_in (verdict_of n text))
below-verdict n text =
    let said = without_cr text in
    cond_both (says_nothing said) _ _ (λ v. AreBelow n (edge_in v)) (λ _. none_below n) (λ _. below-pair n (id_of (key_of said)) (id_of (value_of said)))

below-edges_at : (s : State) (b : ℕ) → AreBelow (nodes_of s) (edges_at s b)
below-edges_at (Reads n line held taken) b =
    cond_both (leb most_bytes taken) _ _ (AreBelow n) (λ _. none_below n) (λ _. cond_both (eqb b 10) _ _ (AreBelow n) (λ _. below-verdict n held) (λ _. none_below n))
below-edges_at (Refused n fault) b = none_below n

pub below-fed_edges : (s : State) (bytes : List ℕ) → AreBelow (nodes_of s) (fed_edges s bytes)
below-fed_edges s [] = none_below (nodes_of s)
below-fed_edges s (b ∷ bs) =
    All-append (IsBelow (nodes_of s)) (edges_at s b) (fed_edges (after_byte s b) bs) (below-edges_at s b) (subst (λ n. AreBelow n (fed_edges (after_byte s b) bs)) (nodes_of-after_byte s b) (below-fed_edges (after_byte s b) bs))

pub below-ended_edges : (s : State) → AreBelow (nodes_of s) (ended_edges s)
below-ended_edges (Reads n line [] taken) = none_below n
below-ended_edges (Reads n line (b ∷ bs) taken) = below-verdict n (b ∷ bs)
below-ended_edges (Refused n fault) = none_below n

pub accepted_are_below : AcceptedAreBelow
accepted_are_below s piece = (below-fed_edges s piece, below-ended_edges s)
