-- A loop that feeds pieces to a reader: what was read so far, and what that says of the whole edge list.
use Rattle.std.proofs.Common.{◌≡◌, ℕ, List, [], ◌++◌, Some, refl, sym, ap, ◌∙◌, subst}
use Rattle.std.proofs.lemmas.List.{append_assoc, append-nil}
use Rattle.graph.specs.declared.edges.Edge.{Edge}
use Rattle.graph.specs.Edges.{AreBelow}
use Rattle.edge_text.specs.declared.fault.EdgeFault.{EdgeFault}
use Rattle.edge_text.specs.Edges.{Reading, edges_of}
use Rattle.edge_text.specs.Feeding.{State, Reads, Refused, begun, fed, fed_edges, ended, ended_edges, fault_of, nodes_of}
use Rattle.edge_text.proofs.FeedingLemmas.{fed-append, fed_edges-append, fed-refused, fed_edges-refused, nodes_of-fed}
use Rattle.edge_text.proofs.ReadingLemmas.{reading_at_end, reading_at_end-is}
use Rattle.edge_text.proofs.BelowLemmas.{below-fed_edges}

-- the bytes so far were fed to a new reader over n nodes, and their edges were appended to these
pub record HasReadSoFar (n : ℕ) (sofar : List ℕ) (s : State) (before edges : List Edge) : Type 0 where
  pub stands : s ≡ fed (begun n) sofar
  pub added : edges ≡ before ++ fed_edges (begun n) sofar

pub HasReadSoFar-begins : (n : ℕ) (edges : List Edge) → HasReadSoFar n [] (begun n) edges edges
HasReadSoFar-begins n edges = record { stands = refl; added = sym (append-nil edges) }

-- one more piece
pub HasReadSoFar-more : (n : ℕ) (sofar piece : List ℕ) (s s' : State) (before edges edges' : List Edge) → HasReadSoFar n sofar s before edges → s' ≡ fed s piece → edges' ≡ edges ++ fed_edges s piece → HasReadSoFar n (sofar ++ piece) s' before edges'
HasReadSoFar-more n sofar piece s s' before edges edges' has state added = record {
  stands = state ∙ ap (λ t. fed t piece) has.stands ∙ sym (fed-append (begun n) sofar piece);
  added =
      added ∙ ap (λ es. es ++ fed_edges s piece) has.added ∙ append_assoc before (fed_edges (begun n) sofar) (fed_edges s piece) ∙ ap (λ t. before ++ (fed_edges (begun n) sofar ++ fed_edges t piece)) has.stands ∙ ap (λ es. before ++ es) (sym (fed_edges-append (begun n) sofar piece));
}

refused_is : (s : State) (fault : EdgeFault) → fault_of s ≡ Some fault → s ≡ Refused (nodes_of s) fault
refused_is (Reads n line held taken) fault is = cc
refused_is (Refused n found) fault is = let same : found ≡ fault = cc in ap (Refused n) same

-- a reader that has refused: the whole edge list has that refusal, and the edges before it, whatever follows
module _ (n : ℕ) (sofar rest : List ℕ) (s : State) (before edges : List Edge) (fault : EdgeFault) (has : HasReadSoFar n sofar s before edges) (refused : fault_of s ≡ Some fault) where
  at_refusal : fed (begun n) sofar ≡ Refused n fault
  at_refusal =
      refused_is (fed (begun n) sofar) fault (ap fault_of (sym has.stands) ∙ refused) ∙ ap (λ m. Refused m fault) (nodes_of-fed (begun n) sofar)

  all_state : fed (begun n) (sofar ++ rest) ≡ Refused n fault
  all_state = fed-append (begun n) sofar rest ∙ ap (λ t. fed t rest) at_refusal ∙ fed-refused n fault rest

  all_edges : fed_edges (begun n) (sofar ++ rest) ≡ fed_edges (begun n) sofar
  all_edges =
      fed_edges-append (begun n) sofar rest ∙ ap (λ es. fed_edges (begun n) sofar ++ es) (ap (λ t. fed_edges t rest) at_refusal ∙ fed_edges-refused n fault rest) ∙ append-nil (fed_edges (begun n) sofar)

  whole : edges_of n (sofar ++ rest) ≡ record { edges = fed_edges (begun n) sofar; refusal = Some fault }
  whole =
      sym (reading_at_end-is n (sofar ++ rest)) ∙ ap (λ es. reading_at_end es (fed (begun n) (sofar ++ rest))) all_edges ∙ ap (reading_at_end (fed_edges (begun n) sofar)) all_state ∙ ap (λ es. record { edges = es; refusal = Some fault }) (append-nil (fed_edges (begun n) sofar))

  pub HasReadSoFar-stops : (edges_of n (sofar ++ rest)).refusal ≡ Some fault
  HasReadSoFar-stops = ap (λ (r : Reading). r.refusal) whole

  pub HasReadSoFar-stops_edges : edges ≡ before ++ (edges_of n (sofar ++ rest)).edges
  HasReadSoFar-stops_edges = has.added ∙ ap (λ (r : Reading). before ++ r.edges) (sym whole)

-- the end: the bytes so far are the whole edge list
module _ (n : ℕ) (sofar : List ℕ) (s s' : State) (before edges edges' : List Edge) (has : HasReadSoFar n sofar s before edges) where
  pub HasReadSoFar-ends : s' ≡ ended s → fault_of s' ≡ (edges_of n sofar).refusal
  HasReadSoFar-ends state =
      ap fault_of state ∙ ap (λ t. fault_of (ended t)) has.stands ∙ ap (λ (r : Reading). r.refusal) (reading_at_end-is n sofar)

  pub HasReadSoFar-ends_edges : edges' ≡ edges ++ ended_edges s → edges' ≡ before ++ (edges_of n sofar).edges
  HasReadSoFar-ends_edges added =
      added ∙ ap (λ es. es ++ ended_edges s) has.added ∙ append_assoc before (fed_edges (begun n) sofar) (ended_edges s) ∙ ap (λ t. before ++ (fed_edges (begun n) sofar ++ ended_edges t)) has.stands ∙ ap (λ (r : Reading). before ++ r.edges) (reading_at_end-is n sofar)

-- both nodes of each edge that was read are below the number of nodes
pub HasReadSoFar-below : (n : ℕ) (sofar : List ℕ) (s : State) (edges : List Edge) → HasReadSoFar n sofar s [] edges → AreBelow n edges
HasReadSoFar-below n sofar s edges has = subst (AreBelow n) (sym has.added) (below-fed_edges (begun n) sofar)
