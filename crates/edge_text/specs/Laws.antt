-- What holds of edge lists and readers as a whole.
use Rattle.std.specs.Prelude.{◌≡◌, ℕ, ◌^◌, ◌≤◌, List, ◌++◌, None, length}
use Rattle.std.specs.List.{concat}
use Rattle.graph.specs.declared.edges.Edge.{Edge}
use Rattle.graph.specs.Edges.{AreBelow}
use Rattle.edge_text.specs.Edges.{edges_so_far, edges_of, most_bytes, text_of}
use Rattle.edge_text.specs.Feeding.{State, begun, fed, fed_edges, fault_of, nodes_of, ended_edges, reading_in_pieces}

-- however an edge list is cut into pieces, a reader reads its edges and its refusal
abbrev pub CuttingChangesNothing : Type 0
CuttingChangesNothing =
    (n : ℕ) (pieces : List (List ℕ)) → reading_in_pieces (begun n) pieces ≡ edges_of n (concat pieces)

-- two pieces one after another do what both do at once
abbrev pub PiecesJoin : Type 0
PiecesJoin =
    (s : State) (first second : List ℕ)
    → (fed (fed s first) second ≡ fed s (first ++ second)) × (fed_edges s first ++ fed_edges (fed s first) second ≡ fed_edges s (first ++ second))

-- a reader stands where the records that are whole among the bytes so far have brought it
abbrev pub ReadsWholeRecords : Type 0
ReadsWholeRecords =
    (n : ℕ) (bytes : List ℕ)
    → (fed_edges (begun n) bytes ≡ (edges_so_far n bytes).edges) × (fault_of (fed (begun n) bytes) ≡ (edges_so_far n bytes).refusal)

-- both nodes of each edge that is accepted are below the number of nodes
abbrev pub AcceptedAreBelow : Type 0
AcceptedAreBelow =
    (s : State) (piece : List ℕ) → AreBelow (nodes_of s) (fed_edges s piece) × AreBelow (nodes_of s) (ended_edges s)

-- the lines that are written for edges are read as these edges, where the ids have at most 32 bits and the lines aren't too long
abbrev pub WrittenIsRead : Type 0
WrittenIsRead =
    (n : ℕ) (edges : List Edge) → n ≤ 2 ^ 32 → AreBelow n edges → length (text_of edges) ≤ most_bytes
    → edges_of n (text_of edges) ≡ record { edges = edges; refusal = None }
