-- Walks along edges in either direction, and the least node at the end of a walk.
use Rattle.std.specs.Prelude.{◌≡◌, ℕ, ◌<◌, ◌≤◌, ◌⊎◌, List, [], ◌∷◌, length, slice_index, Contains}
use Rattle.graph.specs.declared.edges.Edge.{Edge}

-- an edge joins two nodes, in either direction
abbrev pub Joins : Edge → ℕ → ℕ → Type 0
Joins e i j = ((e.source ≡ i) × (e.target ≡ j)) ⊎ ((e.source ≡ j) × (e.target ≡ i))

-- some edge of the list joins two nodes
pub record AreJoined (edges : List Edge) (i j : ℕ) : Type 0 where
  pub edge : Edge
  pub listed : Contains edges edge
  pub joins : Joins edge i j

-- a walk that begins at i, goes on over these nodes, and ends at j
abbrev pub IsWalk : List Edge → ℕ → List ℕ → ℕ → Type 0
IsWalk edges i [] j = i ≡ j
IsWalk edges i (k ∷ ks) j = AreJoined edges i k × IsWalk edges k ks j

-- j is at the end of a walk from i
pub record Reaches (edges : List Edge) (i j : ℕ) : Type 0 where
  pub over : List ℕ
  pub walk : IsWalk edges i over j

-- m is the least node at the end of a walk from i
pub record IsLeast (edges : List Edge) (i m : ℕ) : Type 0 where
  pub reached : Reaches edges i m
  pub least : (j : ℕ) → Reaches edges i j → m ≤ j

-- a label for each of the first n nodes: the least node at the end of a walk from it
pub record AreLeast (n : ℕ) (edges : List Edge) (labels : List ℕ) : Type 0 where
  pub each_node : length labels ≡ n
  pub least : (i : ℕ) → i < n → IsLeast edges i (slice_index labels i)
