-- Lists of edges.
use Rattle.std.specs.Prelude.{ℕ, ◌<◌, List, All}
use Rattle.graph.specs.declared.edges.Edge.{Edge}

-- both nodes of each edge are among the first n
abbrev pub AreBelow : ℕ → List Edge → Type 0
AreBelow n edges = All (λ e. (e.source < n) × (e.target < n)) edges
