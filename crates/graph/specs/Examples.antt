-- A small graph, and vectors as lists.
use Rattle.std.specs.Prelude.{ℕ, List, [], ◌∷◌, map}
use Rattle.std.specs.List.{range_with_len}
use Rattle.graph.specs.declared.edges.Edge.{Edge}
use Rattle.graph.specs.Entries.{Entry}
use Rattle.graph.specs.Steps.{Algorithm, iterate}

abbrev pub from_to : ℕ → ℕ → Edge
from_to source target = record { source = source; target = target }

-- three nodes on a path, two joined by an edge, and one alone
abbrev pub three_edges : List Edge
three_edges = from_to 0 1 ∷ from_to 1 2 ∷ from_to 3 4 ∷ []

-- the values of the first n nodes after so many steps
abbrev pub values_after : {Val Msg Weight : Type 0} → Algorithm Val Msg Weight → List (Entry Weight) → ℕ → ℕ → List Val
values_after a entries n k = map (iterate a entries k) (range_with_len 0 n)
