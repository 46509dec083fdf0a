-- Nodes by their places.
use Rattle.std.specs.Prelude.{◌≡◌, ℕ, ◌<◌}
use Rattle.graph.specs.declared.edges.Edge.{Edge}
use Rattle.graph.specs.Entries.{Entry}
use Rattle.graph.specs.Steps.{Algorithm}

-- each of n nodes has a place of its own below n, and `id` is the node at a place
pub record AreAtPlaces (n : ℕ) (place id : ℕ → ℕ) : Type 0 where
  pub place_low : (i : ℕ) → i < n → place i < n
  pub id_low : (p : ℕ) → p < n → id p < n
  pub there : (i : ℕ) → i < n → id (place i) ≡ i
  pub back : (p : ℕ) → p < n → place (id p) ≡ p

abbrev pub placed_edge : (ℕ → ℕ) → Edge → Edge
placed_edge place e = record { source = place e.source; target = place e.target }

abbrev pub placed_entry : {Weight : Type 0} → (ℕ → ℕ) → Entry Weight → Entry Weight
placed_entry place e = record { row = place e.row; column = place e.column; weight = e.weight }

-- the row and the column are nodes
abbrev pub IsInside : {Weight : Type 0} → ℕ → Entry Weight → Type 0
IsInside n e = (e.row < n) × (e.column < n)

-- the same algorithm over places: a place begins with the value of the node there
abbrev pub over_places : {Val Msg Weight : Type 0} → (ℕ → ℕ) → Algorithm Val Msg Weight
    → Algorithm Val Msg Weight
over_places id a = record a { first = λ p. a.first (id p) }
