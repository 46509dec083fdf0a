-- The entries of the matrices that the algorithms make of a list of edges.
use Rattle.std.specs.Prelude.{ℕ, ◌==◌, Bool, List, [], ◌∷◌, map, count_by, if◌then◌else◌}
use Rattle.std.specs.List.{flat_map}
use Rattle.graph.specs.declared.edges.Edge.{Edge}
use Rattle.graph.specs.declared.edges.One.{One}

-- an entry of a matrix: its row takes in what its column sends
pub record Entry (Weight : Type 0) : Type 0 where
  pub row : ℕ
  pub column : ℕ
  pub weight : Weight

-- the entry of a pair of nodes, where all entries weigh the same
abbrev pub plain_entry : ℕ → ℕ → Entry One
plain_entry row column = record { row = row; column = column; weight = record {} }

-- the source of each edge takes in what its target sends
abbrev pub one_way : List Edge → List (Entry One)
one_way edges = map (λ (e : Edge). plain_entry e.source e.target) edges

-- the two nodes of each edge take in what the other one sends
abbrev pub both_ways : List Edge → List (Entry One)
both_ways edges = flat_map (λ (e : Edge). plain_entry e.source e.target ∷ plain_entry e.target e.source ∷ []) edges

-- how many edges of the list leave a node
abbrev pub out_degree : List Edge → ℕ → ℕ
out_degree edges node = count_by (λ (e : Edge). e.source == node) edges

-- the target of each edge takes in what its source sends, weighed by how many edges leave the source
abbrev pub by_degree : List Edge → List (Entry ℕ)
by_degree edges = map (λ (e : Edge). record { row = e.target; column = e.source; weight = out_degree edges e.source }) edges

-- the entries of the three algorithms
abbrev pub hcc_entries : List Edge → List (Entry One)
hcc_entries edges = both_ways edges

abbrev pub hadi_entries : Bool → List Edge → List (Entry One)
hadi_entries symmetric edges = if symmetric then both_ways edges else one_way edges

abbrev pub page_rank_entries : List Edge → List (Entry ℕ)
page_rank_entries edges = by_degree edges
