-- Edges that are made from a seed.
use Rattle.std.specs.Prelude.{ℕ, zero, suc, ◌+◌, ◌*◌, ◌%◌, List, [], ◌∷◌}
use Rattle.graph.specs.declared.edges.Edge.{Edge}
use Rattle.edge_text.specs.Edges.{text_of}
use Rattle.rand_pcg.specs.Lcg.{Lcg, started, increment_of}
use Rattle.rand_pcg.specs.Pcg.{multiplier_64, pcg32}

-- the generator of a seed, on stream 54
abbrev pub generator : ℕ → Lcg
generator seed = started 64 multiplier_64 seed (increment_of 64 54)

-- word k that a generator gives, from 0
unfoldable pub word : Lcg → ℕ → ℕ
word g zero = (pcg32 g).0
word g (suc k) = word (pcg32 g).1 k

-- edge t among so many nodes, from 0: its source is word 2t, its target word 2t + 1
abbrev pub edge_at : Lcg → ℕ → ℕ → Edge
edge_at g nodes t = record { source = word g (2 * t) % nodes; target = word g (2 * t + 1) % nodes }

-- so many edges, from edge t on
unfoldable pub edges_from : Lcg → ℕ → ℕ → ℕ → List Edge
edges_from g nodes t zero = []
edges_from g nodes t (suc count) = edge_at g nodes t ∷ edges_from g nodes (t + 1) count

-- the edges of a seed
abbrev pub generated_edges : ℕ → ℕ → ℕ → List Edge
generated_edges count seed nodes = edges_from (generator seed) nodes 0 count

-- a line for each edge of a seed
abbrev pub generated_text : ℕ → ℕ → ℕ → List ℕ
generated_text count seed nodes = text_of (generated_edges count seed nodes)
