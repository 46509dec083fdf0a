-- What the folders of a run of the base form hold, where the children are the bundled ones.
use Rattle.std.specs.Prelude.{◌≡◌, ℕ, ◌<◌, ◌≤◌, ◌^◌, List, map, Some, length, decimal, slice_index}
use Rattle.std.specs.List.{range_with_len}
use Rattle.graph.specs.declared.edges.Edge.{Edge}
use Rattle.graph.specs.Edges.{AreBelow}
use Rattle.graph.specs.Entries.{Entry, hadi_entries}
use Rattle.graph.specs.Steps.{changed, iterate}
use Rattle.graph.specs.Walks.{AreLeast}
use Rattle.gimv_core.specs.Algebras.{Algebra}
use Rattle.edge_text.specs.Edges.{edges_of}
use Rattle.hadi.specs.Radii.{IsRadius}
use Rattle.conf.specs.declared.commands.Command.TheVariants.{Hcc, Hadi, PageRank}
use Rattle.conf.specs.declared.reading.Conf.{Conf}
use Rattle.mining.specs.declared.place.Place.TheVariants.{Vector, Results}
use Rattle.mining.specs.Flow.{mining_of, flow, count_of, last_of, most_of, total_in}
use Rattle.flow_core.specs.Following.{Giving}
use Rattle.flow_core.specs.Parts.{parts_with}
use Rattle.flow_base.specs.Layouts.{changed_in, sequence}
use Rattle.flow.specs.Children.{FollowsChildren}
use Rattle.flow.specs.Iterates.{IsBaseRun, IsLast, layout_of, result_of, changed_of, total_after}

-- edges that a matrix is made of: their nodes are below the number of nodes, and they are fewer than a
-- weight can count
pub record AreCountable (n : ℕ) (edges : List Edge) : Type 0 where
  pub below : AreBelow n edges
  pub few : length edges < 2 ^ 64

-- ---- vectors

-- the folder of iteration k has just the iterate, and its lines count what the iteration changed
pub record HasIterate (gives : Giving) (conf : Conf) (edges : List Edge) (k : ℕ) : Type 0 where
  pub vector : flow (mining_of gives conf edges) (Vector k) ≡ layout_of conf edges k
  pub count : count_of (mining_of gives conf edges) k ≡ Some (changed_of conf edges k)

abbrev pub BaseFlow : Type 0
BaseFlow =
    (gives : Giving) → FollowsChildren gives → (conf : Conf) → IsBaseRun conf → (edges : List Edge)
    → AreCountable conf.nodes edges
    → (k : ℕ) → HasIterate gives conf edges k

-- ---- the last iteration and the result

-- the flow has a last iteration, which is that of the iterates, and the result and its total are read from it
pub record HasResult (gives : Giving) (conf : Conf) (edges : List Edge) : Type 0 where
  pub last : ℕ
  pub is_last : last_of (mining_of gives conf edges) ≡ Some last
  pub first : IsLast conf (changed_of conf edges) last
  pub soon : last ≤ most_of conf conf.command
  pub result : flow (mining_of gives conf edges) Results ≡ result_of conf edges last
  pub total : total_in conf.command (flow (mining_of gives conf edges) Results)
      ≡ Some (total_after conf edges last)

abbrev pub BaseResult : Type 0
BaseResult =
    (gives : Giving) → FollowsChildren gives → (conf : Conf) → IsBaseRun conf → (edges : List Edge)
    → AreCountable conf.nodes edges
    → HasResult gives conf edges

-- ---- each command

-- the result has this number for each node
abbrev pub parts_of_numbers : Conf → (ℕ → ℕ) → List (List ℕ)
parts_of_numbers conf number =
    parts_with conf.reducers
    (map (λ node. (decimal node, decimal (number node))) (range_with_len 0 conf.nodes))

-- components end within as many iterations as there are nodes, and the result has the least label of each
-- node
pub record EndsAtLeastLabels (gives : Giving) (conf : Conf) (edges : List Edge) : Type 0 where
  pub last : ℕ
  pub is_last : last_of (mining_of gives conf edges) ≡ Some last
  pub soon : last ≤ conf.nodes
  pub least : (labels : List ℕ) → AreLeast conf.nodes edges labels
      → flow (mining_of gives conf edges) Results ≡ parts_of_numbers conf (λ node. slice_index labels node)

abbrev pub ComponentsEnd : Type 0
ComponentsEnd =
    (gives : Giving) → FollowsChildren gives → (conf : Conf) → IsBaseRun conf → conf.command ≡ Hcc
    → (edges : List Edge) → AreCountable conf.nodes edges
    → EndsAtLeastLabels gives conf edges

-- ranks end after as many iterations as were asked for
abbrev pub RanksEnd : Type 0
RanksEnd =
    (gives : Giving) → FollowsChildren gives → (conf : Conf) → IsBaseRun conf → conf.command ≡ PageRank
    → (edges : List Edge) → AreCountable conf.nodes edges
    → last_of (mining_of gives conf edges) ≡ Some conf.iters

-- radii end by the most hops, and the result has the radius of each node
pub record EndsAtRadii (gives : Giving) (conf : Conf) (edges : List Edge) : Type 0 where
  pub last : ℕ
  pub is_last : last_of (mining_of gives conf edges) ≡ Some last
  pub soon : last ≤ conf.hops
  pub radii : (radius : ℕ → ℕ)
      → ((node : ℕ) → node < conf.nodes → IsRadius conf.seed (hadi_entries conf.sym edges) last node
      (radius node))
      → flow (mining_of gives conf edges) Results ≡ parts_of_numbers conf radius

abbrev pub RadiiEnd : Type 0
RadiiEnd =
    (gives : Giving) → FollowsChildren gives → (conf : Conf) → IsBaseRun conf → conf.command ≡ Hadi
    → (edges : List Edge) → AreCountable conf.nodes edges
    → EndsAtRadii gives conf edges

-- ---- edges of a file

-- the accepted edges of any bytes are such edges
abbrev pub FileEdgesAreCountable : Type 0
FileEdgesAreCountable = (n : ℕ) (bytes : List ℕ) → AreCountable n (edges_of n bytes).edges

-- so for a file no premise is left on its edges
abbrev pub FileFlow : Type 0
FileFlow =
    (gives : Giving) → FollowsChildren gives → (conf : Conf) → IsBaseRun conf → (bytes : List ℕ)
    → (k : ℕ) → HasIterate gives conf (edges_of conf.nodes bytes).edges k

abbrev pub FileResult : Type 0
FileResult =
    (gives : Giving) → FollowsChildren gives → (conf : Conf) → IsBaseRun conf → (bytes : List ℕ)
    → HasResult gives conf (edges_of conf.nodes bytes).edges

-- ---- changes

-- what the lines of a folder count is what the steps count
abbrev pub ChangesAreCounted : Type 0 → Type 0 → Type 0 → Type 0
ChangesAreCounted Val Msg Weight =
    (a : Algebra Val Msg Weight) (entries : List (Entry Weight)) (n k : ℕ)
    → changed_in (sequence a (iterate a.algorithm entries)) n k ≡ changed a.algorithm entries n k
