-- What the folders of a run of the diagonal form hold, where the children are the bundled ones.
use Rattle.std.specs.Prelude.{◌≡◌, ℕ, List, Some}
use Rattle.graph.specs.declared.edges.Edge.{Edge}
use Rattle.gimv_diag.specs.Diagonal.{diagonal_changed}
use Rattle.edge_text.specs.Edges.{edges_of}
use Rattle.conf.specs.declared.commands.Form.TheVariants.{Diagonal}
use Rattle.conf.specs.declared.reading.Conf.{Conf}
use Rattle.conf.specs.Limits.{IsWithinLimits}
use Rattle.mining.specs.declared.place.Place.TheVariants.{Vector}
use Rattle.mining.specs.Flow.{mining_of, flow, count_of}
use Rattle.flow_core.specs.Following.{Giving}
use Rattle.flow_base.specs.Layouts.{Sequence}
use Rattle.flow_block.specs.BlockLayouts.{block_layout}
use Rattle.flow_diag.specs.Laws.{diagonal_labels}
use Rattle.flow.specs.Children.{FollowsChildren}
use Rattle.flow.specs.Laws.{AreCountable}
use Rattle.flow_forms.specs.AsBase.{HasBaseResult}
use Rattle.flow_forms.specs.Ends.{EndsWith}
use Rattle.flow_forms.specs.Held.{KeepsIterations}

-- a run of the diagonal form, which within the limits is one of components
pub record IsDiagonalRun (conf : Conf) : Type 0 where
  pub limits : IsWithinLimits conf
  pub form : conf.form ≡ Diagonal

-- its labels: each iteration closes those of each block before it makes a step
abbrev pub labels_of : Conf → List Edge → Sequence
labels_of conf edges = diagonal_labels conf.block edges

-- the parts of the folder of iteration k: these labels, block by block
abbrev pub diagonal_layout_of : Conf → List Edge → ℕ → List (List ℕ)
diagonal_layout_of conf edges k = block_layout (labels_of conf edges) conf.block conf.nodes conf.reducers k

-- the folder of iteration k has just the labels, and its lines count what the iteration changed
pub record HasDiagonalLabels (gives : Giving) (conf : Conf) (edges : List Edge) (k : ℕ) : Type 0 where
  pub vector : flow (mining_of gives conf edges) (Vector k) ≡ diagonal_layout_of conf edges k
  pub count : count_of (mining_of gives conf edges) k ≡ Some (diagonal_changed conf.block edges conf.nodes k)

abbrev pub DiagonalFlow : Type 0
DiagonalFlow =
    (gives : Giving) → FollowsChildren gives → (conf : Conf) → IsDiagonalRun conf → (edges : List Edge)
    → AreCountable conf.nodes edges
    → (k : ℕ) → HasDiagonalLabels gives conf edges k

-- the run has its own last iteration, and the bytes of the base form's result
pub record DiagonalEnd (gives : Giving) (conf : Conf) (edges : List Edge) : Type 0 where
  pub ends : EndsWith gives conf edges (labels_of conf edges)
  pub result : HasBaseResult gives conf edges

abbrev pub DiagonalEndsAsBase : Type 0
DiagonalEndsAsBase =
    (gives : Giving) → FollowsChildren gives → (conf : Conf) → IsDiagonalRun conf → (edges : List Edge)
    → AreCountable conf.nodes edges
    → DiagonalEnd gives conf edges

-- wherever a machine stops, what is kept holds whole iterations, and the result of the last one
abbrev pub DiagonalKeepsLabels : Type 0
DiagonalKeepsLabels =
    (gives : Giving) → FollowsChildren gives → (conf : Conf) → IsDiagonalRun conf → (edges : List Edge)
    → AreCountable conf.nodes edges
    → KeepsIterations gives conf edges (labels_of conf edges) (diagonal_layout_of conf edges)

-- ---- edges of a file

-- for a file no premise is left on its edges
abbrev pub FileDiagonalFlow : Type 0
FileDiagonalFlow =
    (gives : Giving) → FollowsChildren gives → (conf : Conf) → IsDiagonalRun conf → (bytes : List ℕ)
    → (k : ℕ) → HasDiagonalLabels gives conf (edges_of conf.nodes bytes).edges k

abbrev pub FileDiagonalEndsAsBase : Type 0
FileDiagonalEndsAsBase =
    (gives : Giving) → FollowsChildren gives → (conf : Conf) → IsDiagonalRun conf → (bytes : List ℕ)
    → DiagonalEnd gives conf (edges_of conf.nodes bytes).edges
