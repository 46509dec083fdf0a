-- What the folders of a run of the block form hold, where the children are the bundled ones.
use Rattle.std.specs.Prelude.{◌≡◌, ℕ, List, Some, true}
use Rattle.graph.specs.declared.edges.Edge.{Edge}
use Rattle.edge_text.specs.Edges.{edges_of}
use Rattle.conf.specs.declared.commands.Form.TheVariants.{Block}
use Rattle.conf.specs.declared.reading.Conf.{Conf}
use Rattle.conf.specs.Commands.{is_mining}
use Rattle.conf.specs.Limits.{IsWithinLimits}
use Rattle.mining.specs.declared.place.Place.TheVariants.{Vector}
use Rattle.mining.specs.Flow.{mining_of, flow, count_of}
use Rattle.flow_core.specs.Following.{Giving}
use Rattle.flow_block.specs.BlockLayouts.{block_layout}
use Rattle.flow.specs.Children.{FollowsChildren}
use Rattle.flow.specs.Iterates.{iterates_of, changed_of}
use Rattle.flow.specs.Laws.{AreCountable}
use Rattle.flow_forms.specs.AsBase.{EndsAsBase}
use Rattle.flow_forms.specs.Held.{KeepsIterations}

-- a run of the block form
pub record IsBlockRun (conf : Conf) : Type 0 where
  pub limits : IsWithinLimits conf
  pub mines : is_mining conf.command ≡ true
  pub form : conf.form ≡ Block

-- the parts of the folder of iteration k: the iterate, block by block
abbrev pub block_layout_of : Conf → List Edge → ℕ → List (List ℕ)
block_layout_of conf edges k = block_layout (iterates_of conf edges) conf.block conf.nodes conf.reducers k

-- the folder of iteration k has just the iterate, and its lines count what the iteration changed
pub record HasBlockIterate (gives : Giving) (conf : Conf) (edges : List Edge) (k : ℕ) : Type 0 where
  pub vector : flow (mining_of gives conf edges) (Vector k) ≡ block_layout_of conf edges k
  pub count : count_of (mining_of gives conf edges) k ≡ Some (changed_of conf edges k)

abbrev pub BlockFlow : Type 0
BlockFlow =
    (gives : Giving) → FollowsChildren gives → (conf : Conf) → IsBlockRun conf → (edges : List Edge)
    → AreCountable conf.nodes edges
    → (k : ℕ) → HasBlockIterate gives conf edges k

-- the run ends as that of the base form does
abbrev pub BlockEndsAsBase : Type 0
BlockEndsAsBase =
    (gives : Giving) → FollowsChildren gives → (conf : Conf) → IsBlockRun conf → (edges : List Edge)
    → AreCountable conf.nodes edges
    → EndsAsBase gives conf edges

-- wherever a machine stops, what is kept holds whole iterations, each so many steps, and the result of the
-- last one
abbrev pub BlockKeepsIterates : Type 0
BlockKeepsIterates =
    (gives : Giving) → FollowsChildren gives → (conf : Conf) → IsBlockRun conf → (edges : List Edge)
    → AreCountable conf.nodes edges
    → KeepsIterations gives conf edges (iterates_of conf edges) (block_layout_of conf edges)

-- ---- edges of a file

-- for a file no premise is left on its edges
abbrev pub FileBlockFlow : Type 0
FileBlockFlow =
    (gives : Giving) → FollowsChildren gives → (conf : Conf) → IsBlockRun conf → (bytes : List ℕ)
    → (k : ℕ) → HasBlockIterate gives conf (edges_of conf.nodes bytes).edges k

abbrev pub FileBlockEndsAsBase : Type 0
FileBlockEndsAsBase =
    (gives : Giving) → FollowsChildren gives → (conf : Conf) → IsBlockRun conf → (bytes : List ℕ)
    → EndsAsBase gives conf (edges_of conf.nodes bytes).edges
