-- The folders of small graphs in blocks: a path of four nodes, and two nodes for ranks.
use Rattle.std.specs.Prelude.{◌≡◌, decimal, true, false, List, [], ◌∷◌, codes, Some, None}
use Rattle.graph.specs.declared.edges.Edge.{Edge}
use Rattle.graph.specs.Examples.{from_to}
use Rattle.conf.specs.declared.commands.Command.TheVariants.{Hcc, PageRank}
use Rattle.conf.specs.declared.commands.Form.TheVariants.{Block, Diagonal}
use Rattle.conf.specs.declared.reading.Conf.{Conf}
use Rattle.mining.specs.declared.place.Place.TheVariants.{Vector, Results}
use Rattle.mining.specs.Flow.{Mining, mining_of, count_of, flow, last_of, total_in}
use Rattle.flow_core.specs.Parts.{parts_with}
use Rattle.flow_base.specs.Layouts.{Sequence}
use Rattle.flow_block.specs.BlockLayouts.{block_layout}
use Rattle.flow_diag.specs.Laws.{diagonal_labels}
use Rattle.flow.specs.Children.{bundled}
use Rattle.flow.specs.Iterates.{iterates_by}

abbrev pub path_edges : List Edge
path_edges = from_to 0 1 ∷ from_to 1 2 ∷ from_to 2 3 ∷ []

-- its components, in blocks of two nodes
abbrev pub path_conf : Conf
path_conf =
    record {
      command = Hcc;
      nodes = 4;
      reducers = 1;
      split = 4;
      slots = 1;
      spill = 1024;
      backup = false;
      form = Block;
      block = 2;
      iters = 1;
      hops = 1;
      seed = 0;
      sym = true;
      generated = None;
    }

abbrev pub path_labels : Sequence
path_labels = iterates_by Hcc path_conf path_edges

-- its vectors in blocks of two nodes; and one of them in two parts, in blocks of three nodes, of which the
-- last is shorter
abbrev pub BlocksByExample : Type 0
BlocksByExample =
    (block_layout path_labels 2 4 1 0 ≡ codes "0\tV 2 0,1\n1\tV 2 2,3\n" ∷ [])
    × (block_layout path_labels 2 4 1 1 ≡ codes "0\tV 1 0,0\n1\tV 2 1,2\n" ∷ [])
    × (block_layout path_labels 2 4 1 2 ≡ codes "0\tV 0 0,0\n1\tV 2 0,1\n" ∷ [])
    × (block_layout path_labels 2 4 1 3 ≡ codes "0\tV 0 0,0\n1\tV 1 0,0\n" ∷ [])
    × (block_layout path_labels 2 4 1 4 ≡ codes "0\tV 0 0,0\n1\tV 0 0,0\n" ∷ [])
    × (block_layout path_labels 3 4 2 1 ≡ codes "1\tV 1 2\n" ∷ codes "0\tV 2 0,0,1\n" ∷ [])

abbrev pub path : Mining
path = mining_of bundled path_conf path_edges

-- what the jobs leave where the children are those of the definition: an iteration and its count, the last
-- iteration, the result, and its one component
abbrev pub BlockFlowByExample : Type 0
BlockFlowByExample =
    (flow path (Vector 2) ≡ codes "0\tV 0 0,0\n1\tV 2 0,1\n" ∷ [])
    × (count_of path 2 ≡ Some 2)
    × (last_of path ≡ Some 4)
    × (flow path Results ≡ codes "0\t0\n1\t0\n2\t0\n3\t0\n" ∷ [])
    × (total_in Hcc (flow path Results) ≡ Some 1)

-- ---- closed labels

-- the same path in the diagonal form
abbrev pub closed_conf : Conf
closed_conf = record path_conf { form = Diagonal }

-- its labels in blocks of two nodes, where each iteration closes them within the blocks first, and in one
-- block
abbrev pub ClosedByExample : Type 0
ClosedByExample =
    (block_layout (diagonal_labels 2 path_edges) 2 4 1 0 ≡ codes "0\tV 2 0,1\n1\tV 2 2,3\n" ∷ [])
    × (block_layout (diagonal_labels 2 path_edges) 2 4 1 1 ≡ codes "0\tV 1 0,0\n1\tV 2 0,2\n" ∷ [])
    × (block_layout (diagonal_labels 2 path_edges) 2 4 1 2 ≡ codes "0\tV 0 0,0\n1\tV 1 0,0\n" ∷ [])
    × (block_layout (diagonal_labels 2 path_edges) 2 4 1 3 ≡ codes "0\tV 0 0,0\n1\tV 0 0,0\n" ∷ [])
    × (block_layout (diagonal_labels 4 path_edges) 4 4 1 1 ≡ codes "0\tV 3 0,0,0,0\n" ∷ [])

-- what the jobs leave: an iteration and its count, the last iteration, which comes before that of plain
-- steps, and the result
abbrev pub DiagonalFlowByExample : Type 0
DiagonalFlowByExample =
    (flow (mining_of bundled closed_conf path_edges) (Vector 1) ≡ codes "0\tV 1 0,0\n1\tV 2 0,2\n" ∷ [])
    × (count_of (mining_of bundled closed_conf path_edges) 1 ≡ Some 3)
    × (last_of (mining_of bundled closed_conf path_edges) ≡ Some 3)
    × (flow (mining_of bundled closed_conf path_edges) Results ≡ codes "0\t0\n1\t0\n2\t0\n3\t0\n" ∷ [])

-- ---- ranks

-- an edge and a loop, in one block of two nodes
abbrev pub loop_edges : List Edge
loop_edges = from_to 0 1 ∷ from_to 1 1 ∷ []

abbrev pub loop_conf : Conf
loop_conf = record path_conf { command = PageRank; nodes = 2 }

-- what one iteration leaves: the share of each message is rounded down by itself, and not the sum of a block
abbrev pub BlockRanksByExample : Type 0
BlockRanksByExample =
    flow (mining_of bundled loop_conf loop_edges) Results
    ≡ parts_with 1 ((decimal 0, decimal 322122547) ∷ (decimal 1, decimal 3972844747) ∷ [])
