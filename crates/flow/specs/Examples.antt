-- The folders of a small graph: three nodes on a path, two joined by an edge, and one alone.
use Rattle.std.specs.Prelude.{◌≡◌, true, false, [], ◌∷◌, codes, Some, None}
use Rattle.graph.specs.Examples.{three_edges}
use Rattle.conf.specs.declared.commands.Command.TheVariants.{Hcc}
use Rattle.conf.specs.declared.commands.Form.TheVariants.{Base}
use Rattle.conf.specs.declared.reading.Conf.{Conf}
use Rattle.mining.specs.declared.place.Place.TheVariants.{Vector, Results}
use Rattle.mining.specs.Flow.{Mining, mining_of, count_of, flow, last_of, total_in}
use Rattle.flow_base.specs.Layouts.{Sequence, layout, result_parts}
use Rattle.flow.specs.Children.{bundled}
use Rattle.flow.specs.Iterates.{changed_of, iterates_by}

-- its components, in splits of 4 bytes and two parts
abbrev pub small_conf : Conf
small_conf =
    record {
      command = Hcc;
      nodes = 6;
      reducers = 2;
      split = 4;
      slots = 1;
      spill = 1024;
      backup = false;
      form = Base;
      block = 1;
      iters = 1;
      hops = 1;
      seed = 0;
      sym = true;
      generated = None;
    }

abbrev pub labels : Sequence
labels = iterates_by Hcc small_conf three_edges

-- its vectors and its result in one part, and one of its vectors in two
abbrev pub LayoutByExample : Type 0
LayoutByExample =
    (layout labels 6 1 0 ≡ codes "0\tV 1 0\n1\tV 1 1\n2\tV 1 2\n3\tV 1 3\n4\tV 1 4\n5\tV 1 5\n" ∷ [])
    × (layout labels 6 1 1 ≡ codes "0\tV 0 0\n1\tV 1 0\n2\tV 1 1\n3\tV 0 3\n4\tV 1 3\n5\tV 0 5\n" ∷ [])
    × (layout labels 6 1 2 ≡ codes "0\tV 0 0\n1\tV 0 0\n2\tV 1 0\n3\tV 0 3\n4\tV 0 3\n5\tV 0 5\n" ∷ [])
    × (layout labels 6 1 3 ≡ codes "0\tV 0 0\n1\tV 0 0\n2\tV 0 0\n3\tV 0 3\n4\tV 0 3\n5\tV 0 5\n" ∷ [])
    × (layout labels 6 2 2
    ≡ codes "1\tV 0 0\n3\tV 0 3\n5\tV 0 5\n" ∷ codes "0\tV 0 0\n2\tV 1 0\n4\tV 0 3\n" ∷ [])
    × (result_parts labels 6 1 3 ≡ codes "0\t0\n1\t0\n2\t0\n3\t3\n4\t3\n5\t5\n" ∷ [])

-- how many nodes each iteration changed
abbrev pub ChangesByExample : Type 0
ChangesByExample =
    (changed_of small_conf three_edges 0 ≡ 6)
    × (changed_of small_conf three_edges 1 ≡ 3)
    × (changed_of small_conf three_edges 2 ≡ 1)
    × (changed_of small_conf three_edges 3 ≡ 0)

abbrev pub small : Mining
small = mining_of bundled small_conf three_edges

-- what the jobs leave where the children are those of the definition: an iteration and its count, the last
-- iteration, the result, and its three components
abbrev pub FlowByExample : Type 0
FlowByExample =
    (flow small (Vector 2)
    ≡ codes "1\tV 0 0\n3\tV 0 3\n5\tV 0 5\n" ∷ codes "0\tV 0 0\n2\tV 1 0\n4\tV 0 3\n" ∷ [])
    × (count_of small 2 ≡ Some 1)
    × (last_of small ≡ Some 3)
    × (flow small Results ≡ codes "1\t0\n3\t3\n5\t5\n" ∷ codes "0\t0\n2\t0\n4\t3\n" ∷ [])
    × (total_in Hcc (flow small Results) ≡ Some 3)
