use Rattle.std.proofs.Common.{◌≡◌, ◌++◌, length, take}
use Rattle.std.specs.List.{flat_map}
use Rattle.graph.specs.declared.edges.Edge.{Edge}
use Rattle.gimv_base.specs.Lines.{entry_line}
use Rattle.gimv_base.proofs.degrees.append_degrees.Given as goal

abbrev pub invariant-loop-edge : goal.invariant-loop-edge
invariant-loop-edge l =
    l.out.items ≡ l.fn.out.items ++ flat_map (λ (e : Edge). entry_line e.source e.target (length l.edges)) (take l.edge-index l.edges)
