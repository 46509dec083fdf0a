use Rattle.std.proofs.Common.{◌≡◌, ◌++◌, take}
use Rattle.edge_text.specs.Edges.{text_of}
use Rattle.edge_text.proofs.text.append_edges.Given as goal

abbrev pub invariant-loop-edge : goal.invariant-loop-edge
invariant-loop-edge l = l.text.items ≡ l.initial.text.items ++ text_of (take l.edge-index l.edges)
