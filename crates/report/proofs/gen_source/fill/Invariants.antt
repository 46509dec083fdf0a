use Rattle.std.proofs.Common.{◌≡◌, ◌++◌, length}
use Rattle.edge_text.specs.Edges.{text_of}
use Rattle.report.proofs.gen_source.fill.Given as goal

abbrev pub invariant-loop-alloc : goal.invariant-loop-alloc
invariant-loop-alloc l =
    l.text.items ++ text_of l.edges ≡ l.initial.text.items ++ text_of l.initial.edges

abbrev pub decreases-loop-alloc : goal.decreases-loop-alloc
decreases-loop-alloc l = length l.edges
