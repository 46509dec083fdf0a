-- What the role `edges` makes of a record of an edge list.
use Rattle.std.specs.Prelude.{ℕ, List, Option, Some, None}
use Rattle.edge_text.specs.declared.fault.EdgeFault.{EdgeFault}
use Rattle.edge_text.specs.Edges.{Reading, edges_of, text_of}
use Rattle.gimv_base.specs.Lines.{with_lf}
use Rattle.gimv_base.specs.Rules.{Rule, ByRecord}

-- a text of an edge list that is refused gives nothing
abbrev pub unless_refused : Option EdgeFault → List ℕ → Option (List ℕ)
unless_refused None text = Some text
unless_refused (Some fault) text = None

-- the lines of all edges
abbrev pub accepted_text : Reading → Option (List ℕ)
accepted_text reading = unless_refused reading.refusal (text_of reading.edges)

-- `edges`: each record as an edge list by itself
abbrev pub edges_rule : ℕ → Rule
edges_rule n = ByRecord (λ r. accepted_text (edges_of n (with_lf r)))
