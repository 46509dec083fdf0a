-- The edges of a whole edge list.
use Rattle.std.specs.Prelude.{ℕ, ◌+◌, ◌^◌, List, [], ◌∷◌, Option, None, Some, length, take, decimal, nat_le, if◌then◌else◌}
use Rattle.std.specs.List.{flat_map}
use Rattle.graph.specs.declared.edges.Edge.{Edge}
use Rattle.peg_text.specs.Pairs.{pair_line}
use Rattle.peg_text.specs.Records.{cut_of, records_of}
use Rattle.edge_text.specs.declared.fault.EdgeFault.{EdgeFault}
use Rattle.edge_text.specs.declared.fault.EdgeFault.TheVariants.{BadEdge, BigNode, TooLarge}
use Rattle.edge_text.specs.declared.verdict.Verdict.{Verdict}
use Rattle.edge_text.specs.declared.verdict.Verdict.TheVariants.{Skipped, Accepted, Bad, Big}
use Rattle.edge_text.specs.Verdicts.{verdict_of}

-- the accepted edges up to the first refusal, and that refusal
pub record Reading : Type 0 where
  pub edges : List Edge
  pub refusal : Option EdgeFault

-- a record with this number, and what is read after it
abbrev pub read_first : ℕ → Verdict → Reading → Reading
read_first line Skipped later = later
read_first line (Accepted edge) later = record { edges = edge ∷ later.edges; refusal = later.refusal }
read_first line Bad later = record { edges = []; refusal = Some (BadEdge line) }
read_first line (Big id) later = record { edges = []; refusal = Some (BigNode line id) }

-- what is read from records where there are n nodes, and the first record has this number
abbrev pub reading_of : ℕ → ℕ → List (List ℕ) → Reading
reading_of n line [] = record { edges = []; refusal = None }
reading_of n line (text ∷ texts) = read_first line (verdict_of n text) (reading_of n (line + 1) texts)

-- nothing read, and nothing refused
abbrev pub nothing : Reading
nothing = record { edges = []; refusal = None }

-- the most bytes of an edge list
abbrev pub most_bytes : ℕ
most_bytes = 2 ^ 36

-- the bytes are too many, unless something else was refused
abbrev pub or_too_large : Option EdgeFault → Option EdgeFault
or_too_large None = Some TooLarge
or_too_large (Some fault) = Some fault

-- what is read from the records that an LF among the first bytes ends
abbrev pub edges_so_far : ℕ → List ℕ → Reading
edges_so_far n bytes =
    let first = reading_of n 1 (cut_of (take most_bytes bytes)).whole in
    if nat_le (length bytes) most_bytes then first
    else record { edges = first.edges; refusal = or_too_large first.refusal }

-- what is read from all the bytes, where no further ones follow
abbrev pub edges_of : ℕ → List ℕ → Reading
edges_of n bytes = if nat_le (length bytes) most_bytes then reading_of n 1 (records_of bytes) else edges_so_far n bytes

-- an edge as a line
abbrev pub line_of : Edge → List ℕ
line_of edge = pair_line (decimal edge.source) (decimal edge.target)

-- a line for each edge
abbrev pub text_of : List Edge → List ℕ
text_of edges = flat_map line_of edges
