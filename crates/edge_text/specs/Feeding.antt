-- What a reader is between two bytes, and what each byte brings.
use Rattle.std.specs.Prelude.{ℕ, ◌+◌, List, [], ◌∷◌, ◌++◌, ◌==◌, Option, None, Some, nat_le, if◌then◌else◌}
use Rattle.graph.specs.declared.edges.Edge.{Edge}
use Rattle.edge_text.specs.declared.fault.EdgeFault.{EdgeFault}
use Rattle.edge_text.specs.declared.fault.EdgeFault.TheVariants.{BadEdge, BigNode, TooLarge}
use Rattle.edge_text.specs.declared.verdict.Verdict.{Verdict}
use Rattle.edge_text.specs.declared.verdict.Verdict.TheVariants.{Skipped, Accepted, Bad, Big}
use Rattle.edge_text.specs.Verdicts.{verdict_of}
use Rattle.edge_text.specs.Edges.{Reading, most_bytes}

-- a reader reads on, with the number of the next record, the bytes of it that are held and the count of all bytes, or it has refused them
pub data State : Type 0 where
  Reads : (nodes line : ℕ) (held : List ℕ) (taken : ℕ) → State
  Refused : (nodes : ℕ) (fault : EdgeFault) → State

-- before the first byte
abbrev pub begun : ℕ → State
begun n = Reads n 1 [] 0

-- after the record with this number
abbrev pub after_record : ℕ → ℕ → ℕ → Verdict → State
after_record n line taken Skipped = Reads n (line + 1) [] taken
after_record n line taken (Accepted edge) = Reads n (line + 1) [] taken
after_record n line taken Bad = Refused n (BadEdge line)
after_record n line taken (Big id) = Refused n (BigNode line id)

-- the edge that a record brings
abbrev pub edge_in : Verdict → List Edge
edge_in Skipped = []
edge_in (Accepted edge) = edge ∷ []
edge_in Bad = []
edge_in (Big id) = []

-- after one byte
abbrev pub after_byte : State → ℕ → State
after_byte (Reads n line held taken) b =
    if nat_le most_bytes taken then Refused n TooLarge
    else (if b == 10 then after_record n line (taken + 1) (verdict_of n held) else Reads n line (held ++ b ∷ []) (taken + 1))
after_byte (Refused n fault) b = Refused n fault

-- the edge that one byte brings: the LF that ends its record
abbrev pub edges_at : State → ℕ → List Edge
edges_at (Reads n line held taken) b =
    if nat_le most_bytes taken then [] else (if b == 10 then edge_in (verdict_of n held) else [])
edges_at (Refused n fault) b = []

-- after all bytes of a piece
abbrev pub fed : State → List ℕ → State
fed s [] = s
fed s (b ∷ bs) = fed (after_byte s b) bs

-- the edges that a piece brings
abbrev pub fed_edges : State → List ℕ → List Edge
fed_edges s [] = []
fed_edges s (b ∷ bs) = edges_at s b ++ fed_edges (after_byte s b) bs

-- after the end of the source: what is held is the last record, unless it is nothing
abbrev pub ended : State → State
ended (Reads n line [] taken) = Reads n line [] taken
ended (Reads n line (b ∷ bs) taken) = after_record n line taken (verdict_of n (b ∷ bs))
ended (Refused n fault) = Refused n fault

-- the edge that the end brings
abbrev pub ended_edges : State → List Edge
ended_edges (Reads n line [] taken) = []
ended_edges (Reads n line (b ∷ bs) taken) = edge_in (verdict_of n (b ∷ bs))
ended_edges (Refused n fault) = []

-- the refusal at which a reader stands
abbrev pub fault_of : State → Option EdgeFault
fault_of (Reads n line held taken) = None
fault_of (Refused n fault) = Some fault

-- the number of nodes of a reader
abbrev pub nodes_of : State → ℕ
nodes_of (Reads n line held taken) = n
nodes_of (Refused n fault) = n

-- how many bytes a reader has taken that reads on
abbrev pub taken_of : State → ℕ
taken_of (Reads n line held taken) = taken
taken_of (Refused n fault) = 0

-- what is read where further pieces are fed to a reader one by one, and then the end
abbrev pub reading_in_pieces : State → List (List ℕ) → Reading
reading_in_pieces s [] = record { edges = ended_edges s; refusal = fault_of (ended s) }
reading_in_pieces s (piece ∷ pieces) =
    let later = reading_in_pieces (fed s piece) pieces in
    record { edges = fed_edges s piece ++ later.edges; refusal = later.refusal }
