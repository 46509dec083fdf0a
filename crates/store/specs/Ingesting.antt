-- The edges of a source as text, and how a folder's edges are judged against them.
use Rattle.std.specs.Prelude.{◌≡◌, ◌≢◌, ℕ, List, Option, None, Some, IfSome, Result, Ok, Err, ⊤}
use Rattle.dir_disk.specs.Streams.{onto}
use Rattle.edge_text.specs.declared.fault.EdgeFault.{EdgeFault}
use Rattle.edge_text.specs.declared.fault.EdgeFault.TheVariants as Text
use Rattle.edge_text.specs.Edges.{Reading, edges_of, text_of}
use Rattle.edge_text.specs.Feeding.{State, begun, fed, fed_edges, fault_of}
use Rattle.store.specs.declared.edges.Next.{Next}
use Rattle.store.specs.declared.fault.IngestFault.{IngestFault}
use Rattle.store.specs.declared.fault.IngestFault.TheVariants as Ingest
use Rattle.store.specs.Differing.{common, parting_line}

-- the text of the edges that are accepted of these bytes, where ids are below n
abbrev pub accepted_text : ℕ → List ℕ → List ℕ
accepted_text n bytes = text_of (edges_of n bytes).edges

-- ---- how the text of a source's edges comes

-- a reader of n nodes was fed all that a source gave so far, reads on, and this is the text of its edges
pub record HasFed (n : ℕ) (before now : Option (List ℕ)) (reader : State) (text : List ℕ) : Type 0 where
  pub sofar : List ℕ
  pub given : before ≡ onto sofar now
  pub stands : reader ≡ fed (begun n) sofar
  pub edges : text ≡ text_of (fed_edges (begun n) sofar)
  pub reads_on : fault_of reader ≡ None

-- this is the text of all accepted edges, and the refusal
abbrev pub HasRead : ℕ → Option (List ℕ) → List ℕ → Option EdgeFault → Type 0
HasRead n before text refusal =
    IfSome before (λ bytes. (accepted_text n bytes ≡ text) × ((edges_of n bytes).refusal ≡ refusal))

abbrev pub IsNext : ℕ → Option (List ℕ) → Option (List ℕ) → State → List ℕ → Next → Type 0
IsNext n before now reader text Next.More = HasFed n before now reader text
IsNext n before now reader text Next.End = HasRead n before text None
IsNext n before now reader text (Next.Refused fault) = HasRead n before text (Some fault)

-- what becomes of a refusal: want of memory is a fault of its own
abbrev pub IsPassedOn : EdgeFault → Result Next IngestFault → Type 0
IsPassedOn (Text.BadEdge line) result = result ≡ Ok (Next.Refused (Text.BadEdge line))
IsPassedOn (Text.BigNode line id) result = result ≡ Ok (Next.Refused (Text.BigNode line id))
IsPassedOn Text.TooLarge result = result ≡ Ok (Next.Refused Text.TooLarge)
IsPassedOn Text.NoMemory result = result ≡ Err Ingest.NoMemory

-- want of memory alone
abbrev pub IsOfMemory : IngestFault → Type 0
IsOfMemory fault = fault ≡ Ingest.NoMemory

-- a fault of a source, or want of memory
abbrev pub IsOfSource : IngestFault → Type 0
IsOfSource (Ingest.BadEdge line) = ⊥
IsOfSource (Ingest.BigNode line id) = ⊥
IsOfSource Ingest.TooLarge = ⊥
IsOfSource (Ingest.OtherEdges line) = ⊥
IsOfSource Ingest.Disk = ⊥
IsOfSource Ingest.Read = ⊤
IsOfSource Ingest.NoMemory = ⊤

-- a fault of a directory, or want of memory
abbrev pub IsOfDirectory : IngestFault → Type 0
IsOfDirectory (Ingest.BadEdge line) = ⊥
IsOfDirectory (Ingest.BigNode line id) = ⊥
IsOfDirectory Ingest.TooLarge = ⊥
IsOfDirectory (Ingest.OtherEdges line) = ⊥
IsOfDirectory Ingest.Disk = ⊤
IsOfDirectory Ingest.Read = ⊥
IsOfDirectory Ingest.NoMemory = ⊤

-- ---- how edges that stand in a folder are judged

-- the file and the text of the accepted edges part in this line; where the text is a front of the file,
-- nothing is refused
pub record DiffersFirst (file text : List ℕ) (refusal : Option EdgeFault) (line : ℕ) : Type 0 where
  pub number : line ≡ parting_line file text
  pub first : common file text ≡ text → (refusal ≡ None) × (file ≢ text)

-- a record is refused so, and the file begins with the text of the edges before it
abbrev pub IsRefused : List ℕ → Reading → EdgeFault → Type 0
IsRefused file reading fault =
    (common file (text_of reading.edges) ≡ text_of reading.edges) × (reading.refusal ≡ Some fault)

-- how edges that are read from a source compare with the bytes of a file
abbrev pub IsJudged : List ℕ → Reading → Result (Unit {0}) IngestFault → Type 0
IsJudged file reading (Ok done) = (file ≡ text_of reading.edges) × (reading.refusal ≡ None)
IsJudged file reading (Err (Ingest.BadEdge line)) = IsRefused file reading (Text.BadEdge line)
IsJudged file reading (Err (Ingest.BigNode line id)) = IsRefused file reading (Text.BigNode line id)
IsJudged file reading (Err Ingest.TooLarge) = IsRefused file reading Text.TooLarge
IsJudged file reading (Err (Ingest.OtherEdges line)) =
    DiffersFirst file (text_of reading.edges) reading.refusal line
IsJudged file reading (Err Ingest.Disk) = ⊤
IsJudged file reading (Err Ingest.Read) = ⊤
IsJudged file reading (Err Ingest.NoMemory) = ⊤

-- ---- how edges are written

-- why the edges of a source are not written: what was refused of it, or a fault of the outside
abbrev pub IsReasonOf : Reading → IngestFault → Type 0
IsReasonOf reading (Ingest.BadEdge line) = reading.refusal ≡ Some (Text.BadEdge line)
IsReasonOf reading (Ingest.BigNode line id) = reading.refusal ≡ Some (Text.BigNode line id)
IsReasonOf reading Ingest.TooLarge = reading.refusal ≡ Some Text.TooLarge
IsReasonOf reading (Ingest.OtherEdges line) = ⊥
IsReasonOf reading Ingest.Disk = ⊤
IsReasonOf reading Ingest.Read = ⊤
IsReasonOf reading Ingest.NoMemory = ⊤
