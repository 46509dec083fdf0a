-- What the command `plain` reads and says.
use Rattle.std.specs.Prelude.{◌≡◌, ℕ, ◌⊎◌, ⊤, List, Option, Some, None, IfSome}
use Rattle.graph.specs.declared.edges.Edge.{Edge}
use Rattle.graph.specs.Walks.{AreLeast}
use Rattle.dir_disk.specs.Streams.{AddsPart, AtEnd, added}
use Rattle.edge_text.specs.declared.fault.EdgeFault.{EdgeFault}
use Rattle.edge_text.specs.declared.fault.EdgeFault.TheVariants as Text
use Rattle.edge_text.specs.Edges.{edges_of}
use Rattle.driver.specs.declared.outcome.Outcome.{Outcome}
use Rattle.driver.specs.declared.outcome.Outcome.TheVariants.{Done, Usage, BadEdge, BigNode, TooLarge, OtherJob, OtherEdges, BadStore, TaskFailed, DiskFault, ReadFault, SayFault, NoMemory}
use Rattle.driver.specs.Lines.{lines_from}
use Rattle.conf.specs.declared.reading.Conf.{Conf as Settings}
use Rattle.driver.specs.Running.{bytes_for}
use Rattle.driver.specs.Words.{MeanPlain}

-- of n nodes: nothing of the bytes that the source has left is refused, as far as it tells them, and these are their edges
abbrev pub HasEdges : ℕ → Option (List ℕ) → List Edge → Type 0
HasEdges n left edges = IfSome left (λ bytes. edges_of n bytes ≡ record { edges = edges; refusal = None })

-- the bytes that the source has left are refused so
abbrev pub IsRefused : ℕ → Option (List ℕ) → EdgeFault → Type 0
IsRefused n left fault = IfSome left (λ bytes. (edges_of n bytes).refusal ≡ Some fault)

-- why reading may end with an outcome: the bytes that are left are refused so, or the source or the memory failed
abbrev pub HasReason : ℕ → Option (List ℕ) → Outcome → Type 0
HasReason n left Done = ⊥
HasReason n left (Usage word) = ⊥
HasReason n left (BadEdge line) = IsRefused n left (Text.BadEdge line)
HasReason n left (BigNode line id) = IsRefused n left (Text.BigNode line id)
HasReason n left TooLarge = IsRefused n left Text.TooLarge
HasReason n left (OtherJob line) = ⊥
HasReason n left (OtherEdges line) = ⊥
HasReason n left (BadStore path line) = ⊥
HasReason n left (TaskFailed task) = ⊥
HasReason n left DiskFault = ⊥
HasReason n left ReadFault = ⊤
HasReason n left SayFault = ⊥
HasReason n left NoMemory = ⊤

-- the refusal of the edges that an outcome tells of
abbrev pub refusal_of : Outcome → Option EdgeFault
refusal_of Done = None
refusal_of (Usage word) = None
refusal_of (BadEdge line) = Some (Text.BadEdge line)
refusal_of (BigNode line id) = Some (Text.BigNode line id)
refusal_of TooLarge = Some Text.TooLarge
refusal_of (OtherJob line) = None
refusal_of (OtherEdges line) = None
refusal_of (BadStore path line) = None
refusal_of (TaskFailed task) = None
refusal_of DiskFault = None
refusal_of ReadFault = None
refusal_of SayFault = None
refusal_of NoMemory = None

-- a line is said for each of the n nodes, with the least node at the end of a walk from it
pub record SaysLeast (n : ℕ) (edges : List Edge) (before now : Option (List ℕ)) : Type 0 where
  pub labels : List ℕ
  pub least : AreLeast n edges labels
  pub said : now ≡ added before (lines_from 0 labels)

-- some of the bytes of these lines, from their front, are said
pub record SaysSomeLeast (n : ℕ) (edges : List Edge) (before now : Option (List ℕ)) : Type 0 where
  pub labels : List ℕ
  pub least : AreLeast n edges labels
  pub said : AddsPart before now (lines_from 0 labels)

-- nothing of the bytes that the source has left is refused, as far as it tells them
abbrev pub IsFine : ℕ → Option (List ℕ) → Type 0
IsFine n left = IfSome left (λ bytes. (edges_of n bytes).refusal ≡ None)

-- the source tells its bytes, and nothing of them is refused
abbrev pub IsToldFine : ℕ → Option (List ℕ) → Type 0
IsToldFine n None = ⊥
IsToldFine n (Some bytes) = (edges_of n bytes).refusal ≡ None

-- all is done over n nodes: the source was read to its end, nothing of it is refused, and the lines of its edges were said
pub record HasLabelled (n : ℕ) (left left' said said' : Option (List ℕ)) : Type 0 where
  pub read : AtEnd left'
  pub fine : IsFine n left
  pub lines : IfSome left (λ bytes. SaysLeast n (edges_of n bytes).edges said said')

-- all is done: over the edges that the source had left, which was read to its end, or over generated ones
pub record IsDone (words : List (List ℕ)) (left left' said said' : Option (List ℕ)) : Type 0 where
  pub conf : Settings
  pub means : MeanPlain words conf
  pub read : conf.generated ≡ None → AtEnd left'
  pub fine : IsFine conf.nodes (bytes_for conf left)
  pub lines : IfSome (bytes_for conf left) (λ bytes. SaysLeast conf.nodes (edges_of conf.nodes bytes).edges said said')

-- the bytes that the words have read are refused so
pub record IsRefusedFor (words : List (List ℕ)) (left : Option (List ℕ)) (fault : EdgeFault) : Type 0 where
  pub conf : Settings
  pub means : MeanPlain words conf
  pub refused : IsRefused conf.nodes (bytes_for conf left) fault

-- nothing of the bytes that the words have read is refused
pub record IsFineFor (words : List (List ℕ)) (left : Option (List ℕ)) : Type 0 where
  pub conf : Settings
  pub means : MeanPlain words conf
  pub fine : IsFine conf.nodes (bytes_for conf left)

-- nothing was said, or some of the lines that a run which is done says
abbrev pub SaysAtMost : ℕ → Option (List ℕ) → Option (List ℕ) → Option (List ℕ) → Type 0
SaysAtMost n left said said' = (said' ≡ said) ⊎ (IsFine n left × IfSome left (λ bytes. SaysSomeLeast n (edges_of n bytes).edges said said'))

-- an outcome that `plain` has once its words are accepted
abbrev pub IsOfPlain : Outcome → Type 0
IsOfPlain Done = ⊤
IsOfPlain (Usage word) = ⊥
IsOfPlain (BadEdge line) = ⊤
IsOfPlain (BigNode line id) = ⊤
IsOfPlain TooLarge = ⊤
IsOfPlain (OtherJob line) = ⊥
IsOfPlain (OtherEdges line) = ⊥
IsOfPlain (BadStore path line) = ⊥
IsOfPlain (TaskFailed task) = ⊥
IsOfPlain DiskFault = ⊥
IsOfPlain ReadFault = ⊤
IsOfPlain SayFault = ⊤
IsOfPlain NoMemory = ⊤

-- an outcome before which nothing is said
abbrev pub IsQuiet : Outcome → Type 0
IsQuiet Done = ⊥
IsQuiet (Usage word) = ⊤
IsQuiet (BadEdge line) = ⊤
IsQuiet (BigNode line id) = ⊤
IsQuiet TooLarge = ⊤
IsQuiet (OtherJob line) = ⊥
IsQuiet (OtherEdges line) = ⊥
IsQuiet (BadStore path line) = ⊥
IsQuiet (TaskFailed task) = ⊥
IsQuiet DiskFault = ⊥
IsQuiet ReadFault = ⊤
IsQuiet SayFault = ⊥
IsQuiet NoMemory = ⊥

-- an outcome that needs no cause in the words, in the edges or in a count
abbrev pub IsDoneOrNoMemory : Outcome → Type 0
IsDoneOrNoMemory Done = ⊤
IsDoneOrNoMemory (Usage word) = ⊥
IsDoneOrNoMemory (BadEdge line) = ⊥
IsDoneOrNoMemory (BigNode line id) = ⊥
IsDoneOrNoMemory TooLarge = ⊥
IsDoneOrNoMemory (OtherJob line) = ⊥
IsDoneOrNoMemory (OtherEdges line) = ⊥
IsDoneOrNoMemory (BadStore path line) = ⊥
IsDoneOrNoMemory (TaskFailed task) = ⊥
IsDoneOrNoMemory DiskFault = ⊥
IsDoneOrNoMemory ReadFault = ⊥
IsDoneOrNoMemory SayFault = ⊥
IsDoneOrNoMemory NoMemory = ⊤

-- what a run over n nodes and these bytes answers and says
pub record Labels (n : ℕ) (bytes said said' : Option (List ℕ)) (result : Outcome) : Type 0 where
  pub own : IsOfPlain result
  pub done : result ≡ Done → IsFine n bytes × IfSome bytes (λ read. SaysLeast n (edges_of n read).edges said said')
  pub refused : IfSome (refusal_of result) (IsRefused n bytes)
  pub quiet : IsQuiet result → said' ≡ said
  pub part : SaysAtMost n bytes said said'
