-- What the fields of a reader say.
use Rattle.std.specs.Prelude.{◌≡◌, ℕ, ◌+◌, ◌≤◌, List, ◌++◌, Option, None, Some, Result, IfErr, OnOk, length, drop, ⊤}
use Rattle.graph.specs.declared.edges.Edge.{Edge}
use Rattle.peg_text.specs.Lists.{GoesOnFrom}
use Rattle.peg_text.specs.Records.{HasNoLf, BeginsWithRecord, cut_of}
use Rattle.edge_text.specs.declared.fault.EdgeFault.{EdgeFault}
use Rattle.edge_text.specs.declared.unfinished.Unfinished.{Unfinished}
use Rattle.edge_text.specs.declared.verdict.Verdict.{Verdict}
use Rattle.edge_text.specs.Answers.{UnlessOutOfMemory, UnlessNoMemory}
use Rattle.edge_text.specs.Verdicts.{verdict_of}
use Rattle.edge_text.specs.Edges.{reading_of, most_bytes}
use Rattle.edge_text.specs.Feeding.{State, Reads, Refused, nodes_of, fed, fed_edges}

-- no more records were counted than bytes came, these are not too many, and no LF is held
pub record IsWithin (line : ℕ) (held : List ℕ) (taken : ℕ) : Type 0 where
  pub lines : line + length held ≤ taken + 1
  pub bytes : taken ≤ most_bytes
  pub unbroken : HasNoLf held

-- the same of a reader that reads on
abbrev pub IsReady : State → Type 0
IsReady (Reads n line held taken) = IsWithin line held taken
IsReady (Refused n fault) = ⊤

abbrev pub reads : Unfinished → State
reads u = Reads u.nodes u.line u.held.items u.taken

abbrev pub state_of : Option EdgeFault → Unfinished → State
state_of None u = reads u
state_of (Some fault) u = Refused u.nodes fault

-- bytes were taken by a reader that read on: it reads on after them, or this answer says why not
pub record Takes (before : State) (bytes : List ℕ) (edges edges' : List Edge) (after : State) (answer : Result (Unit {0}) EdgeFault) : Type 0 where
  pub ok : OnOk answer (after ≡ fed before bytes)
  pub err : IfErr answer (λ fault. UnlessOutOfMemory fault (fed before bytes ≡ Refused (nodes_of before) fault))
  pub added : UnlessNoMemory answer (edges' ≡ edges ++ fed_edges before bytes)
  pub kept : GoesOnFrom edges edges'

-- from `start` on the bytes begin with a record that says this, and what follows its LF stands at `next`
pub record HasVerdict (n : ℕ) (bytes : List ℕ) (start next : ℕ) (verdict : Verdict) : Type 0 where
  pub line : List ℕ
  pub begins : BeginsWithRecord (drop start bytes) line (drop next bytes)
  pub judged : verdict ≡ verdict_of n line
  pub inside : next ≤ length bytes

-- all whole records of the bytes were read, none was refused, and this line and place come next
pub record ReadsAll (n first : ℕ) (bytes : List ℕ) (line start : ℕ) : Type 0 where
  pub none : (reading_of n first (cut_of bytes).whole).refusal ≡ None
  pub lines : line ≡ first + length (cut_of bytes).whole
  pub rest : drop start bytes ≡ (cut_of bytes).rest
  pub inside : start ≤ length bytes
