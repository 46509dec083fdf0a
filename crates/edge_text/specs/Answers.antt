-- What the calls of a reader answer.
use Rattle.std.specs.Prelude.{Option, None, Some, Result, Ok, Err, ⊤}
use Rattle.edge_text.specs.declared.fault.EdgeFault.{EdgeFault}
use Rattle.edge_text.specs.declared.fault.EdgeFault.TheVariants.{BadEdge, BigNode, TooLarge, NoMemory}

-- a fact for each fault but want of memory
abbrev pub UnlessOutOfMemory : EdgeFault → Type 0 → Type 0
UnlessOutOfMemory (BadEdge line) P = P
UnlessOutOfMemory (BigNode line id) P = P
UnlessOutOfMemory TooLarge P = P
UnlessOutOfMemory NoMemory P = ⊤

-- a fact for want of memory alone
abbrev pub WhereOutOfMemory : EdgeFault → Type 0 → Type 0
WhereOutOfMemory (BadEdge line) P = ⊤
WhereOutOfMemory (BigNode line id) P = ⊤
WhereOutOfMemory TooLarge P = ⊤
WhereOutOfMemory NoMemory P = P

-- a fact for each answer but want of memory
abbrev pub UnlessNoMemory : {T : Type 0} → Result T EdgeFault → Type 0 → Type 0
UnlessNoMemory (Ok x) P = P
UnlessNoMemory (Err fault) P = UnlessOutOfMemory fault P

-- a fact for want of memory alone
abbrev pub OnNoMemory : {T : Type 0} → Result T EdgeFault → Type 0 → Type 0
OnNoMemory (Ok x) P = ⊤
OnNoMemory (Err fault) P = WhereOutOfMemory fault P

-- the fault that is answered, if one is
abbrev pub fault_in : {T : Type 0} → Result T EdgeFault → Option EdgeFault
fault_in (Ok x) = None
fault_in (Err fault) = Some fault
