-- What the calls of a directory do, by their answers.
use Rattle.std.specs.Prelude.{◌≡◌, ◌≢◌, ℕ, ◌≤◌, Bool, true, false, ◌||◌, List, [], ◌∷◌, ◌++◌, length, take, drop, Option, Some, None, Result, OnOk, IsErrOf}
use Rattle.peg_base.specs.Names.{Names, under, same_path}
use Rattle.dir_disk.specs.State.{State, Content, Allows, bytes_of, after_append, after_move, after_remove, after_settle}
use Rattle.dir_disk.specs.Moments.{Told, Adds, files}
use Rattle.dir_disk.specs.declared.dir.DirFault.{DirFault}
use Rattle.dir_disk.specs.declared.dir.DirFault.TheVariants.{Failed, NoMemory}

-- a call of a directory; `size` and `read` are looks
pub data Call : Type 0 where
  Look : Names → Call
  Append : Names → List ℕ → Call
  Move : Names → Names → Call
  Remove : Names → Call
  Settle : Names → Call

-- the state after Ok
abbrev pub after : Call → State → State
after (Look path) state = state
after (Append path bytes) state = after_append path bytes state
after (Move from to) state = after_move from to state
after (Remove path) state = after_remove path state
after (Settle path) state = after_settle path state

-- the state that says what a stop may leave after Failed
abbrev pub after_fault : Call → State → State
after_fault (Look path) state = state
after_fault (Append path bytes) state = after_append path bytes state
after_fault (Move from to) state = after_move from to state
after_fault (Remove path) state = after_remove path state
after_fault (Settle path) state = state

-- the state after these calls, each answered Ok, the first one first
abbrev pub after_all : List Call → State → State
after_all [] state = state
after_all (call ∷ calls) state = after_all calls (after call state)

-- the paths that the call may change: those that it names, and all that lie under them
abbrev pub may_change : Call → Names → Bool
may_change (Look path) q = false
may_change (Append path bytes) q = under path q
may_change (Move from to) q = under from q || under to q
may_change (Remove path) q = under path q
may_change (Settle path) q = under path q

-- what a failed call leaves: anything that a stop might, where it may change something, and all else as it was
pub record Broken (call : Call) (old new : State) : Type 0 where
  pub may : (q : Names) → (new q).may ≡ (after_fault call old q).may
  pub now : (q : Names) → may_change call q ≡ true → Allows (new q).may (new q).now
  pub others : (q : Names) → may_change call q ≡ false → new q ≡ old q

-- what a call does, by its answer
pub record Does {T : Type 0} (call : Call) (old new : Told) (result : Result T DirFault) : Type 0 where
  pub ok : OnOk result (Adds old new × (files new ≡ after call (files old)))
  pub failed : IsErrOf result Failed → Adds old new × Broken call (files old) (files new)
  pub no_memory : IsErrOf result NoMemory → new ≡ old

abbrev pub HasFile : State → Names → Type 0
HasFile state path = (bytes : List ℕ) × ((state path).now ≡ Some bytes)

-- the answer of `size`
abbrev pub IsLength : Content → Option ℕ → Type 0
IsLength content None = content ≡ None
IsLength content (Some size) = (bytes : List ℕ) × (content ≡ Some bytes) × (size ≡ length bytes)

-- the answer of `read`
abbrev pub IsRead : Content → ℕ → ℕ → List ℕ → Type 0
IsRead content from max bytes = bytes ≡ take max (drop from (bytes_of content))

-- no proper prefix of the path is a file
abbrev pub IsOpen : State → Names → Type 0
IsOpen state path = (q : Names) → under q path ≡ true → same_path q path ≡ false → (state q).now ≡ None

-- a file can be at the path
pub record CanAppend (state : State) (path : Names) : Type 0 where
  pub named : path ≢ []
  pub is_open : IsOpen state path
  pub nothing_under : (q : Names) → under path q ≡ true → same_path path q ≡ false → (state q).now ≡ None

-- something is to be moved, and there is room for it
pub record CanMove (state : State) (from to : Names) : Type 0 where
  pub there : (q : Names) × (under from q ≡ true) × HasFile state q
  pub empty : (q : Names) → under to q ≡ true → (state q).now ≡ None
  pub is_open : IsOpen state to
  pub apart : (under from to ≡ false) × (under to from ≡ false)
  pub short : (rest : Names) → HasFile state (from ++ rest) → length (to ++ rest) ≤ 8
