-- What changes bring about.
use Rattle.std.specs.Prelude.{◌≡◌, true, false, None, ◌||◌, List, [], ◌∷◌, ◌++◌, if◌then◌else◌}
use Rattle.std.specs.List.{list_all}
use Rattle.peg_base.specs.Names.{Names, under, after_top}
use Rattle.dir_disk.specs.State.{Held, State, moved_to}
use Rattle.dir_mem.specs.declared.log.Change.{Change}
use Rattle.dir_mem.specs.Traces.{newest}
use Rattle.dir_mem.specs.Log.{after_changes, change_at, replaced}
use Rattle.dir_mem.specs.Sound.{is_listed}

-- the changes lead from one state to another
abbrev pub Leads : List Change → State → State → Type 0
Leads changes old new = (path : Names) → after_changes changes old path ≡ new path

-- the change makes of its path what it is in the new state
abbrev pub Makes : Change → State → State → Type 0
Makes change old new = replaced change (old change.path) ≡ new change.path

-- each of the changes does so
abbrev pub MakesAll : List Change → State → State → Type 0
MakesAll [] old new = Unit {0}
MakesAll (change ∷ changes) old new = Makes change old new × MakesAll changes old new

-- and at the paths that are done the new state is reached
pub record Brings (done : List Names) (changes : List Change) (old new : State) : Type 0 where
  pub made : MakesAll changes old new
  pub there : (path : Names) → is_listed done path ≡ true → after_changes changes old path ≡ new path

-- what a call that failed leaves of a path: the newest of what a stop may leave
abbrev pub broken : Held → Held
broken held = record { now = newest held.may; may = held.may }

-- the state after a call that failed, from the state that says what a stop may leave
abbrev pub after_break : Names → Names → State → State → State
after_break top other fault state path =
    if under top path || under other path then broken (fault path) else state path

-- the state after a move that has not yet taken the files away from their old paths
abbrev pub after_arrival : Names → Names → State → State
after_arrival from to state path =
    if under to path then moved_to (state (from ++ after_top to path)).now (state (from ++ after_top to path)).may (state path)
    else state path

-- at the new paths of the files that are done the new state is reached, and nothing elsewhere is changed
pub record Arrives (from to : Names) (done : List Names) (changes : List Change) (old : State) : Type 0 where
  pub made : MakesAll changes old (after_arrival from to old)
  pub there : (rest : Names) → is_listed done (from ++ rest) ≡ true → after_changes changes old (to ++ rest) ≡ after_arrival from to old (to ++ rest)
  pub within : (path : Names) → under to path ≡ false → change_at changes path ≡ None

-- the paths of the changes are listed
abbrev pub AllListed : List Names → List Change → Type 0
AllListed paths changes = list_all (λ change. is_listed paths change.path) changes ≡ true
