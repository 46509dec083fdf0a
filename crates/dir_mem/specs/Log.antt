-- The log of a directory: what each step changed, and the state after it.
use Rattle.std.specs.Prelude.{◌≡◌, ℕ, ◌+◌, List, [], ◌∷◌, length, take, Option, Some, None, option_map, unwrap_or, option_and_then, find}
use Rattle.peg_base.specs.Names.{Names, same_path}
use Rattle.dir_disk.specs.State.{Member, Held, State, no_files}
use Rattle.dir_disk.specs.Moments.{Told, AddsBy}
use Rattle.dir_mem.specs.Traces.{members_of}
use Rattle.dir_mem.specs.declared.log.Change.{Change}
use Rattle.dir_mem.specs.declared.log.Step.{Step}
use Rattle.dir_mem.specs.declared.log.Step.TheVariants.{Call, Between}

-- the traces that a change names
abbrev pub traces_of : Change → Option (List Member)
traces_of change = option_map (λ traces. members_of traces.items) change.may

-- what a path holds after the change; where the change names no traces, they stay
abbrev pub replaced : Change → Held → Held
replaced change held = record {
  now = option_map (λ bytes. bytes.items) change.now;
  may = unwrap_or (traces_of change) held.may;
}

abbrev pub replaced_by : Option Change → Held → Held
replaced_by None held = held
replaced_by (Some change) held = replaced change held

abbrev pub change_at : List Change → Names → Option Change
change_at changes path = find (λ change. same_path change.path path) changes

-- the traces that the changes name for a path
abbrev pub traces_at : List Change → Names → Option (List Member)
traces_at changes path = option_and_then traces_of (change_at changes path)

abbrev pub after_changes : List Change → State → State
after_changes changes state path = replaced_by (change_at changes path) (state path)

abbrev pub changes_of : Step → List Change
changes_of (Call changes) = changes.items
changes_of (Between change) = change ∷ []

abbrev pub state_from : List Step → State → State
state_from [] state = state
state_from (step ∷ steps) state = state_from steps (after_changes (changes_of step) state)

-- the state after these steps of a directory that was empty
abbrev pub state_of : List Step → State
state_of steps = state_from steps no_files

abbrev pub count_of : Step → ℕ
count_of (Call changes) = 1
count_of (Between change) = 0

-- how many of the steps are calls
abbrev pub calls_of : List Step → ℕ
calls_of [] = 0
calls_of (step ∷ steps) = count_of step + calls_of steps

-- the moments that the steps tell
abbrev pub told_by : List Step → Told
told_by steps =
    record {
      count = length steps;
      at = λ moment. record { calls = calls_of (take moment steps); state = state_of (take moment steps) };
    }

-- one step more, after which the state is this
pub record AddsStep (more : ℕ) (old new : List Step) (state : State) : Type 0 where
  pub adds : AddsBy more (told_by old) (told_by new)
  pub reaches : state_of new ≡ state
