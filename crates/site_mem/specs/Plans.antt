-- What the children of a site in memory are told to do.
use Rattle.std.specs.Prelude.{◌≡◌, ℕ, ℤ, pos, ◌+◌, ◌⊎◌, ◌&&◌, Bool, true, false, not, nat_eq, List, [], length, Option, Some, None, find, Result, Ok, Err, if◌then◌else◌}
use Rattle.std.specs.List.{AllWithin, HoldsAt, list_any}
use Rattle.peg_base.specs.Names.{same_path}
use Rattle.peg_base.specs.Tasks.{same_phase}
use Rattle.peg_base.specs.declared.tasks.Attempt.{Attempt}
use Rattle.dir_disk.specs.declared.site.LogEntry.{LogEntry}
use Rattle.dir_disk.specs.declared.site.LogEntry.TheVariants.{Started, StartFailed, Ended}
use Rattle.dir_disk.specs.declared.site.StartFault.{StartFault}
use Rattle.dir_disk.specs.declared.site.StartFault.TheVariants.{Failed, NoMemory}
use Rattle.dir_disk.specs.Children.{Child}
use Rattle.site_mem.specs.declared.order.Order.{Order}
use Rattle.site_mem.specs.declared.order.Order.TheVariants.{OldestFirst, NewestFirst}
use Rattle.site_mem.specs.Ends.{end_status}

-- the statuses of attempts, the starts that are refused, the order of the ends, and which attempt waits for the start of which
pub record Planned : Type 0 where
  pub script : List (Attempt × ℤ)
  pub refused : List Attempt
  pub order : Order
  pub holds : List (Attempt × Attempt)

-- nothing is told
abbrev pub unplanned : Planned
unplanned = record { script = []; refused = []; order = OldestFirst; holds = [] }

abbrev pub same_attempt : Attempt → Attempt → Bool
same_attempt one other =
    same_path one.task.job other.task.job && (same_phase one.task.phase other.task.phase && (nat_eq one.task.task other.task.task && nat_eq one.number other.number))

-- the attempt is one of these
abbrev pub is_among : List Attempt → Attempt → Bool
is_among attempts attempt = list_any (λ other. same_attempt other attempt) attempts

abbrev pub status_in : Option (Attempt × ℤ) → ℤ
status_in None = pos 0
status_in (Some entry) = entry.1

-- the status of the first entry for the attempt; 0 where there is none
abbrev pub scripted : List (Attempt × ℤ) → Attempt → ℤ
scripted script attempt = status_in (find (λ entry. same_attempt entry.0 attempt) script)

abbrev pub starts : Attempt → LogEntry → Bool
starts attempt (Started other) = same_attempt other attempt
starts attempt (StartFailed other) = false
starts attempt (Ended other status) = false

-- the attempt waits for another one that was not started
abbrev pub is_held : List (Attempt × Attempt) → List LogEntry → Attempt → Bool
is_held holds log attempt =
    list_any (λ hold. same_attempt hold.0 attempt && not (list_any (starts hold.1) log)) holds

-- how an attempt of this answer ends
abbrev pub status_of : Planned → List LogEntry → Attempt → List ℕ → ℤ
status_of plan log attempt answer =
    if is_held plan.holds log attempt then pos 99 else end_status (scripted plan.script attempt) answer

-- the places that the order names before this one, of so many: from where, and up to where
abbrev pub ahead_from : Order → ℕ → ℕ
ahead_from OldestFirst place = 0
ahead_from NewestFirst place = place + 1

abbrev pub ahead_to : Order → ℕ → ℕ → ℕ
ahead_to OldestFirst place count = place
ahead_to NewestFirst place count = count

-- the child at this place is the one that ends: it isn't held, and all before it in the order are; or all are held, and none is before it
abbrev pub IsNext : Planned → List LogEntry → List Child → ℕ → Type 0
IsNext plan log children place =
    (HoldsAt (λ child. is_held plan.holds log child.attempt ≡ false) children place × AllWithin (λ child. is_held plan.holds log child.attempt ≡ true) children (ahead_from plan.order place) (ahead_to plan.order place (length children)))
    ⊎ (AllWithin (λ child. is_held plan.holds log child.attempt ≡ true) children 0 (length children) × (ahead_from plan.order place ≡ ahead_to plan.order place (length children)))

-- a start fails just where it is refused; it may find no memory in any case
abbrev pub FailsIf : {T : Type 0} → Bool → Result T StartFault → Type 0
FailsIf refused (Ok value) = refused ≡ false
FailsIf refused (Err Failed) = refused ≡ true
FailsIf refused (Err NoMemory) = Unit {0}
