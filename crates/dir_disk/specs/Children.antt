-- The children of a site: how they are started, and how they end.
use Rattle.std.specs.Prelude.{◌≡◌, ℕ, ℤ, pos, ◌≤◌, false, List, [], ◌∷◌, ◌++◌, None, Some, Result, OnOk, IsErrOf, if◌then◌else◌}
use Rattle.peg_base.specs.Names.{Names, same_path}
use Rattle.peg_base.specs.declared.tasks.Attempt.{Attempt}
use Rattle.dir_disk.specs.State.{Anything, Content, Allows, Held, State}
use Rattle.dir_disk.specs.Moments.{Told, AddsBy, files}
use Rattle.dir_disk.specs.Calls.{HasFile, CanAppend}
use Rattle.dir_disk.specs.Causes.{Rose}
use Rattle.dir_disk.specs.Lent.{Loan}
use Rattle.dir_disk.specs.declared.site.StartFault.{StartFault}
use Rattle.dir_disk.specs.declared.site.StartFault.TheVariants.{Failed, NoMemory}
use Rattle.dir_disk.specs.declared.site.LogEntry.{LogEntry}
use Rattle.dir_disk.specs.declared.site.LogEntry.TheVariants.{Started, StartFailed, Ended}

-- a child that runs: the attempt that it is, its words, its two paths, and the bytes that its input had when it was started
pub record Child : Type 0 where
  pub attempt : Attempt
  pub words : List (List ℕ)
  pub input : Names
  pub output : Names
  pub given : List ℕ

abbrev pub loan_of : Child → Loan
loan_of child = record { input = child.input; output = child.output }

-- what is lent to the children
abbrev pub loans_of : List Child → List Loan
loans_of [] = []
loans_of (child ∷ children) = loan_of child ∷ loans_of children

-- what a site knows of its children: those that run, in the order of their starts, the log of all, and how many starts failed
pub record Seen : Type 0 where
  pub running : List Child
  pub log : List LogEntry
  pub start_faults : ℕ

-- what a start was given: the words, the bytes of the input, and how many calls of the directory were made before it
pub record Given : Type 0 where
  pub words : List (List ℕ)
  pub input : List ℕ
  pub moment : ℕ

-- the input is there, and at the output nothing is or may be, and a file can be made there
pub record CanStart (state : State) (input output : Names) : Type 0 where
  pub there : HasFile state input
  pub none : (content : Content) → Allows (state output).may content → content ≡ None
  pub can : CanAppend state output

-- from now on a stop may leave anything at the output
abbrev pub lent_out : Held → Held
lent_out held = record { now = held.now; may = Anything ∷ held.may }

abbrev pub after_start : Names → State → State
after_start output state path = if same_path output path then lent_out (state path) else state path

-- a stop may leave the same everywhere, and at all paths but one there is the same now
pub record OnlyAt (output : Names) (old new : State) : Type 0 where
  pub may : (path : Names) → (new path).may ≡ (old path).may
  pub others : (path : Names) → same_path output path ≡ false → (new path).now ≡ (old path).now

-- what a start does to the directory; it is no call of it
pub record Starts {T : Type 0} (output : Names) (old new : Told) (result : Result T StartFault) : Type 0 where
  pub ok : OnOk result (AddsBy 0 old new × (files new ≡ after_start output (files old)))
  pub failed : IsErrOf result Failed → AddsBy 0 old new × OnlyAt output (after_start output (files old)) (files new)
  pub no_memory : IsErrOf result NoMemory → new ≡ old

-- what a start does to the site
pub record Begins {T : Type 0} (child : Child) (old new : Seen) (result : Result T StartFault) : Type 0 where
  pub ok : OnOk result (new ≡ record { running = old.running ++ child ∷ []; log = old.log ++ Started child.attempt ∷ []; start_faults = old.start_faults })
  pub failed : IsErrOf result Failed → (new.running ≡ old.running) × (new.log ≡ old.log ++ StartFailed child.attempt ∷ []) × (old.start_faults ≤ new.start_faults) × Rose old.start_faults new.start_faults
  pub no_memory : IsErrOf result NoMemory → new ≡ old

-- what a start adds to what was given; a start that failed was given it too
pub record Hands {T : Type 0} (one : Given) (old new : List Given) (result : Result T StartFault) : Type 0 where
  pub ok : OnOk result (new ≡ old ++ one ∷ [])
  pub failed : IsErrOf result Failed → new ≡ old ++ one ∷ []
  pub no_memory : IsErrOf result NoMemory → new ≡ old

-- what the end of a child does to the directory; it is no call of it. At status 0 the output has what these words give for the input
pub record Leaves (gives : List (List ℕ) → List ℕ → List ℕ) (child : Child) (status : ℤ) (old new : Told) : Type 0 where
  pub adds : AddsBy 0 old new
  pub only : OnlyAt child.output (files old) (files new)
  pub output : status ≡ pos 0 → (files new child.output).now ≡ Some (gives child.words child.given)

-- one of the children that run has ended, and the others run on
pub record Ends (attempt : Attempt) (status : ℤ) (child : Child) (old new : Seen) : Type 0 where
  pub before : List Child
  pub after : List Child
  pub was : old.running ≡ before ++ child ∷ after
  pub running : new.running ≡ before ++ after
  pub same : child.attempt ≡ attempt
  pub log : new.log ≡ old.log ++ Ended attempt status ∷ []
  pub start_faults : new.start_faults ≡ old.start_faults
