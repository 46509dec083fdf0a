-- What the jobs of a run add to the log of its site, and what its log tells of its outcome.
use Rattle.std.specs.Prelude.{◌≡◌, ℕ, ⊤, List, Option, Some, None, Result, OnOk}
use Rattle.dir_disk.specs.State.{State}
use Rattle.dir_disk.specs.Moments.{Told, files}
use Rattle.dir_disk.specs.Children.{Given, Seen}
use Rattle.dir_disk.specs.declared.site.LogEntry.{LogEntry}
use Rattle.conf.specs.declared.reading.Conf.{Conf as Settings}
use Rattle.mining.specs.declared.stop.Stop.{Stop}
use Rattle.mining.specs.Flow.{most_of}
use Rattle.mining.specs.Failures.{IsCutOff, IsFirstFailed, NoneFailed}
use Rattle.mining.specs.Jobs.{FinishesPast, FinishesWithin, GainsPast, GainsWithin}
use Rattle.driver.specs.declared.outcome.Outcome.{Outcome}
use Rattle.driver.specs.declared.outcome.Outcome.TheVariants.{Done, Usage, BadEdge, BigNode, TooLarge, OtherJob, OtherEdges, BadStore, TaskFailed, DiskFault, ReadFault, SayFault, NoMemory}
use Rattle.driver.specs.Opening.{IsGreatest}

-- a call adds to the log what jobs of the table with ranks from `low` on and below `high` add, and where it is done, each of them was done
pub record RunsJobs (tells : Type 0) (gives : List (List ℕ) → List ℕ → List ℕ) (conf : Settings) (low high : ℕ) (old new : Seen) (had has : List Given) (told : Told) (result : Result (Unit {0}) Stop) : Type 0 where
  pub gains : GainsWithin tells gives conf low high old new had has told
  pub done : OnOk result (FinishesWithin tells gives conf low high old new had has told)

-- ---- a run

-- all iterations up to k are whole at entry and no next one is, as far as the site tells its files; or no k is named
abbrev pub GoesOnAfter : Type 0 → ℕ → State → Option ℕ → Type 0
GoesOnAfter tells most state None = ⊤
GoesOnAfter tells most state (Some k) = tells × IsGreatest most state k

-- the log gained, and the children were given, what jobs of the table add, in its order, each once, and of no iteration up to k; where the run is done, each of them was done
pub record LogsPast (tells : Type 0) (gives : List (List ℕ) → List ℕ → List ℕ) (conf : Settings) (k : Option ℕ) (old new : Seen) (had has : List Given) (told : Told) (outcome : Outcome) : Type 0 where
  pub gains : GainsPast tells gives conf k old new had has told
  pub done : outcome ≡ Done → FinishesPast tells gives conf k old new had has told

-- so it is for the iteration that the run goes on after
abbrev pub LogsRun : Type 0 → (List (List ℕ) → List ℕ → List ℕ) → Settings → Told → Told → Seen → Seen → List Given → List Given → Outcome → Type 0
LogsRun tells gives conf entry now old new had has outcome =
    (k : Option ℕ) → GoesOnAfter tells (most_of conf conf.command) (files entry) k → LogsPast tells gives conf k old new had has now outcome

-- what the entries that the log gained tell of the outcome: `TaskFailed` names the least task of its phase of which four attempts failed; else there is none before a refusal, and no attempt after it
abbrev pub TellsOfOutcome : List LogEntry → Outcome → Type 0
TellsOfOutcome entries Done = NoneFailed entries
TellsOfOutcome entries (Usage word) = NoneFailed entries
TellsOfOutcome entries (BadEdge line) = NoneFailed entries
TellsOfOutcome entries (BigNode line id) = NoneFailed entries
TellsOfOutcome entries TooLarge = NoneFailed entries
TellsOfOutcome entries (OtherJob line) = NoneFailed entries
TellsOfOutcome entries (OtherEdges line) = NoneFailed entries
TellsOfOutcome entries (BadStore path line) = NoneFailed entries
TellsOfOutcome entries (TaskFailed task) = IsFirstFailed entries task
TellsOfOutcome entries DiskFault = IsCutOff entries
TellsOfOutcome entries ReadFault = NoneFailed entries
TellsOfOutcome entries SayFault = NoneFailed entries
TellsOfOutcome entries NoMemory = IsCutOff entries
