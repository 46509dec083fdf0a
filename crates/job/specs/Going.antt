-- How the log, what was given and the directory go on with the steps of the machine.
use Rattle.std.specs.Prelude.{◌≡◌, ℕ, ◌+◌, ◌≤◌, Bool, false, ◌&&◌, ◌||◌, not, if◌then◌else◌, List, [], ◌∷◌, ◌++◌, Result, Ok, Err}
use Rattle.std.specs.List.{AllByRecursion}
use Rattle.dir_disk.specs.Moments.{Told, clock, files}
use Rattle.dir_disk.specs.Children.{Given, Seen}
use Rattle.dir_disk.specs.declared.site.LogEntry.{LogEntry}
use Rattle.committer.specs.declared.fault.CommitFault.{CommitFault}
use Rattle.committer.specs.declared.fault.CommitFault.TheVariants.{Disk, NoMemory}
use Rattle.task_core.specs.Board.{Board, Rule, Tried, tried_at, is_dead, becomes_done, after, after_all, IsRunWhere, IsBusy, AtAnyTime, Step, Start, Refuse, End, is_success}
use Rattle.job.specs.Work.{Home, Work, Keeps, calls_at, text_at}
use Rattle.job.specs.Failing.{IsEntryOf, steps_of, made_in}
use Rattle.job.specs.Children.{AreChildrenOf}

-- ---- commits

-- some task is dead
abbrev pub has_dead : List Tried → Bool
has_dead [] = false
has_dead (task ∷ tasks) = is_dead task || has_dead tasks

-- the attempt that ends at this step is to be committed: its task becomes done by it, and no task is dead then
abbrev pub is_commit : Board → Step → Bool
is_commit m (Start t a) = false
is_commit m (Refuse t a) = false
is_commit m (End t a status) = becomes_done (tried_at m.tasks t) (is_success status) && not (has_dead (after m (End t a status)).tasks)

-- how many calls of the directory the commits in these steps are
abbrev pub commit_calls : Home → Board → List Step → ℕ
commit_calls home m [] = 0
commit_calls home m (x ∷ xs) = (if is_commit m x then calls_at home else 0) + commit_calls home (after m x) xs

-- ---- what is given

-- what these steps give, where so many calls of the directory were made before them: at each start the words, the input of its task, and the number of calls before it, those of each commit among them
abbrev pub givens_of : Work → (ℕ → List ℕ) → ℕ → Board → List Step → List Given
givens_of w inputs calls m [] = []
givens_of w inputs calls m (Start t a ∷ steps) = record { words = w.words; input = inputs t; moment = calls } ∷ givens_of w inputs calls (after m (Start t a)) steps
givens_of w inputs calls m (Refuse t a ∷ steps) = record { words = w.words; input = inputs t; moment = calls } ∷ givens_of w inputs calls (after m (Refuse t a)) steps
givens_of w inputs calls m (End t a status ∷ steps) = givens_of w inputs (calls + commit_calls w.home m (End t a status ∷ [])) (after m (End t a status)) steps

-- ---- what a call of a phase does

-- while nothing was refused, attempts are started and committed; afterwards children are only waited for
pub data Mode : Type 0 where
  Working : Mode
  Waiting : Mode

-- where ends are taken
abbrev pub MayEndIn : Rule → Mode → Board → Type 0
MayEndIn S Working = IsBusy S
MayEndIn S Waiting = AtAnyTime

-- how many calls of the directory these steps are
abbrev pub calls_of : Mode → Home → Board → List Step → ℕ
calls_of Working home m steps = commit_calls home m steps
calls_of Waiting home m steps = 0

-- what these steps give
abbrev pub givens_in : Mode → Work → (ℕ → List ℕ) → ℕ → Board → List Step → List Given
givens_in Working w inputs calls m steps = givens_of w inputs calls m steps
givens_in Waiting w inputs calls m steps = []

abbrev pub MayMakeIn : Mode → List LogEntry → Type 0
MayMakeIn Working entries = Unit {0}
MayMakeIn Waiting entries = made_in entries ≡ 0

-- as many as this, or fewer where P doesn't hold
pub record AreAsMany (P : Type 0) (many as_many : ℕ) : Type 0 where
  pub most : many ≤ as_many
  pub exact : P → many ≡ as_many

-- a refusal may have spared the last commit some of its calls: a fault all but one, want of memory that one too
abbrev pub IsExact : {T : Type 0} → Home → Result T CommitFault → Type 0
IsExact home (Ok value) = Unit {0}
IsExact home (Err Disk) = calls_at home ≡ 1
IsExact home (Err NoMemory) = ⊥

-- from one state of the machine to another by entries that the log gains, and what is given by them, where so many calls of the directory were made before
pub record Goes (S : Rule) (mode : Mode) (tells : Type 0) (w : Work) (inputs : ℕ → List ℕ) (calls : ℕ) (m n : Board) (old new : Seen) (had has : List Given) : Type 0 where
  pub entries : List LogEntry
  pub of_work : AllByRecursion (IsEntryOf w) entries
  pub run : IsRunWhere S (MayEndIn S mode) m (steps_of entries)
  pub reached : n ≡ after_all m (steps_of entries)
  pub made : MayMakeIn mode entries
  pub log : new.log ≡ old.log ++ entries
  pub givens : tells → has ≡ had ++ givens_in mode w inputs calls m (steps_of entries)
  pub start_faults : old.start_faults ≤ new.start_faults

-- what a call of a phase does: the machine, the log and the children go on together, all around stands, and no call of the directory is made but the commits, each of them where P holds
pub record Turn (S : Rule) (mode : Mode) (P : Type 0) (tells : Type 0) (w : Work) (m n : Board) (old new : Seen) (had has : List Given) (d e : Told) : Type 0 where
  pub fits : AreChildrenOf w n new.running
  pub goes : Goes S mode tells w (text_at w (files d)) (clock d) m n old new had has
  pub keeps : tells → Keeps w d e
  pub calls : tells → AreAsMany P (clock e) (clock d + calls_of mode w.home m (steps_of goes.entries))
