-- The jobs of the table that a call carries out, and what they add to the log.
use Rattle.std.specs.Prelude.{◌≡◌, ℕ, ◌+◌, ◌*◌, ◌^◌, ◌<◌, ◌≤◌, ⊤, Bool, true, false, List, [], ◌∷◌, Option, None, Some}
use Rattle.std.specs.List.{AllByRecursion}
use Rattle.dir_disk.specs.Moments.{Told}
use Rattle.dir_disk.specs.Children.{Given, Seen}
use Rattle.task_core.specs.Board.{MayStart, Rule}
use Rattle.twins.specs.Rules.{MayStartTwin}
use Rattle.conf.specs.declared.commands.Form.{Form}
use Rattle.conf.specs.declared.reading.Conf.{Conf as Settings}
use Rattle.job.specs.declared.spec.JobSpec.{JobSpec}
use Rattle.job.specs.Stretches.{FinishesJobs, GainsJobs}
use Rattle.mining.specs.declared.place.Place.{Place}
use Rattle.mining.specs.declared.place.Place.TheVariants.{Conf, Edges, Nodes, Placed, Matrix, Blocks, Messages, Vector, Joined, Results}
use Rattle.mining.specs.Places.{IsInTable, is_made, is_sealed, rank_of}
use Rattle.mining.specs.Making.{IsJobOf}

-- which attempt may be started where a second one of a task may run at once, and where it may not
abbrev pub rule_with : Bool → Rule
rule_with true = MayStartTwin
rule_with false = MayStart

-- which attempt the jobs of these settings may start
abbrev pub rule_of : Settings → Rule
rule_of conf = rule_with conf.backup

-- a job of the table: the folder that it makes, and the last iteration that it is made for
pub record Job : Type 0 where
  pub place : Place
  pub last : ℕ

-- a folder that the form has, and that a job makes
pub record IsOfForm (form : Form) (job : Job) : Type 0 where
  pub is_there : IsInTable job.place
  pub by_job : is_sealed job.place ≡ false
  pub made : is_made form job.place ≡ true

-- they stand in the order of the table, each once, with ranks from `low` on and below `high`
abbrev pub Rise : ℕ → List Job → ℕ → Type 0
Rise low [] high = low ≤ high
Rise low (job ∷ jobs) high = (low ≤ rank_of job.place) × Rise (rank_of job.place + 1) jobs high

-- one behind another, with the folders, inputs, words, split, slots and reducers that the table and these settings have for them
abbrev pub AreJobsOf : Settings → List Job → List JobSpec → Type 0
AreJobsOf conf [] [] = Unit {0}
AreJobsOf conf [] (spec ∷ specs) = ⊥
AreJobsOf conf (job ∷ jobs) [] = ⊥
AreJobsOf conf (job ∷ jobs) (spec ∷ specs) = IsJobOf conf job.last job.place spec × AreJobsOf conf jobs specs

-- L holds of jobs of the table with these ranks
pub record JobsWithin (conf : Settings) (low high : ℕ) (L : List JobSpec → Type 0) : Type 0 where
  pub jobs : List Job
  pub rise : Rise low jobs high
  pub each : AllByRecursion (IsOfForm conf.form) jobs
  pub specs : List JobSpec
  pub are : AreJobsOf conf jobs specs
  pub log : L specs

-- the log gained what the phases of such jobs add, each of which was begun only where those before it were done
abbrev pub GainsWithin : Type 0 → (List (List ℕ) → List ℕ → List ℕ) → Settings → ℕ → ℕ → Seen → Seen → List Given → List Given → Told → Type 0
GainsWithin tells gives conf low high old new had has told =
    JobsWithin conf low high (λ specs. GainsJobs (rule_of conf) tells gives specs old new had has told)

-- the log gained what the phases of such jobs add, each of which was done
abbrev pub FinishesWithin : Type 0 → (List (List ℕ) → List ℕ → List ℕ) → Settings → ℕ → ℕ → Seen → Seen → List Given → List Given → Told → Type 0
FinishesWithin tells gives conf low high old new had has told =
    JobsWithin conf low high (λ specs. FinishesJobs (rule_of conf) tells gives specs old new had has told)

-- the least rank of an iteration, that of its messages, and the least one after it
abbrev pub rank_from : ℕ → ℕ
rank_from k = 6 + 2 * k

abbrev pub rank_after : ℕ → ℕ
rank_after k = 8 + 2 * k

-- the rank behind all iterations, and the one behind the whole table
abbrev pub rank_of_end : ℕ
rank_of_end = 10 ^ 11

abbrev pub rank_behind : ℕ
rank_behind = 10 ^ 11 + 2

-- the least rank of a folder that a job makes
abbrev pub rank_of_base : ℕ
rank_of_base = 4

-- ---- a run

-- neither messages nor a vector of an iteration up to k
abbrev pub IsPast : Option ℕ → Place → Type 0
IsPast None _ = ⊤
IsPast (Some k) Conf = ⊤
IsPast (Some k) Edges = ⊤
IsPast (Some k) Nodes = ⊤
IsPast (Some k) Placed = ⊤
IsPast (Some k) Matrix = ⊤
IsPast (Some k) Blocks = ⊤
IsPast (Some k) (Messages j) = k < j
IsPast (Some k) (Vector j) = k < j
IsPast (Some k) Joined = ⊤
IsPast (Some k) Results = ⊤

abbrev pub IsJobPast : Form → Option ℕ → Job → Type 0
IsJobPast form k job = IsOfForm form job × IsPast k job.place

-- L holds of jobs of the table in its order, each once, of no iteration up to k
pub record JobsPast (conf : Settings) (k : Option ℕ) (L : List JobSpec → Type 0) : Type 0 where
  pub jobs : List Job
  pub rise : Rise 0 jobs rank_behind
  pub each : AllByRecursion (IsJobPast conf.form k) jobs
  pub specs : List JobSpec
  pub are : AreJobsOf conf jobs specs
  pub log : L specs

-- what the log gained, and the children were given, is what the phases of such jobs add, each of which was begun only where those before it were done
abbrev pub GainsPast : Type 0 → (List (List ℕ) → List ℕ → List ℕ) → Settings → Option ℕ → Seen → Seen → List Given → List Given → Told → Type 0
GainsPast tells gives conf k old new had has told =
    JobsPast conf k (λ specs. GainsJobs (rule_of conf) tells gives specs old new had has told)

-- what the log gained, and the children were given, is what the phases of such jobs add, each of which was done
abbrev pub FinishesPast : Type 0 → (List (List ℕ) → List ℕ → List ℕ) → Settings → Option ℕ → Seen → Seen → List Given → List Given → Told → Type 0
FinishesPast tells gives conf k old new had has told =
    JobsPast conf k (λ specs. FinishesJobs (rule_of conf) tells gives specs old new had has told)
