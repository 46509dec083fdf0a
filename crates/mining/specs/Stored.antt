-- What is wrong with the part that a refusal names.
use Rattle.std.specs.Prelude.{◌≡◌, ◌≢◌, ℕ, ◌<◌, ◌^◌, ◌⊎◌, ⊤, Bool, List, [], Option, Some, None, get_or, length}
use Rattle.peg_base.specs.Names.{Names}
use Rattle.dir_disk.specs.State.{State}
use Rattle.committer.specs.Paths.{part_of}
use Rattle.conf.specs.declared.commands.Command.TheVariants.{Hcc}
use Rattle.conf.specs.declared.reading.Conf.{Conf as Settings}
use Rattle.store.specs.declared.changes.Place.{Place as Spot}
use Rattle.store.specs.Parts.{AreGood, IsBadStore, records_below}
use Rattle.store.specs.Totals.{first_change, is_result, is_value}
use Rattle.mining.specs.declared.place.Place.{Place}
use Rattle.mining.specs.declared.place.Place.TheVariants.{Conf, Vector, Results}
use Rattle.mining.specs.Places.{folder_of, IsInTable}
use Rattle.mining.specs.Table.{part_count}
use Rattle.mining.specs.Between.{IsSure}
use Rattle.mining.specs.declared.stop.Stop.{Stop}
use Rattle.mining.specs.declared.stop.Stop.TheVariants.{TaskFailed, BadStore, BadEdge, BigNode, TooLarge, OtherJob, OtherEdges, Disk, Read, Say, NoMemory}

-- a part of a folder that is whole in each image isn't there, which is line 0; the settings aren't such a folder
pub record LacksPart (conf : Settings) (state : State) (path : Names) (line : ℕ) : Type 0 where
  pub place : Place
  pub is_there : IsInTable place
  pub not_conf : place ≢ Conf
  pub whole : IsSure place state
  pub part : ℕ
  pub inside : part < part_count conf place
  pub named : path ≡ part_of (folder_of place) part
  pub none : (state path).now ≡ None
  pub number : line ≡ 0

-- of a folder that is whole in each image this is the first part with which something is wrong: it isn't there, which is line 0,
-- or a record of it isn't of the folder's grammar, and this is the first one
pub record HasBadPart (is_good : List ℕ → Bool) (place : Place) (conf : Settings) (state : State) (path : Names) (line : ℕ) : Type 0 where
  pub whole : IsSure place state
  pub bad : IsBadStore is_good state (folder_of place) conf.reducers path line

-- so it is with the vector of an iteration
pub record HasBadVector (conf : Settings) (state : State) (path : Names) (line : ℕ) : Type 0 where
  pub k : ℕ
  pub few : k < 10 ^ 10
  pub is : HasBadPart is_value (Vector k) conf state path line

-- the vector of the last iteration that there can be of components is whole, and this is its first record that counts a change
pub record StillChanges (conf : Settings) (state : State) (path : Names) (line : ℕ) : Type 0 where
  pub command : conf.command ≡ Hcc
  pub few : conf.nodes < 10 ^ 10
  pub whole : IsSure (Vector conf.nodes) state
  pub good : AreGood is_value state (folder_of (Vector conf.nodes)) conf.reducers
  pub part : ℕ
  pub first : first_change (records_below state (folder_of (Vector conf.nodes)) conf.reducers) ≡ Some (record { part = part; line = line })
  pub named : path ≡ part_of (folder_of (Vector conf.nodes)) part

-- what is at this path, and at this line of it, isn't what a run of these settings makes, though its folder is whole
abbrev pub IsNotAsMade : Settings → State → Names → ℕ → Type 0
IsNotAsMade conf state path line =
    LacksPart conf state path line ⊎ (HasBadVector conf state path line ⊎ (HasBadPart is_result Results conf state path line ⊎ StillChanges conf state path line))

-- one of these files isn't there, which is line 0
pub record LacksFile (paths : List Names) (state : State) (path : Names) (line : ℕ) : Type 0 where
  pub place : ℕ
  pub inside : place < length paths
  pub named : path ≡ get_or paths place []
  pub none : (state path).now ≡ None
  pub number : line ≡ 0

-- ---- refusals

-- a place that is named as bad has P
abbrev pub IfBadStore : (Names → ℕ → Type 0) → Stop → Type 0
IfBadStore P (TaskFailed task) = ⊤
IfBadStore P (BadStore path line) = P path line
IfBadStore P (BadEdge line) = ⊤
IfBadStore P (BigNode line id) = ⊤
IfBadStore P TooLarge = ⊤
IfBadStore P (OtherJob line) = ⊤
IfBadStore P (OtherEdges line) = ⊤
IfBadStore P Disk = ⊤
IfBadStore P Read = ⊤
IfBadStore P Say = ⊤
IfBadStore P NoMemory = ⊤

-- no place is named as bad
abbrev pub IsNoBadStore : Stop → Type 0
IsNoBadStore stop = IfBadStore (λ path line. ⊥) stop

-- the bound on iterations is named: iteration k is the last that there can be of components, and this record of the folder is
-- the first that counts a change
pub record NamesChange (conf : Settings) (k : ℕ) (folder : Names) (first : Option Spot) (path : Names) (line : ℕ) : Type 0 where
  pub command : conf.command ≡ Hcc
  pub bound : k ≡ conf.nodes
  pub part : ℕ
  pub is : first ≡ Some (record { part = part; line = line })
  pub named : path ≡ part_of folder part
