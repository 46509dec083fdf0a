-- The records of a folder's parts.
use Rattle.std.specs.Prelude.{◌≡◌, ℕ, zero, suc, ◌+◌, ◌<◌, Bool, true, false, List, [], ◌∷◌, ◌++◌, Some, None, length}
use Rattle.std.specs.List.{list_all}
use Rattle.peg_base.specs.Names.{Names}
use Rattle.peg_text.specs.Records.{records_of}
use Rattle.dir_disk.specs.State.{Content, State, bytes_at}
use Rattle.dir_disk.specs.Calls.{HasFile}
use Rattle.committer.specs.Paths.{part_of}

-- a record, and where it stands: in which part, and as which record of it, from 1
pub record Record : Type 0 where
  pub part : ℕ
  pub line : ℕ
  pub text : List ℕ

-- the texts of a part's records, of which the first one has this number, as records
abbrev pub numbered : ℕ → ℕ → List (List ℕ) → List Record
numbered part line [] = []
numbered part line (text ∷ texts) =
    record { part = part; line = line; text = text } ∷ numbered part (line + 1) texts

-- the records of a part
abbrev pub records_in : State → Names → ℕ → List Record
records_in state folder part = numbered part 1 (records_of (bytes_at state (part_of folder part)))

-- the records of the first parts, in the order of the parts
abbrev pub records_below : State → Names → ℕ → List Record
records_below state folder zero = []
records_below state folder (suc part) = records_below state folder part ++ records_in state folder part

-- the first of these texts that isn't good has this number, from 1
pub record IsFirstBad (is_good : List ℕ → Bool) (texts : List (List ℕ)) (line : ℕ) : Type 0 where
  pub before : List (List ℕ)
  pub text : List ℕ
  pub after : List (List ℕ)
  pub parts : texts ≡ before ++ (text ∷ after)
  pub good : list_all is_good before ≡ true
  pub bad : is_good text ≡ false
  pub number : line ≡ length before + 1

-- what is wrong with a part: it isn't there, which is line 0, or a record of it isn't good
abbrev pub IsBad : (List ℕ → Bool) → Content → ℕ → Type 0
IsBad good None line = line ≡ 0
IsBad good (Some bytes) line = IsFirstBad good (records_of bytes) line

-- a part is there, and all its records are good
abbrev pub IsGood : (List ℕ → Bool) → State → Names → ℕ → Type 0
IsGood good state folder part =
    let path = part_of folder part in
    HasFile state path × (list_all good (records_of (bytes_at state path)) ≡ true)

-- this holds of each of a folder's first parts
abbrev pub AreGood : (List ℕ → Bool) → State → Names → ℕ → Type 0
AreGood good state folder parts = (part : ℕ) → part < parts → IsGood good state folder part

-- a folder's first parts are there
abbrev pub AreThere : State → Names → ℕ → Type 0
AreThere state folder parts = (part : ℕ) → part < parts → HasFile state (part_of folder part)

-- the first part with which something is wrong is at this path
pub record IsBadStore (is_good : List ℕ → Bool) (state : State) (folder : Names) (parts : ℕ)
    (path : Names) (line : ℕ) : Type 0 where
  pub part : ℕ
  pub inside : part < parts
  pub named : path ≡ part_of folder part
  pub before : AreGood is_good state folder part
  pub bad : IsBad is_good (state path).now line

-- the first of a folder's first parts that isn't there is at this path
pub record IsFirstMissing (state : State) (folder : Names) (parts : ℕ) (path : Names) : Type 0 where
  pub part : ℕ
  pub inside : part < parts
  pub named : path ≡ part_of folder part
  pub before : AreThere state folder part
  pub none : (state path).now ≡ None
