-- Where a role stands among its records: what is yet to be written.
use Rattle.std.specs.Prelude.{ℕ, Bool, false, List, [], ◌∷◌, Option, Some, None, option_map, length, if◌then◌else◌}
use Rattle.gimv_base.specs.Parts.{Part, nothing, joined}
use Rattle.gimv_base.specs.Rules.{Rule, ByRecord, ByGroup, has_key, role_out}
use Rattle.peg_text.specs.Pairs.{key_of}

-- a group that has begun: its key, and what its further records give
pub record Begun : Type 0 where
  pub key : List ℕ
  pub part : List (List ℕ) → Part

-- how a role writes, and the group that has begun, if one has
pub record Standing : Type 0 where
  pub rule : Rule
  pub begun : Option Begun

-- before the first record
abbrev pub fresh : Rule → Standing
fresh rule = record { rule = rule; begun = None }

-- the records from the front that have this key, and those from the first on that hasn't
abbrev pub while_key : List ℕ → List (List ℕ) → List (List ℕ)
while_key key [] = []
while_key key (r ∷ rs) = if has_key key r then r ∷ while_key key rs else []

abbrev pub past_key : List ℕ → List (List ℕ) → List (List ℕ)
past_key key [] = []
past_key key (r ∷ rs) = if has_key key r then past_key key rs else r ∷ rs

-- what is yet to be written where these records follow, and the first bad one: 0 is the one before them
abbrev pub resumed : Rule → Option Begun → List (List ℕ) → Part
resumed rule None rs = role_out rule rs
resumed rule (Some begun) rs =
    joined (begun.part (while_key begun.key rs)) (length (while_key begun.key rs)) (role_out rule (past_key begun.key rs))

abbrev pub yet : Standing → List (List ℕ) → Part
yet standing rs = resumed standing.rule standing.begun rs

-- the key of the group that has begun
abbrev pub open_key : Standing → Option (List ℕ)
open_key standing = option_map (λ (begun : Begun). begun.key) standing.begun

-- whether a record goes on with the group of this key
abbrev pub goes_on : Option (List ℕ) → List ℕ → Bool
goes_on None r = false
goes_on (Some key) r = has_key key r

-- the key of the group that a record leaves open
abbrev pub key_after : Rule → List ℕ → Option (List ℕ)
key_after (ByRecord text) r = None
key_after (ByGroup part) r = Some (key_of r)

-- where a role of groups stands: its part of a group, the key, and what a state gives, if a group has begun
abbrev pub begun_with : {S : Type 0} → List ℕ → (S → List (List ℕ) → Part) → Option S → Option Begun
begun_with key gives None = None
begun_with key gives (Some state) = Some (record { key = key; part = gives state })

abbrev pub among_groups : {S : Type 0} → (List (List ℕ) → Part) → (S → List (List ℕ) → Part) → List ℕ → Option S → Standing
among_groups part gives key state = record { rule = ByGroup part; begun = begun_with key gives state }

-- what the group that has begun gives without further records
abbrev pub rest_of : {S : Type 0} → (S → List (List ℕ) → Part) → Option S → Part
rest_of gives None = nothing
rest_of gives (Some state) = gives state []

-- a role of groups as its parts: the form of its groups, the key of the group that has begun, and what is kept of it
pub record Held (Form State : Type 0) : Type 0 where
  pub form : Form
  pub key : List ℕ
  pub state : Option State
