-- What the answers of a role say.
use Rattle.std.specs.Prelude.{◌≡◌, ◌≢◌, ℕ, List, ◌∷◌, ◌++◌, Option, Some, None}
use Rattle.gimv_base.specs.Parts.{Part, after}

-- a record was taken in and this was written: what comes then is what came from here
pub record Takes (before now : List (List ℕ) → Part) (record' old new : List ℕ) : Type 0 where
  pub added : List ℕ
  pub grown : new ≡ old ++ added
  pub on : (later : List (List ℕ)) → before (record' ∷ later) ≡ after added 1 (now later)

-- whatever follows, this record is the first bad one (1), or the one before it is (0)
abbrev pub IsBadAt : ℕ → (List (List ℕ) → Part) → List ℕ → Type 0
IsBadAt k before record' = (later : List (List ℕ)) → (before (record' ∷ later)).bad ≡ Some k

-- some records may follow with which this one isn't bad
pub record IsNotBad (before : List (List ℕ) → Part) (record' : List ℕ) : Type 0 where
  pub later : List (List ℕ)
  pub good : (before (record' ∷ later)).bad ≢ Some 1

-- nothing follows, and this was written last
pub record Ends (last : Part) (old new : List ℕ) : Type 0 where
  pub grown : new ≡ old ++ last.out
  pub good : last.bad ≡ None

-- this was written, and maybe more
pub record GoesOnWith (front old new : List ℕ) : Type 0 where
  pub more : List ℕ
  pub is : new ≡ (old ++ front) ++ more

-- a record was taken in by a group that had begun and still goes on
abbrev pub GoesOn : {S : Type 0} → (S → List (List ℕ) → Part) → Option S → Option S → List ℕ → List ℕ → List ℕ → Type 0
GoesOn gives None now record' old new = ⊥
GoesOn gives (Some before) None record' old new = ⊥
GoesOn gives (Some before) (Some now) record' old new = Takes (gives before) (gives now) record' old new
