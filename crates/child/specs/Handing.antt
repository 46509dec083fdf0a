-- What is known of a role after the records that were handed to it.
use Rattle.std.specs.Prelude.{◌≡◌, ℕ, List, [], ◌∷◌, ◌++◌, Option, Some, None, length, take}
use Rattle.peg_text.specs.Lists.{GoesOnFrom}
use Rattle.peg_text.specs.Pairs.{key_of}
use Rattle.gimv_base.specs.Parts.{after, written}
use Rattle.gimv_base.specs.Rules.{Rule, ByRecord, ByGroup, role_out, complete}
use Rattle.gimv_base.specs.Standings.{Standing, open_key, yet}
use Rattle.child.specs.declared.status.ChildStatus.{ChildStatus}
use Rattle.child.specs.declared.status.ChildStatus.TheVariants as Status
use Rattle.child.specs.Judging.{IsBadAmong, AreGood}

abbrev pub last_key : List (List ℕ) → Option (List ℕ)
last_key [] = None
last_key (r ∷ []) = Some (key_of r)
last_key (r ∷ s ∷ rs) = last_key (s ∷ rs)

-- the key of the group that records leave open
abbrev pub key_left : Rule → List (List ℕ) → Option (List ℕ)
key_left (ByRecord text) rs = None
key_left (ByGroup part) rs = last_key rs

-- what the complete groups of records give
abbrev pub complete_out : Rule → List (List ℕ) → List ℕ
complete_out rule rs = (role_out rule (complete rule rs)).out

-- these records were handed to a role that began with nothing, and this was written for them
pub record HasHanded (rule : Rule) (records : List (List ℕ)) (standing : Standing) (outs : List ℕ) : Type 0 where
  -- what comes is what comes from here
  pub on : (later : List (List ℕ)) → role_out rule (records ++ later) ≡ after outs (length records) (yet standing later)
  -- what is complete among the first of them was written
  pub prompt : (k : ℕ) → GoesOnFrom (complete_out rule (take k records)) outs
  pub good : AreGood rule records
  pub key : open_key standing ≡ key_left rule records
  pub rule_stays : standing.rule ≡ rule

-- the next record was handed to a role, and this was written
pub record Hands (before now : Standing) (record' old new : List ℕ) : Type 0 where
  pub added : List ℕ
  pub grown : new ≡ old ++ added
  pub on : (rule : Rule) (records : List (List ℕ)) (outs : List ℕ) → HasHanded rule records before outs → HasHanded rule (records ++ (record' ∷ [])) now (outs ++ added)

-- why the next record isn't taken, where so many came before
abbrev pub IsRefused : Standing → ℕ → List ℕ → ChildStatus → Type 0
IsRefused before count record' Status.Ok = ⊥
IsRefused before count record' Status.Usage = ⊥
IsRefused before count record' (Status.BadLine line) =
    (rule : Rule) (records : List (List ℕ)) (outs : List ℕ) → HasHanded rule records before outs → length records ≡ count
    → IsBadAmong rule (records ++ (record' ∷ [])) line
IsRefused before count record' Status.TooLarge = ⊥
IsRefused before count record' Status.NoMemory = Unit {0}
IsRefused before count record' Status.Fault = ⊥

-- no record follows, and this was written last
pub record HandsNoMore (before : Standing) (old new : List ℕ) : Type 0 where
  pub added : List ℕ
  pub grown : new ≡ old ++ added
  pub on : (rule : Rule) (records : List (List ℕ)) (outs : List ℕ) → HasHanded rule records before outs → role_out rule records ≡ written (outs ++ added)

-- why a role that has taken so many records doesn't end well
abbrev pub IsRefusedLast : Standing → ℕ → ChildStatus → Type 0
IsRefusedLast before count Status.Ok = ⊥
IsRefusedLast before count Status.Usage = ⊥
IsRefusedLast before count (Status.BadLine line) =
    (rule : Rule) (records : List (List ℕ)) (outs : List ℕ) → HasHanded rule records before outs → length records ≡ count
    → (role_out rule records).bad ≡ Some line
IsRefusedLast before count Status.TooLarge = ⊥
IsRefusedLast before count Status.NoMemory = Unit {0}
IsRefusedLast before count Status.Fault = ⊥
