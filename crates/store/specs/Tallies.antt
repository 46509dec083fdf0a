-- How far the records of a part were tallied.
use Rattle.std.specs.Prelude.{◌≡◌, ℕ, ◌+◌, Bool, true, List, ◌++◌, length}
use Rattle.std.specs.List.{list_all}
use Rattle.peg_text.specs.Records.{records_of}
use Rattle.store.specs.Parts.{Record, numbered}

-- these are the texts of a part: some were tallied behind the records of earlier parts, all of them good,
-- and the bytes that are left have the others
pub record HasTallied (is_good : List ℕ → Bool) (tallies : List Record → Type 0) (before : List Record)
    (part : ℕ) (texts : List (List ℕ)) (left : List ℕ) (line : ℕ) : Type 0 where
  pub done : List (List ℕ)
  pub tallied : tallies (before ++ numbered part 1 done)
  pub parts : texts ≡ done ++ records_of left
  pub good : list_all is_good done ≡ true
  pub number : line ≡ length done + 1

-- all texts of a part were tallied
pub record HasAll (is_good : List ℕ → Bool) (tallies : List Record → Type 0) (before : List Record)
    (part : ℕ) (texts : List (List ℕ)) : Type 0 where
  pub tallied : tallies (before ++ numbered part 1 texts)
  pub good : list_all is_good texts ≡ true
