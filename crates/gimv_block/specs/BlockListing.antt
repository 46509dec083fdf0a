-- What `blocks` writes for a good group, as whole lines.
use Rattle.std.specs.Prelude.{◌≡◌, ◌≢◌, ℕ, ◌≤◌, List, [], ◌∷◌, map, length, All, Option, Some}
use Rattle.std.specs.List.{flat_map}
use Rattle.peg_text.specs.Pairs.{key_of}
use Rattle.graph.specs.Entries.{Entry}
use Rattle.gimv_base.specs.Parts.{Part, written}
use Rattle.gimv_base.specs.Lines.{with_lf}
use Rattle.gimv_block.specs.BlockRecords.{block_pair_of, cut_record_of}
use Rattle.gimv_block.specs.BlockLines.{link_text}
use Rattle.gimv_block.specs.BlockRules.{most_items, blocks_part}

-- a line is neither empty nor too long
pub record IsSized {A : Type 0} (line : List A) : Type 0 where
  pub some : line ≢ []
  pub few : length line ≤ most_items

-- the text of a line of entries between two blocks
abbrev pub listed_line : {A : Type 0} → (A → Entry ℕ) → ℕ → ℕ → List A → List ℕ
listed_line entry j i line = with_lf (link_text j i (map entry line))

-- entries between two blocks are listed, in their order, in lines of one item to the most
pub record AreListed {A : Type 0} (entry : A → Entry ℕ) (j i : ℕ) (xs : List A) (part : Part) : Type 0 where
  pub lines : List (List A)
  pub together : flat_map (λ line. line) lines ≡ xs
  pub sizes : All IsSized lines
  pub is : part ≡ written (flat_map (listed_line entry j i) lines)

-- those of a good group
abbrev pub BlocksAreListed : Type 0 → Type 0
BlocksAreListed A =
    (entry : A → Entry ℕ) (j i : ℕ) (r : List ℕ) (rs : List (List ℕ)) (x : A) (xs : List A)
    → block_pair_of (key_of r) ≡ Some (j, i) → map cut_record_of (r ∷ rs) ≡ map Some (map entry (x ∷ xs))
    → AreListed entry j i (x ∷ xs) (blocks_part (r ∷ rs))
