-- Folders of one part that are written by the driver.
use Rattle.std.specs.Prelude.{◌≡◌, ℕ, true, false, List, [], ◌∷◌, ◌++◌, None, Some, decimal}
use Rattle.std.specs.List.{flat_map, range_with_len}
use Rattle.peg_base.specs.Names.{Names, under, same_path}
use Rattle.peg_text.specs.Pairs.{pair_line}
use Rattle.dir_disk.specs.State.{Image, State, StandsOutside, absent}
use Rattle.dir_disk.specs.Moments.{Both, EachImage, Through, Told, files}
use Rattle.committer.specs.Folders.{IsBegun, IsWhole, Writes, fixed}
use Rattle.committer.specs.Paths.{part_of, success_of}

-- each path of the folder but its `_SUCCESS` and its first part has this
abbrev pub EachOther : Names → (Names → Type 0) → Type 0
EachOther folder P =
    (path : Names) → under folder path ≡ true → same_path (success_of folder) path ≡ false
    → same_path (part_of folder 0) path ≡ false → P path

-- where the folder is whole its one part is this text, and no other file is there but its `_SUCCESS`
pub record HasTextIn (folder : Names) (text : List ℕ) (image : Image) : Type 0 where
  pub part : image (part_of folder 0) ≡ Some text
  pub no_other : EachOther folder (λ path. image path ≡ None)

abbrev pub HasTextIfWhole : Names → List ℕ → Image → Type 0
HasTextIfWhole folder text image = IsWhole folder image → HasTextIn folder text image

-- a step while a folder of one part with this text is made
pub record Makes (folder : Names) (text : List ℕ) (entry before after : State) : Type 0 where
  pub images : EachImage (HasTextIfWhole folder text) before after
  pub outside : Both (StandsOutside folder entry) before after

-- the folder is whole in each image, with this text as its one part
pub record IsMade (folder : Names) (text : List ℕ) (state : State) : Type 0 where
  pub success : state (success_of folder) ≡ fixed (Some [])
  pub part : state (part_of folder 0) ≡ fixed (Some text)
  pub no_other : EachOther folder (λ path. state path ≡ absent)

-- the folder is written, and its part has this text so far
pub record IsWriting (folder : Names) (text : List ℕ) (entry now : Told) : Type 0 where
  pub steps : Through (Writes folder (files entry)) entry now
  pub begun : IsBegun folder (files now)
  pub part : (files now (part_of folder 0)).now ≡ Some text

-- the folder is written, and what was gathered is this text with what is held
pub record IsGathering (folder : Names) (text held : List ℕ) (entry now : Told) : Type 0 where
  pub sofar : List ℕ
  pub writing : IsWriting folder sofar entry now
  pub all : text ≡ sofar ++ held

-- ---- the nodes

-- the line of the node at a place: `p TAB P SP p`
abbrev pub node_line : ℕ → List ℕ
node_line p = pair_line (decimal p) (80 ∷ 32 ∷ decimal p)

-- the lines of n nodes
abbrev pub nodes_text : ℕ → List ℕ
nodes_text n = flat_map node_line (range_with_len 0 n)
