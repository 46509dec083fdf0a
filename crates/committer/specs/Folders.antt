-- Whole folders, and what may be seen of a folder while it is made or taken away.
use Rattle.std.specs.Prelude.{◌≡◌, true, false, ◌⊎◌, [], ◌∷◌, None, Some, IsSome}
use Rattle.peg_base.specs.Names.{Names, under, same_path}
use Rattle.dir_disk.specs.State.{Content, Allows, Held, State, Image, StandsOutside, absent, just}
use Rattle.dir_disk.specs.Moments.{EachImage, Both}
use Rattle.dir_disk.specs.Calls.{HasFile}
use Rattle.committer.specs.Paths.{success_of, part_of}

abbrev pub IsWhole : Names → Image → Type 0
IsWhole folder image = IsSome (image (success_of folder))

abbrev pub IsNotWhole : Names → Image → Type 0
IsNotWhole folder image = IsWhole folder image → ⊥

-- the folder is whole in no image
abbrev pub IsUnmarked : Names → State → Type 0
IsUnmarked folder state = (content : Content) → Allows (state (success_of folder)).may content → content ≡ None

-- nothing is at or under the path, and a stop leaves nothing there
abbrev pub IsEmpty : Names → State → Type 0
IsEmpty top state = (path : Names) → under top path ≡ true → state path ≡ absent

-- this content, and a stop leaves just that
abbrev pub fixed : Content → Held
fixed content = record { now = content; may = just content ∷ [] }

-- files at and under the path may have gone, and all else is as at entry
pub record Less (top : Names) (entry state : State) : Type 0 where
  pub reach : (path : Names) (content : Content) → Allows (state path).may content → Allows (entry path).may content ⊎ ((under top path ≡ true) × (content ≡ None))
  pub outside : StandsOutside top entry state

-- any file may have come to stand at the path, and all else is as at entry
pub record More (top : Names) (entry state : State) : Type 0 where
  pub reach : (path : Names) (content : Content) → Allows (state path).may content → Allows (entry path).may content ⊎ ((same_path top path ≡ true) × IsSome content)
  pub outside : StandsOutside top entry state

-- ---- a folder that is taken away

-- where the folder is whole it has just what some image at entry has at and under it, but that files under its `_SUCCESS` may be gone
abbrev pub HasEntryIfWhole : Names → State → Image → Type 0
HasEntryIfWhole folder entry image =
    IsWhole folder image → (path : Names) → under folder path ≡ true → Allows (entry path).may (image path) ⊎ ((under (success_of folder) path ≡ true) × (image path ≡ None))

-- a step while a folder is taken away
pub record Drops (folder : Names) (entry before after : State) : Type 0 where
  pub images : EachImage (HasEntryIfWhole folder entry) before after
  pub less : Both (Less folder entry) before after

-- a step while a folder that isn't whole is emptied
pub record Opens (folder : Names) (entry before after : State) : Type 0 where
  pub images : EachImage (IsNotWhole folder) before after
  pub less : Both (Less folder entry) before after

-- ---- a folder of one part

-- a step while a folder is written that isn't whole yet
pub record Writes (folder : Names) (entry before after : State) : Type 0 where
  pub images : EachImage (IsNotWhole folder) before after
  pub outside : Both (StandsOutside folder entry) before after

-- the folder has its one part and nothing else, so it is whole in no image; no file is at the folder or above it
pub record IsBegun (folder : Names) (state : State) : Type 0 where
  pub is_open : (path : Names) → under path folder ≡ true → (state path).now ≡ None
  pub part : HasFile state (part_of folder 0)
  pub no_other : (path : Names) → under folder path ≡ true → same_path (part_of folder 0) path ≡ false → state path ≡ absent

-- where the folder is whole it has just the files that it has at entry, and its `_SUCCESS`
abbrev pub HasAllIfWhole : Names → State → Image → Type 0
HasAllIfWhole folder entry image =
    IsWhole folder image → (path : Names) → under folder path ≡ true → same_path (success_of folder) path ≡ false → image path ≡ (entry path).now

-- a step while a folder is made whole
pub record Seals (folder : Names) (entry before after : State) : Type 0 where
  pub images : EachImage (HasAllIfWhole folder entry) before after
  pub outside : Both (StandsOutside folder entry) before after

-- the folder is whole in each image, with an empty `_SUCCESS` and just the files that it has at entry
pub record IsSealed (folder : Names) (entry state : State) : Type 0 where
  pub success : state (success_of folder) ≡ fixed (Some [])
  pub files : (path : Names) → under folder path ≡ true → same_path (success_of folder) path ≡ false → state path ≡ fixed (entry path).now
