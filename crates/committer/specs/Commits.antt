-- What a commit makes of an attempt's folder, and of a job's folder.
use Rattle.std.specs.Prelude.{◌≡◌, ℕ, ◌<◌, ◌≤◌, true, false, [], ◌++◌, length, None, Some}
use Rattle.peg_base.specs.Names.{Names, under, same_path}
use Rattle.dir_disk.specs.State.{State, Image, StandsOutside, absent}
use Rattle.dir_disk.specs.Moments.{EachImage, Both}
use Rattle.dir_disk.specs.Calls.{HasFile, IsOpen}
use Rattle.committer.specs.Paths.{success_of, part_of, temporary_of, task_part_of}
use Rattle.committer.specs.Folders.{IsWhole, fixed}

-- no file is at or under the path
abbrev pub HasNoFile : Names → State → Type 0
HasNoFile top state = (path : Names) → under top path ≡ true → (state path).now ≡ None

-- each file at or under the path has a path of at most 8 names
abbrev pub HasShortPaths : Names → State → Type 0
HasShortPaths top state = (path : Names) → under top path ≡ true → HasFile state path → length path ≤ 8

-- all but what lies at and under these two paths is as at entry
abbrev pub StandsBeside : Names → Names → State → State → Type 0
StandsBeside one other entry state =
    (path : Names) → under one path ≡ false → under other path ≡ false → state path ≡ entry path

-- each part is where the commit of its task left it, and nothing may be in the folder outside its `_temporary`, so it is whole in no image
pub record CanCommit (folder : Names) (reducers : ℕ) (state : State) : Type 0 where
  pub is_open : IsOpen state folder
  pub parts : (part : ℕ) → part < reducers → HasFile state (task_part_of folder part)
  pub short : (part : ℕ) → part < reducers → HasShortPaths (task_part_of folder part) state
  pub bare : (path : Names) → under folder path ≡ true → under (temporary_of folder) path ≡ false → state path ≡ absent

-- while the parts are moved: the folder's `_SUCCESS` and all outside the folder are as at entry
pub record IsUnsealed (folder : Names) (entry state : State) : Type 0 where
  pub success : state (success_of folder) ≡ entry (success_of folder)
  pub outside : StandsOutside folder entry state

-- the parts below `count` were moved, and all else is as at entry
pub record IsMovedUpTo (folder : Names) (count : ℕ) (entry state : State) : Type 0 where
  pub parts : (part : ℕ) → part < count → (rest : Names) → (state (part_of folder part ++ rest)).now ≡ (entry (task_part_of folder part ++ rest)).now
  pub others : (path : Names) → ((part : ℕ) → part < count → (under (task_part_of folder part) path ≡ false) × (under (part_of folder part) path ≡ false)) → state path ≡ entry path

-- the folder has each part, and what lay under it, with the bytes that its task left, and no other file but `_SUCCESS`
pub record HasParts (folder : Names) (reducers : ℕ) (entry : State) (image : Image) : Type 0 where
  pub parts : (part : ℕ) → part < reducers → (rest : Names) → image (part_of folder part ++ rest) ≡ (entry (task_part_of folder part ++ rest)).now
  pub no_other : (path : Names) → under folder path ≡ true → same_path (success_of folder) path ≡ false → ((part : ℕ) → part < reducers → under (part_of folder part) path ≡ false) → image path ≡ None

abbrev pub HasPartsIfWhole : Names → ℕ → State → Image → Type 0
HasPartsIfWhole folder reducers entry image =
    IsWhole folder image → HasParts folder reducers entry image

-- a step while a job is committed
pub record Commits (folder : Names) (reducers : ℕ) (entry before after : State) : Type 0 where
  pub images : EachImage (HasPartsIfWhole folder reducers entry) before after
  pub outside : Both (StandsOutside folder entry) before after

-- the folder is whole in each image, with an empty `_SUCCESS`, each part with the bytes that its task left, and no other file
pub record IsCommitted (folder : Names) (reducers : ℕ) (entry state : State) : Type 0 where
  pub success : state (success_of folder) ≡ fixed (Some [])
  pub parts : (part : ℕ) → part < reducers → (rest : Names) → state (part_of folder part ++ rest) ≡ fixed (entry (task_part_of folder part ++ rest)).now
  pub no_other : (path : Names) → under folder path ≡ true → same_path (success_of folder) path ≡ false → ((part : ℕ) → part < reducers → under (part_of folder part) path ≡ false) → state path ≡ absent
