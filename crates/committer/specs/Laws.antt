-- What folders and their paths are good for, as laws.
use Rattle.std.specs.Prelude.{◌≡◌, ◌≢◌, ℕ, ◌<◌, true, false, ◌↔◌, codes}
use Rattle.peg_base.specs.declared.tasks.Phase.TheVariants.{Map, Combine, Reduce}
use Rattle.peg_base.specs.Names.{Names, under, same_path}
use Rattle.dir_disk.specs.State.{State, Image, Fits, IsSound}
use Rattle.committer.specs.Paths.{success_of, part_of, part_name, task_name, task_part_of, attempt_name, input_name}
use Rattle.committer.specs.Folders.{IsWhole, IsNotWhole, IsUnmarked, IsSealed}
use Rattle.committer.specs.Commits.{HasParts, IsCommitted}

-- a state has a folder unmarked exactly where no image of the state has it whole
abbrev pub UnmarkedIsWholeInNone : Type 0
UnmarkedIsWholeInNone =
    (folder : Names) (state : State) → IsSound state → IsUnmarked folder state ↔ ((image : Image) → Fits state image → IsNotWhole folder image)

-- a sealed folder is whole in each image, with the files that it had before
abbrev pub SealedIsWholeInEach : Type 0
SealedIsWholeInEach =
    (folder : Names) (entry state : State) (image : Image) → IsSealed folder entry state → Fits state image → IsWhole folder image × ((path : Names) → under folder path ≡ true → same_path (success_of folder) path ≡ false → image path ≡ (entry path).now)

-- a committed folder is whole in each image, with all its parts and nothing else
abbrev pub CommittedIsWholeInEach : Type 0
CommittedIsWholeInEach =
    (folder : Names) (reducers : ℕ) (entry state : State) (image : Image) → IsCommitted folder reducers entry state → Fits state image → IsWhole folder image × HasParts folder reducers entry image

-- nothing lies under two parts of different numbers, in the folder or where their tasks left them
abbrev pub PartsAreApart : Type 0
PartsAreApart =
    (folder : Names) (one other : ℕ) (path : Names) → one < 100000 → other < 100000 → one ≢ other → (under (part_of folder one) path ≡ true → under (part_of folder other) path ≡ false) × (under (task_part_of folder one) path ≡ true → under (task_part_of folder other) path ≡ false)

-- numbers are filled with zeros
abbrev pub NamesByExample : Type 0
NamesByExample =
    (part_name 63 ≡ codes "part-00063") × (task_name Map 524287 ≡ codes "task-m-524287") × (attempt_name Reduce 7 4 ≡ codes "attempt-r-000007-4") × (task_name Combine 1 ≡ codes "task-c-000001") × (input_name Map 0 ≡ codes "m-000000.in") × (input_name Combine 20 ≡ codes "c-000020.in") × (input_name Reduce 63 ≡ codes "r-000063.in")
