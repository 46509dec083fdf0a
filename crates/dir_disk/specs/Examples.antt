-- What a stop may leave, by small examples and by what holds of every call.
use Rattle.std.specs.Prelude.{◌≡◌, ℕ, Bool, ◌⊎◌, ◌↔◌, false, List, [], ◌∷◌, ◌++◌, Some, None, IsSome, codes, if◌then◌else◌}
use Rattle.peg_base.specs.Names.{Names, same_path}
use Rattle.dir_disk.specs.State.{Member, Exactly, Content, Allows, State, Image, Fits, FitsEither, IsSound, no_files, absent, arrival}
use Rattle.dir_disk.specs.Calls.{Call, Append, Move, Remove, Settle, after, after_fault, after_all, Broken}
use Rattle.dir_disk.specs.Moments.{Told, Adds, IsClock, IsFresh}
use Rattle.dir_disk.specs.Children.{OnlyAt, after_start}

-- two files, a folder, and a file in it
abbrev pub x : Names
x = codes "x" ∷ []

abbrev pub y : Names
y = codes "y" ∷ []

abbrev pub folder : Names
folder = codes "folder" ∷ []

abbrev pub inside : Names
inside = codes "folder" ∷ codes "part" ∷ []

-- a stop may leave this content at the path, and no other
abbrev pub LeavesOnly : State → Names → Content → Type 0
LeavesOnly state path content = (left : Content) → Allows (state path).may left ↔ (left ≡ content)

-- a stop may leave a file of these bytes at the path, or no file, and nothing else
abbrev pub LeavesOrLoses : State → Names → List ℕ → Type 0
LeavesOrLoses state path bytes = (left : Content) → Allows (state path).may left ↔ ((left ≡ None) ⊎ (left ≡ Some bytes))

-- a stop may leave any file at the path, or none
abbrev pub LeavesAnything : State → Names → Type 0
LeavesAnything state path = (left : Content) → Allows (state path).may left

-- at each path where the test holds the first image, else the second
abbrev pub mixed : (Names → Bool) → Image → Image → Image
mixed first one other path = if first path then one path else other path

-- ---- files that were not settled

abbrev pub appended_file : List ℕ → State
appended_file bytes = after_all (Append x bytes ∷ []) no_files

abbrev pub AppendedMayBeAnything : Type 0
AppendedMayBeAnything = (bytes : List ℕ) → ((appended_file bytes x).now ≡ Some bytes) × LeavesAnything (appended_file bytes) x

abbrev pub MovedUnsettledMayBeAnything : Type 0
MovedUnsettledMayBeAnything = (bytes : List ℕ) → LeavesAnything (after (Move x y) (appended_file bytes)) y

-- ---- files that were settled

abbrev pub settled_file : List ℕ → State
settled_file bytes = after (Settle x) (appended_file bytes)

abbrev pub SettledIsThere : Type 0
SettledIsThere = (bytes : List ℕ) → LeavesOnly (settled_file bytes) x (Some bytes)

abbrev pub moved_file : List ℕ → State
moved_file bytes = after (Move x y) (settled_file bytes)

-- it may be at either path, at both, or at none
abbrev pub MovedMayBeAtEitherOrNone : Type 0
MovedMayBeAtEitherOrNone =
    (bytes : List ℕ) → LeavesOrLoses (moved_file bytes) x bytes × LeavesOrLoses (moved_file bytes) y bytes

abbrev pub RemovedMayBeThere : Type 0
RemovedMayBeThere = (bytes : List ℕ) → ((after (Remove x) (settled_file bytes) x).now ≡ None) × LeavesOrLoses (after (Remove x) (settled_file bytes)) x bytes

abbrev pub RemovedAndSettledIsGone : Type 0
RemovedAndSettledIsGone = (bytes : List ℕ) → after_all (Remove x ∷ Settle x ∷ []) (settled_file bytes) x ≡ absent

-- a folder that is settled, removed or moved takes along all that lies under it
abbrev pub SettledFolderIsThere : Type 0
SettledFolderIsThere = (bytes : List ℕ) → LeavesOnly (after_all (Append inside bytes ∷ Settle folder ∷ []) no_files) inside (Some bytes)

abbrev pub MovedFolderTakesAll : Type 0
MovedFolderTakesAll = (bytes : List ℕ) → (after_all (Append inside bytes ∷ Move folder y ∷ []) no_files (y ++ codes "part" ∷ [])).now ≡ Some bytes

-- what is moved comes out of a stop with just its bytes exactly where its old path allowed nothing else
abbrev pub ArrivesAsItWas : Type 0
ArrivesAsItWas = (may : List Member) (bytes : List ℕ) → Allows may (Some bytes) → (arrival may bytes ≡ Exactly bytes) ↔ (may ≡ Exactly bytes ∷ [])

-- ---- calls that fail

-- the state where a call was carried out at the paths where the test holds, and at no others
abbrev pub partly : (Names → Bool) → Call → State → State
partly went call state path =
    record {
      now = if went path then (after call state path).now else (state path).now;
      may = (after_fault call state path).may;
    }

abbrev pub FailsInAnyPart : Type 0
FailsInAnyPart = (call : Call) (state : State) (went : Names → Bool) → IsSound state → Broken call state (partly went call state)

abbrev pub FailedAppendMayBeAnything : Type 0
FailedAppendMayBeAnything = (path : Names) (bytes : List ℕ) (old new : State) (left : Content) → Broken (Append path bytes) old new → IsSome left → Allows (new path).may left

-- ---- moments

-- between two calls an image fits the state
abbrev pub FitsBetween : Type 0
FitsBetween = (state : State) (image : Image) → FitsEither state state image ↔ Fits state image

-- within a call any paths may be as before it, and all others as after it
abbrev pub MixesWithin : Type 0
MixesWithin = (before after : State) (first : Names → Bool) (one other : Image) → Fits before one → Fits after other → FitsEither before after (mixed first one other)

-- what is there now may be there after a stop, after each call
abbrev pub StaysSound : Type 0
StaysSound = (call : Call) (state : State) → IsSound state → IsSound (after call state)

-- ---- the clock of what is said

abbrev pub CallMakesFresh : Type 0
CallMakesFresh = (old new : Told) → Adds old new → IsClock old → IsClock new × IsFresh new

-- ---- children

-- what a child has written may have any bytes after a stop, or may not be there, until it is settled
abbrev pub StartedMayLeaveAnything : Type 0
StartedMayLeaveAnything = LeavesAnything (after_start x no_files) x

abbrev pub StartLeavesOthers : Type 0
StartLeavesOthers = (output path : Names) (state : State) → same_path output path ≡ false → after_start output state path ≡ state path

-- the end of a child leaves all paths but its output as they are
abbrev pub EndLeavesOthers : Type 0
EndLeavesOthers = (output path : Names) (old new : State) → OnlyAt output old new → same_path output path ≡ false → new path ≡ old path
