-- What a directory holds, and what a stop may leave of it.
use Rattle.std.specs.Prelude.{◌≡◌, ℕ, false, ◌⊎◌, List, [], ◌∷◌, ◌++◌, Option, Some, None, IsSome, if◌then◌else◌}
use Rattle.peg_base.specs.Names.{Names, under, same_path, after_top}

-- what a path may have after a stop: no file, a file of just these bytes, or a file of any bytes
pub data Member : Type 0 where
  Gone : Member
  Exactly : List ℕ → Member
  Anything : Member

-- what a path has: no file, or the bytes of one
abbrev pub Content : Type 0
Content = Option (List ℕ)

abbrev pub Admits : Member → Content → Type 0
Admits Gone content = content ≡ None
Admits (Exactly bytes) content = content ≡ Some bytes
Admits Anything content = IsSome content

-- some member admits the content
abbrev pub Allows : List Member → Content → Type 0
Allows [] content = ⊥
Allows (member ∷ may) content = Admits member content ⊎ Allows may content

-- what a path has now, and what a stop may leave there, the newest member first
pub record Held : Type 0 where
  pub now : Content
  pub may : List Member

-- each path with what it holds; folders are no objects of their own
abbrev pub State : Type 0
State = Names → Held

-- what is there after a stop
abbrev pub Image : Type 0
Image = Names → Content

-- each path of the image for itself is as some member of its `may` allows
abbrev pub Fits : State → Image → Type 0
Fits state image = (path : Names) → Allows (state path).may (image path)

-- an image of a moment within a call: each path for itself is as the state before or the state after allows
abbrev pub FitsEither : State → State → Image → Type 0
FitsEither before after image = (path : Names) → Allows (before path).may (image path) ⊎ Allows (after path).may (image path)

-- what is there now may be there after a stop
abbrev pub IsSound : State → Type 0
IsSound state = (path : Names) → Allows (state path).may (state path).now

-- no file is there, and a stop leaves none
abbrev pub absent : Held
absent = record { now = None; may = Gone ∷ [] }

abbrev pub no_files : State
no_files path = absent

-- the bytes of a file; a file that isn't there counts as empty
abbrev pub bytes_of : Content → List ℕ
bytes_of None = []
bytes_of (Some bytes) = bytes

-- the member that allows this content alone
abbrev pub just : Content → Member
just None = Gone
just (Some bytes) = Exactly bytes

-- the bytes that stand at the path
abbrev pub bytes_at : State → Names → List ℕ
bytes_at state path = bytes_of (state path).now

abbrev pub appended : List ℕ → Held → Held
appended bytes held = record { now = Some (bytes_of held.now ++ bytes); may = Anything ∷ held.may }

-- a file is gone now, and may be gone after a stop; where no file is nothing changes
abbrev pub removed_from : Content → Held → Held
removed_from None held = held
removed_from (Some bytes) held = record { now = None; may = Gone ∷ held.may }

abbrev pub removed : Held → Held
removed held = removed_from held.now held

abbrev pub settled : Held → Held
settled held = record { now = held.now; may = just held.now ∷ [] }

-- how a file that is moved may come out of a stop at its new path: with just its bytes where its old path allowed nothing else
abbrev pub arrival : List Member → List ℕ → Member
arrival (Exactly old ∷ []) bytes = Exactly bytes
arrival _ bytes = Anything

-- the content and the members of the old path, and what the new path holds
abbrev pub moved_to : Content → List Member → Held → Held
moved_to None may held = held
moved_to (Some bytes) may held = record { now = Some bytes; may = arrival may bytes ∷ held.may }

abbrev pub after_append : Names → List ℕ → State → State
after_append target bytes state path =
    if same_path target path then appended bytes (state path) else state path

abbrev pub after_remove : Names → State → State
after_remove top state path = if under top path then removed (state path) else state path

abbrev pub after_settle : Names → State → State
after_settle top state path = if under top path then settled (state path) else state path

-- each file at or under `from` stands at the same place at or under `to`
abbrev pub after_move : Names → Names → State → State
after_move from to state path =
    if under to path then moved_to (state (from ++ after_top to path)).now (state (from ++ after_top to path)).may (state path)
    else if under from path then removed (state path) else state path

-- all but what lies at and under the path is as at entry
abbrev pub StandsOutside : Names → State → State → Type 0
StandsOutside top entry state = (path : Names) → under top path ≡ false → state path ≡ entry path
