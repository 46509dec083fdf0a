-- What holds of each directory in memory: of its state, of the paths that it has heard of, and of what it has lent.
use Rattle.std.specs.Prelude.{◌≡◌, ℕ, ◌^◌, Bool, true, false, ◌&&◌, ◌||◌, List, [], ◌∷◌, length, map, take, Some, None, is_some, is_none, nat_le}
use Rattle.std.specs.List.{list_any, list_all}
use Rattle.std.specs.Str.{bytes_eq}
use Rattle.peg_base.specs.Names.{Names, same_path}
use Rattle.dir_disk.specs.State.{Member, Gone, Exactly, Anything, Content, Held, State}
use Rattle.dir_disk.specs.Lent.{Loan}
use Rattle.dir_mem.specs.declared.log.Step.{Step}
use Rattle.dir_mem.specs.declared.mem_dir.Lending.{Lending}
use Rattle.dir_mem.specs.Log.{state_of}

-- the member admits the content
abbrev pub admits : Member → Content → Bool
admits Gone content = is_none content
admits (Exactly bytes) None = false
admits (Exactly bytes) (Some others) = bytes_eq bytes others
admits Anything content = is_some content

-- some member admits it
abbrev pub allows : List Member → Content → Bool
allows [] content = false
allows (member ∷ may) content = admits member content || allows may content

-- at most 2^50 bytes
abbrev pub is_short : List ℕ → Bool
is_short bytes = nat_le (length bytes) (2 ^ 50)

abbrev pub is_short_content : Content → Bool
is_short_content None = true
is_short_content (Some bytes) = is_short bytes

abbrev pub is_short_member : Member → Bool
is_short_member Gone = true
is_short_member (Exactly bytes) = is_short bytes
is_short_member Anything = true

-- what is there now may be there after a stop, and no file is too long
abbrev pub is_sound : Held → Bool
is_sound held = allows held.may held.now && (is_short_content held.now && list_all is_short_member held.may)

-- no file is there, and a stop leaves none
abbrev pub is_just_gone : List Member → Bool
is_just_gone (Gone ∷ []) = true
is_just_gone may = false

abbrev pub is_absent : Held → Bool
is_absent held = is_none held.now && is_just_gone held.may

abbrev pub is_anything : Member → Bool
is_anything Anything = true
is_anything member = false

-- a child that writes the path may leave it in any way
abbrev pub is_open_end : Held → Bool
is_open_end held = allows held.may None && list_any is_anything held.may

abbrev pub IsSoundState : State → Type 0
IsSoundState state = (path : Names) → is_sound (state path) ≡ true

-- the path without names is never a file
abbrev pub HasNoTop : State → Type 0
HasNoTop state = is_absent (state []) ≡ true

abbrev pub is_listed : List Names → Names → Bool
is_listed paths path = list_any (λ listed. same_path listed path) paths

-- each path that ever had a file is listed
abbrev pub ListsAll : List Names → State → Type 0
ListsAll paths state = (path : Names) → (is_listed paths path || is_absent (state path)) ≡ true

-- each output that is lent may be left in any way
abbrev pub LendsOpen : List Lending → State → Type 0
LendsOpen lent state = list_all (λ lending. is_open_end (state lending.output)) lent ≡ true

-- what is lent, as the paths of children
abbrev pub loans_of : List Lending → List Loan
loans_of = map (λ lending. record { input = lending.input; output = lending.output })

abbrev pub has_name : Names → Bool
has_name [] = false
has_name path = true

-- what the path holds is sound; it is absent where the path isn't listed, or has no name
abbrev pub is_fine : List Names → Names → Held → Bool
is_fine paths path held =
    is_sound held && ((is_listed paths path || is_absent held) && (has_name path || is_absent held))

-- so it was after each step
abbrev pub WasFine : List Names → List Step → Type 0
WasFine paths steps =
    (place : ℕ) (path : Names) → is_fine paths path (state_of (take place steps) path) ≡ true
