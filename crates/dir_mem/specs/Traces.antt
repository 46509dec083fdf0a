-- What the directory keeps of a path: the traces that a stop may leave.
use Rattle.std.specs.Prelude.{ℕ, List, [], ◌∷◌, map, Option, Some, None}
use Rattle.std.specs.Borrow.{Bor}
use Rattle.dir_disk.specs.State.{Member, Gone, Exactly, Anything, Content}
use Rattle.dir_mem.specs.declared.traces.Trace.{Trace}
use Rattle.dir_mem.specs.declared.traces.Trace.TheVariants.{NoFile, Bytes, AnyFile}

abbrev pub member_of : Trace → Member
member_of NoFile = Gone
member_of (Bytes bytes) = Exactly bytes.items
member_of AnyFile = Anything

abbrev pub members_of : List Trace → List Member
members_of = map member_of

-- the traces of a path; a path of which none were kept is gone
abbrev pub may_of : Option (Bor (List Trace)) → List Member
may_of None = Gone ∷ []
may_of (Some traces) = members_of traces.now

-- the content that is shown for a member, where it is a file of any bytes: a file of `garbage` and a line's end
abbrev pub garbage : List ℕ
garbage = 103 ∷ 97 ∷ 114 ∷ 98 ∷ 97 ∷ 103 ∷ 101 ∷ 10 ∷ []

abbrev pub shown : Member → Content
shown Gone = None
shown (Exactly bytes) = Some bytes
shown Anything = Some garbage

-- what the first member shows, which is the newest
abbrev pub newest : List Member → Content
newest [] = None
newest (member ∷ may) = shown member

-- what a borrowed file has
abbrev pub content_of : Option (Bor (List ℕ)) → Content
content_of None = None
content_of (Some bytes) = Some bytes.now
