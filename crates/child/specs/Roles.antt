-- The roles, and the words that name them.
use Rattle.std.specs.Prelude.{ℕ, List, [], ◌∷◌, Option, codes}
use Rattle.std.specs.List.{find}
use Rattle.words.specs.Words.{is_word}
use Rattle.child.specs.declared.roles.RoleName.{RoleName}
use Rattle.child.specs.declared.roles.RoleName.TheVariants as Role

abbrev pub roles : List RoleName
roles =
    Role.Id ∷ Role.Edges ∷ Role.Entries ∷ Role.Degrees ∷ Role.First ∷ Role.Stage1 ∷ Role.Stage2
    ∷ Role.Number ∷ Role.Group ∷ Role.FirstB ∷ Role.Cut ∷ Role.Blocks ∷ Role.Block1 ∷ Role.Diag1 ∷ Role.Block2
    ∷ Role.Unblock ∷ Role.Unplace ∷ Role.Place ∷ []

abbrev pub name_of : RoleName → List ℕ
name_of Role.Id = codes "id"
name_of Role.Edges = codes "edges"
name_of Role.Entries = codes "entries"
name_of Role.Degrees = codes "degrees"
name_of Role.First = codes "first"
name_of Role.Stage1 = codes "stage1"
name_of Role.Stage2 = codes "stage2"
name_of Role.Number = codes "number"
name_of Role.Group = codes "group"
name_of Role.FirstB = codes "firstb"
name_of Role.Cut = codes "cut"
name_of Role.Blocks = codes "blocks"
name_of Role.Block1 = codes "block1"
name_of Role.Diag1 = codes "diag1"
name_of Role.Block2 = codes "block2"
name_of Role.Unblock = codes "unblock"
name_of Role.Unplace = codes "unplace"
name_of Role.Place = codes "place"

-- the role that a word names
abbrev pub role_named : List ℕ → Option RoleName
role_named word = find (λ role. is_word word (name_of role)) roles
