-- Paths as lists of names.
use Rattle.std.specs.Prelude.{ℕ, Bool, true, false, ◌&&◌, List, [], ◌∷◌, length, drop}
use Rattle.std.specs.Str.{bytes_eq}
use Rattle.std.specs.Cmp.Lexicographic.{pointwise}

-- a path, by the texts of its names
abbrev pub Names : Type 0
Names = List (List ℕ)

-- the second path is the first, or lies under it
abbrev pub under : Names → Names → Bool
under [] path = true
under (name ∷ top) [] = false
under (name ∷ top) (other ∷ path) = bytes_eq name other && under top path

-- the same path
abbrev pub same_path : Names → Names → Bool
same_path = pointwise bytes_eq

-- what comes after the first path in a path under it
abbrev pub after_top : Names → Names → Names
after_top top path = drop (length top) path
