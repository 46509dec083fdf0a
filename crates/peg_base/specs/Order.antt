-- The order of names and of paths.
use Rattle.std.specs.Prelude.{ℕ, List}
use Rattle.std.specs.Ordering.{nat_cmp}
use Rattle.std.specs.declared.cmp.Ordering.{Ordering}
use Rattle.std.specs.Cmp.Lexicographic.{slice_cmp}
use Rattle.peg_base.specs.Names.{Names}

-- names, by their bytes
abbrev pub name_cmp : List ℕ → List ℕ → Ordering
name_cmp = slice_cmp nat_cmp

-- paths, by their names
abbrev pub path_cmp : Names → Names → Ordering
path_cmp = slice_cmp name_cmp
