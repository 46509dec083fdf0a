-- How a role writes: a text for each record, or a part for each group.
use Rattle.std.specs.Prelude.{ℕ, Bool, List, [], ◌∷◌, Option, Some, None, length, if◌then◌else◌}
use Rattle.std.specs.List.{list_all}
use Rattle.std.specs.Str.{bytes_eq}
use Rattle.peg_text.specs.Pairs.{key_of}
use Rattle.gimv_base.specs.Parts.{Part, nothing, written, refused, joined}

-- a text for each record that isn't bad, or a part for each group
pub data Rule : Type 0 where
  ByRecord : (List ℕ → Option (List ℕ)) → Rule
  ByGroup : (List (List ℕ) → Part) → Rule

-- whether a record has this key, byte for byte
abbrev pub has_key : List ℕ → List ℕ → Bool
has_key key r = bytes_eq (key_of r) key

-- a record in front of groups: it joins the first of them, where that has its key
abbrev pub onto_group : List ℕ → List (List (List ℕ)) → List (List (List ℕ))
onto_group r [] = (r ∷ []) ∷ []
onto_group r ([] ∷ groups) = (r ∷ []) ∷ groups
onto_group r ((s ∷ group) ∷ groups) = if has_key (key_of r) s then (r ∷ s ∷ group) ∷ groups else (r ∷ []) ∷ (s ∷ group) ∷ groups

-- the longest runs of records with the same key
abbrev pub groups_of : List (List ℕ) → List (List (List ℕ))
groups_of [] = []
groups_of (r ∷ rs) = onto_group r (groups_of rs)

abbrev pub text_part : Option (List ℕ) → Part
text_part None = refused 1
text_part (Some text) = written text

abbrev pub by_record : (List ℕ → Option (List ℕ)) → List (List ℕ) → Part
by_record text [] = nothing
by_record text (r ∷ rs) = joined (text_part (text r)) 1 (by_record text rs)

abbrev pub by_group : (List (List ℕ) → Part) → List (List (List ℕ)) → Part
by_group part [] = nothing
by_group part (group ∷ groups) = joined (part group) (length group) (by_group part groups)

-- what a role writes for all its records, and the first bad one
abbrev pub role_out : Rule → List (List ℕ) → Part
role_out (ByRecord text) rs = by_record text rs
role_out (ByGroup part) rs = by_group part (groups_of rs)

-- the records that a record of another key follows
abbrev pub complete_groups : List (List ℕ) → List (List ℕ)
complete_groups [] = []
complete_groups (r ∷ rs) = if list_all (has_key (key_of r)) rs then [] else r ∷ complete_groups rs

-- the records of the complete groups; where a role doesn't speak of groups, each record is one
abbrev pub complete : Rule → List (List ℕ) → List (List ℕ)
complete (ByRecord text) rs = rs
complete (ByGroup part) rs = complete_groups rs
