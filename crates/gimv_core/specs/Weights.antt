-- The text of the weight where all entries weigh the same.
use Rattle.std.specs.Prelude.{ℕ, ◌==◌, List, [], ◌∷◌, Option, Some, None, if◌then◌else◌}
use Rattle.graph.specs.declared.edges.One.{One}

-- `1` and no other text
abbrev pub one_of : List ℕ → Option One
one_of [] = None
one_of (b ∷ []) = if b == 49 then Some (record {}) else None
one_of (b ∷ c ∷ bs) = None
