-- An edge by the texts of its nodes, and the entries that these make.
use Rattle.std.specs.Prelude.{ℕ, Bool, List, [], ◌∷◌, ◌++◌, decimal, if◌then◌else◌}
use Rattle.graph.specs.declared.edges.Edge.{Edge}
use Rattle.gimv_base.specs.Lines.{entry_text_of, with_lf}

-- how an edge's source and target are written
abbrev pub edge_texts : Edge → List ℕ × List ℕ
edge_texts e = (decimal e.source, decimal e.target)

-- an entry of weight 1 by its column, from the texts of its column and its row
abbrev pub unit_entry : List ℕ → List ℕ → List ℕ
unit_entry column row = with_lf (entry_text_of column row (49 ∷ []))

-- an edge's entry, by its column, and the entry of the edge turned round, from the texts of its source and its target
abbrev pub unit_entries : Bool → List ℕ → List ℕ → List ℕ
unit_entries both source target = unit_entry target source ++ (if both then unit_entry source target else [])
