-- Folders that hold a matrix.
use Rattle.std.specs.Prelude.{◌≡◌, ℕ, ◌<◌, ◌≤◌, ◌^◌, List, ◌∷◌, ◌++◌, map, All, Some, decimal}
use Rattle.graph.specs.declared.edges.One.{One}
use Rattle.graph.specs.Entries.{Entry}
use Rattle.gimv_core.specs.Algebras.{Algebra, EntryFits}
use Rattle.gimv_core.specs.Consequences.{first_nodes}
use Rattle.pairs.specs.Pairs.{Pair}
use Rattle.flow_core.specs.Holding.{Holds}

-- an entry, by its column: `column TAB W SP row SP weight`, where a function gives the weight as a number
abbrev pub entry_pair : {Weight : Type 0} → (Weight → ℕ) → Entry Weight → Pair
entry_pair number e = (decimal e.column, 87 ∷ 32 ∷ (decimal e.row ++ (32 ∷ decimal (number e.weight))))

abbrev pub one_number : One → ℕ
one_number one = 1

-- the algorithm reads the weight of an entry from its number
pub record Weighs {Val Msg Weight : Type 0} (a : Algebra Val Msg Weight) (number : Weight → ℕ)
    (e : Entry Weight) : Type 0 where
  pub small : number e.weight < 2 ^ 64
  pub is : a.weight_of (decimal (number e.weight)) ≡ Some e.weight

-- a folder holds the entries of a matrix over n nodes, all of which the algorithm can read
pub record HasMatrix {Val Msg Weight : Type 0} (a : Algebra Val Msg Weight) (number : Weight → ℕ) (n : ℕ)
    (entries : List (Entry Weight)) (texts : List (List ℕ)) : Type 0 where
  pub good : All (λ e. EntryFits a (first_nodes n) e × Weighs a number e) entries
  pub heavy : All (λ e. 1 ≤ number e.weight) entries
  pub holds : Holds texts (map (entry_pair number) entries)
