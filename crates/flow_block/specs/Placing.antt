-- Vectors over places, where nodes have places of their own, and results that are read from them.
use Rattle.std.specs.Prelude.{◌≡◌, ℕ, ◌≤◌, ◌^◌, List, ◌∷◌, map, All}
use Rattle.graph.specs.Entries.{Entry}
use Rattle.graph.specs.Steps.{Vector, iterate}
use Rattle.gimv_core.specs.Algebras.{Algebra, VectorFits}
use Rattle.gimv_core.specs.Consequences.{first_nodes}
use Rattle.gimv_core.specs.Laws.{IsLawful}
use Rattle.gimv_base.specs.BaseRules.{id_rule, place_rule}
use Rattle.gimv_block.specs.Unplacing.{unplace_rule}
use Rattle.flow_core.specs.Following.{Giving, Follows}
use Rattle.flow_core.specs.Jobs.{Cut, job_by}
use Rattle.flow_core.specs.Places.{AreAtPlaces, IsInside, placed_entry}
use Rattle.flow_base.specs.Laws.{IsCut}
use Rattle.flow_base.specs.Layouts.{changed_in, sequence, result_parts}
use Rattle.flow_block.specs.BlockFolders.{HasBlocks}
use Rattle.flow_block.specs.BlockLayouts.{block_layout, places_text}
use Rattle.flow_block.specs.BlockRoles.{BlockWords, FollowsBlockRoles}
use Rattle.flow_block.specs.Laws.{AreMadeInBlocks, IsBlockLength}

-- ---- vectors

-- vectors place by place: each place has the value of the node there
abbrev pub vectors_at : {Val : Type 0} → (ℕ → ℕ) → (ℕ → Vector Val) → ℕ → Vector Val
vectors_at id vectors k p = vectors k (id p)

-- folders over the blocks of the entries by places hold the iterates of the entries, place by place
abbrev pub PlacedVectorsAreIterates : Type 0 → Type 0 → Type 0 → Type 0
PlacedVectorsAreIterates Val Msg Weight =
    (gives : Giving) (a : Algebra Val Msg Weight) → IsLawful a → (len n : ℕ) → IsBlockLength len → n ≤ 2 ^ 32
    → (words : BlockWords) → FollowsBlockRoles gives a len n words → (cut : Cut) → IsCut cut
    → (place id : ℕ → ℕ) → AreAtPlaces n place id
    → (number : Weight → ℕ) (entries : List (Entry Weight)) → All (IsInside n) entries
    → (blocks : List (List ℕ)) → HasBlocks a number len n (map (placed_entry place) entries) blocks
    → (folder : ℕ → List (List ℕ)) → AreMadeInBlocks gives words cut n id blocks folder
    → (k : ℕ)
    → folder k
    ≡ block_layout (sequence a (vectors_at id (iterate a.algorithm entries))) len n cut.reducers k

-- and as many places change as nodes
abbrev pub PlacedChangesAreChanges : Type 0 → Type 0 → Type 0 → Type 0
PlacedChangesAreChanges Val Msg Weight =
    (a : Algebra Val Msg Weight) (n : ℕ) (place id : ℕ → ℕ) → AreAtPlaces n place id
    → (vectors : ℕ → Vector Val) (k : ℕ)
    → changed_in (sequence a (vectors_at id vectors)) n k ≡ changed_in (sequence a vectors) n k

-- ---- results

-- the words of the roles that join the numbers of places with the nodes there
pub record PlacingWords : Type 0 where
  pub copy : List (List ℕ)
  pub unplace : List (List ℕ)
  pub place : List (List ℕ)

pub record FollowsPlacing {Val Msg Weight : Type 0} (gives : Giving) (a : Algebra Val Msg Weight) (len n : ℕ)
    (words : PlacingWords) : Type 0 where
  pub copy : Follows gives words.copy id_rule
  pub unplace : Follows gives words.unplace (unplace_rule a len n)
  pub place : Follows gives words.place place_rule

-- the folder that is made of the text of the places and of a vector over places
abbrev pub joined_by : Giving → Cut → PlacingWords → (ℕ → ℕ) → ℕ → List (List ℕ) → List (List ℕ)
joined_by gives cut words id n vector = job_by gives cut words.unplace words.place (places_text id n ∷ vector)

-- what is made of it has the numbers of the nodes' values, as in the base form
abbrev pub PlacedResultsAreNumbers : Type 0 → Type 0 → Type 0 → Type 0
PlacedResultsAreNumbers Val Msg Weight =
    (gives : Giving) (a : Algebra Val Msg Weight) → IsLawful a → (len n : ℕ) → IsBlockLength len → n ≤ 2 ^ 32
    → (words : PlacingWords) → FollowsPlacing gives a len n words → (cut : Cut) → IsCut cut
    → (place id : ℕ → ℕ) → AreAtPlaces n place id
    → (vectors : ℕ → Vector Val) → ((k : ℕ) → VectorFits a (first_nodes n) (vectors k))
    → (k : ℕ)
    → job_by gives cut words.copy words.copy
    (joined_by gives cut words id n (block_layout (sequence a (vectors_at id vectors)) len n cut.reducers k))
    ≡ result_parts (sequence a vectors) n cut.reducers k
