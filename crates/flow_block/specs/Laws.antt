-- What the jobs of the block form make, for any algorithm that keeps the laws.
use Rattle.std.specs.Prelude.{◌≡◌, ℕ, suc, ◌<◌, ◌≤◌, ◌^◌, List, [], ◌∷◌, ◌++◌}
use Rattle.graph.specs.Entries.{Entry}
use Rattle.graph.specs.Steps.{Vector, iterate}
use Rattle.gimv_core.specs.Algebras.{Algebra, VectorFits}
use Rattle.gimv_core.specs.Consequences.{first_nodes}
use Rattle.gimv_core.specs.Laws.{IsLawful}
use Rattle.gimv_block.specs.BlockRules.{cut_rule, blocks_rule}
use Rattle.flow_core.specs.Following.{Giving, Follows}
use Rattle.flow_core.specs.Jobs.{Cut, job_by}
use Rattle.flow_core.specs.Places.{over_places}
use Rattle.flow_base.specs.Laws.{IsCut}
use Rattle.flow_base.specs.Layouts.{Sequence, sequence, result_parts}
use Rattle.flow_base.specs.Matrices.{HasMatrix}
use Rattle.flow_block.specs.BlockFolders.{HasBlocks}
use Rattle.flow_block.specs.BlockLayouts.{block_layout, places_text}
use Rattle.flow_block.specs.BlockRoles.{BlockWords, FollowsBlockRoles}

-- a block has nodes, and no more than a vector's line can count as changed
pub record IsBlockLength (len : ℕ) : Type 0 where
  pub some : 1 ≤ len
  pub few : len ≤ 256

-- ---- the blocks of a matrix

-- the folder that is made of a matrix holds its entries, block by block
abbrev pub BlocksHoldEntries : Type 0 → Type 0 → Type 0 → Type 0
BlocksHoldEntries Val Msg Weight =
    (gives : Giving) (len : ℕ) → 1 ≤ len → (cut_words blocks_words : List (List ℕ))
    → Follows gives cut_words (cut_rule len) → Follows gives blocks_words blocks_rule
    → (cut : Cut) → IsCut cut
    → (a : Algebra Val Msg Weight) (number : Weight → ℕ) (n : ℕ) → n ≤ 2 ^ 32
    → (entries : List (Entry Weight)) (matrix : List (List ℕ)) → HasMatrix a number n entries matrix
    → HasBlocks a number len n entries (job_by gives cut cut_words blocks_words matrix)

-- ---- vectors and results

-- folders of which the first is made of the nodes at n places, and each later one of the blocks and the one
-- before it
pub record AreMadeInBlocks (gives : Giving) (words : BlockWords) (cut : Cut) (n : ℕ) (id : ℕ → ℕ)
    (blocks : List (List ℕ)) (folder : ℕ → List (List ℕ)) : Type 0 where
  pub begins : folder 0 ≡ job_by gives cut words.group words.firstb (places_text id n ∷ [])
  pub goes_on : (k : ℕ)
      → folder (suc k)
      ≡ job_by gives cut words.copy words.block2
      (job_by gives cut words.copy words.block1 (blocks ++ folder k))

-- the iterates over places: a place begins with the first value of the node there
abbrev pub iterates_at : {Val Msg Weight : Type 0} → (ℕ → ℕ) → Algebra Val Msg Weight → List (Entry Weight)
    → Sequence
iterates_at id a entries = sequence a (iterate (over_places id a.algorithm) entries)

-- they hold the iterates
abbrev pub BlockVectorsAreIterates : Type 0 → Type 0 → Type 0 → Type 0
BlockVectorsAreIterates Val Msg Weight =
    (gives : Giving) (a : Algebra Val Msg Weight) → IsLawful a → (len n : ℕ) → IsBlockLength len → n ≤ 2 ^ 32
    → (words : BlockWords) → FollowsBlockRoles gives a len n words → (cut : Cut) → IsCut cut
    → (number : Weight → ℕ) (entries : List (Entry Weight)) (blocks : List (List ℕ))
    → HasBlocks a number len n entries blocks
    → (id : ℕ → ℕ) → ((p : ℕ) → p < n → id p < n)
    → (folder : ℕ → List (List ℕ)) → AreMadeInBlocks gives words cut n id blocks folder
    → (k : ℕ) → folder k ≡ block_layout (iterates_at id a entries) len n cut.reducers k

-- what is made of a vector in blocks has the numbers of its values, as in the base form
abbrev pub BlockResultsAreNumbers : Type 0 → Type 0 → Type 0 → Type 0
BlockResultsAreNumbers Val Msg Weight =
    (gives : Giving) (a : Algebra Val Msg Weight) → IsLawful a → (len n : ℕ) → IsBlockLength len → n ≤ 2 ^ 32
    → (words : BlockWords) → FollowsBlockRoles gives a len n words → (cut : Cut) → IsCut cut
    → (vectors : ℕ → Vector Val) → ((k : ℕ) → VectorFits a (first_nodes n) (vectors k))
    → (k : ℕ)
    → job_by gives cut words.unblock words.copy (block_layout (sequence a vectors) len n cut.reducers k)
    ≡ result_parts (sequence a vectors) n cut.reducers k
