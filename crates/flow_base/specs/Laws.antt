-- What the jobs of the base form make, for any algorithm that keeps the laws.
use Rattle.std.specs.Prelude.{◌≡◌, ℕ, suc, ◌<◌, ◌≤◌, ◌^◌, Bool, List, [], ◌∷◌, ◌++◌, Some, length, decimal}
use Rattle.graph.specs.declared.edges.Edge.{Edge}
use Rattle.graph.specs.declared.edges.One.{One}
use Rattle.graph.specs.Edges.{AreBelow}
use Rattle.graph.specs.Entries.{Entry, by_degree, hadi_entries}
use Rattle.graph.specs.Steps.{iterate}
use Rattle.gimv_core.specs.Algebras.{Algebra, FitsWeight}
use Rattle.gimv_core.specs.Laws.{IsLawful}
use Rattle.gimv_base.specs.BaseRules.{id_rule, entries_rule, degrees_rule}
use Rattle.edge_text.specs.Edges.{text_of}
use Rattle.pagerank.specs.Ranks.{page_rank_algebra}
use Rattle.store.specs.Sealed.{nodes_text}
use Rattle.flow_core.specs.Following.{Giving, Follows}
use Rattle.flow_core.specs.Jobs.{Cut, job_by}
use Rattle.flow_base.specs.Layouts.{sequence, layout, result_parts}
use Rattle.flow_base.specs.Roles.{RoleWords, FollowsRoles}
use Rattle.flow_base.specs.Matrices.{HasMatrix, one_number}

-- a job has bytes in its splits, and parts
pub record IsCut (cut : Cut) : Type 0 where
  pub some_bytes : 1 ≤ cut.split
  pub some_reducers : 1 ≤ cut.reducers

-- ---- vectors and results

-- folders of which the first is made of the nodes, and each later one of the matrix and the one before it
pub record AreMade (gives : Giving) (words : RoleWords) (cut : Cut) (n : ℕ) (matrix : List (List ℕ))
    (folder : ℕ → List (List ℕ)) : Type 0 where
  pub begins : folder 0 ≡ job_by gives cut words.copy words.first (nodes_text n ∷ [])
  pub goes_on : (k : ℕ)
      → folder (suc k)
      ≡ job_by gives cut words.copy words.stage2
      (job_by gives cut words.copy words.stage1 (matrix ++ folder k))

-- they hold the iterates
abbrev pub VectorsAreIterates : Type 0 → Type 0 → Type 0 → Type 0
VectorsAreIterates Val Msg Weight =
    (gives : Giving) (a : Algebra Val Msg Weight) → IsLawful a → (n : ℕ) → n ≤ 2 ^ 32 → (words : RoleWords)
    → FollowsRoles gives a n words → (cut : Cut) → IsCut cut
    → (number : Weight → ℕ) (entries : List (Entry Weight)) (matrix : List (List ℕ))
    → HasMatrix a number n entries matrix
    → (folder : ℕ → List (List ℕ)) → AreMade gives words cut n matrix folder
    → (k : ℕ) → folder k ≡ layout (sequence a (iterate a.algorithm entries)) n cut.reducers k

-- what is made of one of them has the numbers of its values
abbrev pub ResultsAreNumbers : Type 0 → Type 0 → Type 0 → Type 0
ResultsAreNumbers Val Msg Weight =
    (gives : Giving) (a : Algebra Val Msg Weight) → IsLawful a → (n : ℕ) → n ≤ 2 ^ 32 → (words : RoleWords)
    → FollowsRoles gives a n words → (cut : Cut) → IsCut cut
    → (number : Weight → ℕ) (entries : List (Entry Weight)) (matrix : List (List ℕ))
    → HasMatrix a number n entries matrix
    → (k : ℕ)
    → job_by gives cut words.number words.copy
    (layout (sequence a (iterate a.algorithm entries)) n cut.reducers k)
    ≡ result_parts (sequence a (iterate a.algorithm entries)) n cut.reducers k

-- ---- matrices

-- entries of weight 1
abbrev pub MatrixOfOnes : Type 0 → Type 0 → Type 0
MatrixOfOnes Val Msg =
    (gives : Giving) (copy words : List (List ℕ)) (both : Bool) → Follows gives copy id_rule
    → Follows gives words (entries_rule both) → (cut : Cut) → IsCut cut
    → (a : Algebra Val Msg One) → IsLawful a → ((w : One) → FitsWeight a w)
    → ((w : One) → a.weight_of (decimal 1) ≡ Some w)
    → (n : ℕ) → n ≤ 2 ^ 32 → (edges : List Edge) → AreBelow n edges
    → HasMatrix a one_number n (hadi_entries both edges) (job_by gives cut words copy (text_of edges ∷ []))

-- entries weighed by how many edges leave the source
abbrev pub MatrixOfRanks : Type 0
MatrixOfRanks =
    (gives : Giving) (copy words : List (List ℕ)) → Follows gives copy id_rule
    → Follows gives words degrees_rule → (cut : Cut) → IsCut cut
    → (n : ℕ) → n ≤ 2 ^ 32 → (edges : List Edge) → AreBelow n edges → length edges < 2 ^ 64
    → HasMatrix (page_rank_algebra n) (λ m. m) n (by_degree edges)
    (job_by gives cut copy words (text_of edges ∷ []))
