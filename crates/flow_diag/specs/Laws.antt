-- What the jobs of the diagonal form make, for any algorithm whose values can be sent as messages.
use Rattle.std.specs.Prelude.{◌≡◌, ℕ, ◌≤◌, ◌^◌, List}
use Rattle.graph.specs.declared.edges.Edge.{Edge}
use Rattle.graph.specs.Entries.{Entry, hcc_entries}
use Rattle.gimv_core.specs.Algebras.{Algebra, EntriesFit, VectorFits}
use Rattle.gimv_core.specs.Closings.{IsClosing}
use Rattle.gimv_core.specs.Consequences.{first_nodes}
use Rattle.gimv_core.specs.Laws.{IsLawful}
use Rattle.hcc.specs.Components.{hcc_algebra, label_as_message}
use Rattle.gimv_diag.specs.Diagonal.{diagonal_after}
use Rattle.flow_core.specs.Following.{Giving}
use Rattle.flow_core.specs.Jobs.{Cut}
use Rattle.flow_base.specs.Laws.{IsCut}
use Rattle.flow_base.specs.Layouts.{Sequence, sequence}
use Rattle.flow_base.specs.Matrices.{one_number}
use Rattle.flow_block.specs.BlockFolders.{HasBlocks}
use Rattle.flow_block.specs.BlockLayouts.{block_layout}
use Rattle.flow_block.specs.BlockRoles.{BlockWords}
use Rattle.flow_block.specs.Laws.{AreMadeInBlocks, IsBlockLength}
use Rattle.flow_diag.specs.Closing.{closed_iterate}
use Rattle.flow_diag.specs.DiagonalRoles.{FollowsDiagonalRoles}

-- the vectors of steps of closed values
abbrev pub closed_iterates : {Val Msg Weight : Type 0} → Algebra Val Msg Weight → ℕ → List (Entry Weight)
    → Sequence
closed_iterates a len entries = sequence a (closed_iterate a.algorithm len entries)

-- folders that are made one of the other hold them, block by block
abbrev pub DiagonalVectorsAreClosedIterates : Type 0 → Type 0 → Type 0 → Type 0
DiagonalVectorsAreClosedIterates Val Msg Weight =
    (gives : Giving) (a : Algebra Val Msg Weight) (as_msg : Val → Msg) → IsLawful a → IsClosing a as_msg
    → (len n : ℕ) → IsBlockLength len → n ≤ 2 ^ 32
    → (words : BlockWords) → FollowsDiagonalRoles gives a as_msg len n words → (cut : Cut) → IsCut cut
    → (number : Weight → ℕ) (entries : List (Entry Weight)) (blocks : List (List ℕ))
    → HasBlocks a number len n entries blocks
    → (folder : ℕ → List (List ℕ)) → AreMadeInBlocks gives words cut n (λ p. p) blocks folder
    → (k : ℕ) → folder k ≡ block_layout (closed_iterates a len entries) len n cut.reducers k

-- and their values fit
abbrev pub ClosedIteratesFit : Type 0 → Type 0 → Type 0 → Type 0
ClosedIteratesFit Val Msg Weight =
    (a : Algebra Val Msg Weight) → IsLawful a → (len n : ℕ) → n ≤ 2 ^ 32
    → (entries : List (Entry Weight)) → EntriesFit a (first_nodes n) entries
    → (k : ℕ) → VectorFits a (first_nodes n) (closed_iterate a.algorithm len entries k)

-- ---- components

-- the labels after so many steps of closed labels
abbrev pub diagonal_labels : ℕ → List Edge → Sequence
diagonal_labels len edges = sequence hcc_algebra (diagonal_after len edges)

-- for components these are what the folders hold
abbrev pub DiagonalVectorsAreLabels : Type 0
DiagonalVectorsAreLabels =
    (gives : Giving) (len n : ℕ) → IsBlockLength len → n ≤ 2 ^ 32
    → (words : BlockWords) → FollowsDiagonalRoles gives hcc_algebra label_as_message len n words
    → (cut : Cut) → IsCut cut
    → (edges : List Edge) (blocks : List (List ℕ))
    → HasBlocks hcc_algebra one_number len n (hcc_entries edges) blocks
    → (folder : ℕ → List (List ℕ)) → AreMadeInBlocks gives words cut n (λ p. p) blocks folder
    → (k : ℕ) → folder k ≡ block_layout (diagonal_labels len edges) len n cut.reducers k

abbrev pub DiagonalLabelsFit : Type 0
DiagonalLabelsFit =
    (len n : ℕ) → n ≤ 2 ^ 32 → (edges : List Edge)
    → EntriesFit hcc_algebra (first_nodes n) (hcc_entries edges)
    → (k : ℕ) → VectorFits hcc_algebra (first_nodes n) (diagonal_after len edges k)
