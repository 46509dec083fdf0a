-- For components, steps of closed values are those of the diagonal form.
use Rattle.std.proofs.Common.{◌≡◌, refl, ap, ◌∙◌, subst, cond, eqb, ℕ, zero, suc, List, [], ◌∷◌, ◌++◌, map, sum_by, decimal, inl, inr}
use Rattle.std.specs.List.{join_with_byte}
use Rattle.std.proofs.lemmas.Bool.{cases_Bool}
use Rattle.graph.specs.declared.edges.Edge.{Edge}
use Rattle.graph.specs.declared.edges.One.{One}
use Rattle.graph.specs.Algorithms.{hcc}
use Rattle.graph.specs.Entries.{Entry, hcc_entries, plain_entry}
use Rattle.graph.specs.Steps.{Vector, step}
use Rattle.gimv_core.specs.Algebras.{VectorFits}
use Rattle.gimv_core.specs.Consequences.{first_nodes, rounds}
use Rattle.hcc.specs.Components.{hcc_algebra, label_as_message}
use Rattle.hcc.specs.Lawful.{hcc_is_closing, hcc_is_lawful}
use Rattle.gimv_block.specs.Blocks.{all_blocks, block_of, nodes_of_block}
use Rattle.gimv_diag.specs.Diagonal.{diagonal_after, inner_edges}
use Rattle.pairs.specs.Pairs.{Pair}
use Rattle.flow_core.specs.Parts.{parts_with}
use Rattle.flow_base.specs.Layouts.{sequence}
use Rattle.flow_base.specs.Matrices.{one_number}
use Rattle.flow_block.specs.BlockLayouts.{block_layout}
use Rattle.flow_block.proofs.BlockFirsts.{turned}
use Rattle.flow_diag.specs.Closing.{closed_iterate, inner_entries}
use Rattle.flow_diag.specs.Laws.{ClosedIteratesFit, DiagonalLabelsFit, DiagonalVectorsAreClosedIterates, DiagonalVectorsAreLabels}

entries_within : (len : ℕ) (edges : List Edge) → inner_entries len (hcc_entries edges) ≡ hcc_entries (inner_edges len edges)
entries_within len [] = refl
entries_within len (e ∷ es) =
    let later = entries_within len es in
    let back = turned (block_of len e.target) (block_of len e.source) in
    elim (cases_Bool (eqb (block_of len e.source) (block_of len e.target))) [
      | inl is ↦ rw (back ∙ is, is) (ap (λ (l : List (Entry One)). plain_entry e.source e.target ∷ plain_entry e.target e.source ∷ l) later)
      | inr isnt ↦ rw (back ∙ isnt, isnt) later
    ]

labels_are : (len : ℕ) (edges : List Edge) (k : ℕ) → closed_iterate hcc len (hcc_entries edges) k ≡ diagonal_after len edges k
labels_are len edges zero = refl
labels_are len edges (suc k) =
    ap (λ (es : List (Entry One)). step hcc (hcc_entries edges) (rounds hcc es len (closed_iterate hcc len (hcc_entries edges) k))) (entries_within len edges)
    ∙ ap (λ (v : Vector ℕ). step hcc (hcc_entries edges) (rounds hcc (hcc_entries (inner_edges len edges)) len v)) (labels_are len edges k)

-- the layout of a vector hangs on that vector and the one before it
module _ (len n reducers : ℕ) where
  abbrev line : (ℕ → ℕ) → Vector ℕ → ℕ → Pair
  line changes v block =
      let nodes = nodes_of_block len n block in
      (decimal block, 86 ∷ 32 ∷ (decimal (sum_by changes nodes) ++ (32 ∷ join_with_byte 44 (map (λ node. decimal (v node)) nodes))))

  abbrev laid : (ℕ → ℕ) → Vector ℕ → List (List ℕ)
  laid changes v = parts_with reducers (map (line changes v) (all_blocks len n))

  same_layout : (u w : ℕ → Vector ℕ) → ((k : ℕ) → u k ≡ w k) → (k : ℕ) → block_layout (sequence hcc_algebra u) len n reducers k ≡ block_layout (sequence hcc_algebra w) len n reducers k
  same_layout u w same zero = ap (laid (λ node. 1)) (same zero)
  same_layout u w same (suc k) =
      ap (λ (v : Vector ℕ). laid (λ node. cond (hcc.same (v node) (u k node)) 0 1) v) (same (suc k))
      ∙ ap (λ (v : Vector ℕ). laid (λ node. cond (hcc.same (w (suc k) node) (v node)) 0 1) (w (suc k))) (same k)

pub vectors_are_labels : DiagonalVectorsAreClosedIterates ℕ ℕ One → DiagonalVectorsAreLabels
vectors_are_labels vectors gives len n is_length few words follows cut is_cut edges blocks has folder are k =
    vectors gives hcc_algebra label_as_message hcc_is_lawful hcc_is_closing len n is_length few words follows cut is_cut one_number (hcc_entries edges) blocks has folder are k
    ∙ same_layout len n cut.reducers (closed_iterate hcc len (hcc_entries edges)) (diagonal_after len edges) (labels_are len edges) k

pub labels_fit : ClosedIteratesFit ℕ ℕ One → DiagonalLabelsFit
labels_fit fit len n few edges fits k =
    subst (VectorFits hcc_algebra (first_nodes n)) (labels_are len edges k) (fit hcc_algebra hcc_is_lawful len n few (hcc_entries edges) fits k)
