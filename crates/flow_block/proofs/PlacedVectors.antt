-- Vectors over places have the values of the nodes there.
use Rattle.std.proofs.Common.{◌≡◌, refl, sym, ap, ◌∙◌, subst, Bool, cond, eqb, ℕ, zero, suc, ◌*◌, ◌<◌, ◌≤◌, List, [], ◌∷◌, ◌++◌, map, filter, sum_by, decimal, arith}
use Rattle.std.specs.List.{All, join_with_byte, range_with_len}
use Rattle.std.specs.List.Sorted.{IsPermutation}
use Rattle.std.proofs.lemmas.List.Concat.{flat_map_single}
use Rattle.std.proofs.lemmas.List.Elements.{All-weaker}
use Rattle.std.proofs.lemmas.List.Sorted.{sum_by-IsPermutation}
use Rattle.graph.specs.Steps.{Vector, iterate}
use Rattle.gimv_core.specs.Algebras.{Algebra}
use Rattle.gimv_block.specs.Blocks.{all_blocks, block_count, nodes_of_block}
use Rattle.gimv_block.proofs.BlockNodes.{nodes_in_block}
use Rattle.list_laws.specs.Classes.{IsOnce}
use Rattle.list_laws.proofs.Alls.{all_each}
use Rattle.list_laws.proofs.Classes.{classes}
use Rattle.list_laws.proofs.Filters.{filter_agree_on}
use Rattle.list_laws.proofs.Images.{flat_map_agree, map_agree}
use Rattle.list_laws.proofs.Ranges.{all_below, once_in_range}
use Rattle.list_laws.proofs.Sums.{sum-of_map, sum_agree}
use Rattle.flow_core.specs.Parts.{parts_with}
use Rattle.flow_core.specs.Places.{AreAtPlaces, over_places, placed_entry}
use Rattle.flow_core.proofs.Renaming.{iterates_placed, same_place}
use Rattle.flow_base.specs.Layouts.{change_at, sequence}
use Rattle.flow_block.specs.BlockLayouts.{block_layout, block_pair}
use Rattle.flow_block.specs.Placing.{PlacedChangesAreChanges, PlacedVectorsAreIterates, vectors_at}
use Rattle.flow_block.proofs.BlockChain.{layouts_are}
use Rattle.flow_block.proofs.BlockFirsts.{turned}

-- nodes place by place are all nodes
pub ids_permuted : (n : ℕ) (place id : ℕ → ℕ) → AreAtPlaces n place id → IsPermutation (range_with_len 0 n) (map id (range_with_len 0 n))
ids_permuted n place id places =
    let nodes = range_with_len 0 n in
    let at : ℕ → ℕ → Bool = λ i p. eqb (place i) p in
    let each : All (λ p. filter (λ i. at i p) nodes ≡ id p ∷ []) nodes =
    all_below n (λ p. filter (λ i. at i p) nodes ≡ id p ∷ []) (λ p low. filter_agree_on (λ i. at i p) (λ i. eqb (id p) i) nodes (all_below n (λ i. at i p ≡ eqb (id p) i) (λ i other. same_place n place id places i p other low ∙ turned i (id p))) ∙ once_in_range (id p) 0 n (omega arith) (let inside = places.id_low p low in omega (arith, inside))) in
    subst (λ zs. IsPermutation nodes zs) (flat_map_agree (λ p. filter (λ i. at i p) nodes) (λ p. id p ∷ []) nodes each ∙ flat_map_single id nodes)
    (classes at nodes nodes (all_below n (λ i. IsOnce (at i) nodes) (λ i low. record { one = place i; is = let inside = places.place_low i low in once_in_range (place i) 0 n (omega arith) (omega (arith, inside)) })))

-- ---- layouts of vectors that agree

module _ {Val Msg Weight : Type 0} (a : Algebra Val Msg Weight) (n : ℕ) (u w : ℕ → Vector Val) (same : (k p : ℕ) → p < n → u k p ≡ w k p) where
  changes_agree : (k p : ℕ) → p < n → change_at a.algorithm u k p ≡ change_at a.algorithm w k p
  changes_agree zero p low = refl
  changes_agree (suc k) p low =
      ap (λ (x : Val). cond (a.algorithm.same x (u k p)) 0 1) (same (suc k) p low) ∙ ap (λ (x : Val). cond (a.algorithm.same (w (suc k) p) x) 0 1) (same k p low)

  layouts_agree : (len reducers k : ℕ) → 1 ≤ len → block_layout (sequence a u) len n reducers k ≡ block_layout (sequence a w) len n reducers k
  layouts_agree len reducers k some =
      let one = block_pair (sequence a u) len n k in
      let other = block_pair (sequence a w) len n k in
      ap (parts_with reducers) (map_agree one other (all_blocks len n) (all_below (block_count len n) (λ j. one j ≡ other j) (λ j low.
      let nodes = nodes_of_block len n j in
      let inside = nodes_in_block len n j some low in
      let line : ℕ → List (List ℕ) → List ℕ × List ℕ = λ count texts. (decimal j, 86 ∷ 32 ∷ (decimal count ++ (32 ∷ join_with_byte 44 texts))) in
      let mine : List (List ℕ) = map (λ p. a.val_text (u k p)) nodes in
      ap (λ (count : ℕ). line count mine) (sum_agree (change_at a.algorithm u k) (change_at a.algorithm w k) nodes (All-weaker (λ p. (j * len ≤ p) × (p < n)) (λ p. change_at a.algorithm u k p ≡ change_at a.algorithm w k p) (λ p h. changes_agree k p h.1) nodes inside))
      ∙ ap (line (sum_by (change_at a.algorithm w k) nodes)) (map_agree (λ p. a.val_text (u k p)) (λ p. a.val_text (w k p)) nodes (All-weaker (λ p. (j * len ≤ p) × (p < n)) (λ p. a.val_text (u k p) ≡ a.val_text (w k p)) (λ p h. ap a.val_text (same k p h.1)) nodes inside)))))

pub placed_vectors_are_iterates : {Val Msg Weight : Type 0} → PlacedVectorsAreIterates Val Msg Weight
placed_vectors_are_iterates gives a laws len n is_length few words follows cut is_cut place id places number entries inside blocks has folder made k =
    layouts_are gives a laws len n is_length.some is_length.few few words follows cut is_cut.some_bytes is_cut.some_reducers number (map (placed_entry place) entries) blocks has id places.id_low folder made k
    ∙ layouts_agree a n (iterate (over_places id a.algorithm) (map (placed_entry place) entries)) (vectors_at id (iterate a.algorithm entries)) (λ j p low. iterates_placed n place id places a.algorithm entries inside j p low) len cut.reducers k is_length.some

-- ---- changes

pub placed_changes_are_changes : {Val Msg Weight : Type 0} → PlacedChangesAreChanges Val Msg Weight
placed_changes_are_changes a n place id places vectors k =
    let nodes = range_with_len 0 n in
    let changes = change_at a.algorithm vectors k in
    sum_agree (change_at a.algorithm (vectors_at id vectors) k) (λ p. changes (id p)) nodes (all_each (λ p. change_at a.algorithm (vectors_at id vectors) k p ≡ changes (id p)) (by_node k) nodes)
    ∙ sym (sum-of_map changes id nodes)
    ∙ sum_by-IsPermutation changes nodes (map id nodes) (ids_permuted n place id places)
  where
    by_node : (j p : ℕ) → change_at a.algorithm (vectors_at id vectors) j p ≡ change_at a.algorithm vectors j (id p)
    by_node zero p = refl
    by_node (suc j) p = refl
