-- The count that is read of a vector in blocks is that of the nodes that changed.
use Rattle.std.proofs.Common.{◌≡◌, refl, sym, ap, ◌∙◌, ℕ, zero, suc, ◌+◌, ◌*◌, ◌<◌, ◌≤◌, ◌^◌, List, [], ◌∷◌, map, sum_by, Some, arith}
use Rattle.std.specs.List.{flat_map, join_with_byte, range_with_len}
use Rattle.std.proofs.lemmas.Bool.{lt-ltb}
use Rattle.std.proofs.lemmas.List.Sums.{sum_by-cons, sum_by-append}
use Rattle.graph.specs.Steps.{Vector}
use Rattle.gimv_core.specs.Algebras.{Algebra, FitsVal, VectorFits}
use Rattle.gimv_core.specs.Consequences.{first_nodes}
use Rattle.gimv_core.specs.Laws.{IsLawful}
use Rattle.gimv_block.specs.Blocks.{block_count, block_size, nodes_of_block, all_blocks}
use Rattle.gimv_block.proofs.BlockNodes.{all_nodes_of_blocks, block_placed}
use Rattle.store.specs.Totals.{change_of}
use Rattle.mining.specs.Flow.{changes_in}
use Rattle.list_laws.proofs.Ranges.{all_below}
use Rattle.flow_core.specs.Following.{Giving}
use Rattle.flow_core.specs.Holding.{record_of}
use Rattle.flow_core.specs.Jobs.{Cut}
use Rattle.flow_base.specs.Layouts.{sequence, change_at, changed_in}
use Rattle.flow_block.specs.BlockLayouts.{block_layout}
use Rattle.flow_block.specs.BlockRoles.{BlockWords, FollowsBlockRoles}
use Rattle.flow_block.proofs.BlockChain.{changes_one, heads_hold, layout_is}
use Rattle.flow_block.proofs.BlockJoins.{blocks_few, changes_few, vector_pair}
use Rattle.flow.proofs.CountsBack.{count_read, counts_held}

sum_flat : {I : Type 0} (f : ℕ → ℕ) (g : I → List ℕ) (is : List I) → sum_by (λ i. sum_by f (g i)) is ≡ sum_by f (flat_map g is)
sum_flat f g [] = refl
sum_flat f g (i ∷ is) = sum_by-cons (λ j. sum_by f (g j)) i is ∙ ap (λ (k : ℕ). sum_by f (g i) + k) (sum_flat f g is) ∙ sym (sum_by-append f (g i) (flat_map g is))

joined_some : (t : List ℕ) (ts : List (List ℕ)) → (t ≡ [] → ⊥) → join_with_byte 44 (t ∷ ts) ≡ [] → ⊥
joined_some [] ts is none = is refl
joined_some (b ∷ bs) [] is none = cc
joined_some (b ∷ bs) (u ∷ ts) is none = cc

module _ {Val Msg Weight : Type 0} (gives : Giving) (a : Algebra Val Msg Weight) (laws : IsLawful a) (len n : ℕ) (some : 1 ≤ len) (short : len ≤ 256) (few : n ≤ 2 ^ 32)
    (words : BlockWords) (follows : FollowsBlockRoles gives a len n words) (cut : Cut) (some_bytes : 1 ≤ cut.split) (some_reducers : 1 ≤ cut.reducers)
    (some_text : (w : Val) → FitsVal a w → (a.val_text w ≡ [] → ⊥)) (vectors : ℕ → Vector Val) (fit : (k : ℕ) → VectorFits a (first_nodes n) (vectors k)) (k : ℕ) where
  abbrev counts : ℕ → ℕ
  counts = change_at a.algorithm vectors k

  abbrev v : Vector Val
  v = vectors k

  most : (i : ℕ) → counts i ≤ 1
  most = changes_one a.algorithm vectors k

  abbrev count_at : ℕ → ℕ
  count_at j = sum_by counts (nodes_of_block len n j)

  values_some : (i c : ℕ) → i < n → 1 ≤ c → join_with_byte 44 (map a.val_text (map v (range_with_len i c))) ≡ [] → ⊥
  values_some i zero low more none = omega arith
  values_some i (suc c) low more none = joined_some (a.val_text (v i)) (map a.val_text (map v (range_with_len (i + 1) c))) (some_text (v i) (fit k i (lt-ltb i n low))) none

  reads : (j : ℕ) → j < block_count len n → change_of (record_of (vector_pair a len n counts v j)) ≡ Some (count_at j)
  reads j low =
      let placed = block_placed len n j some low in
      count_read j (count_at j) (join_with_byte 44 (map a.val_text (map v (nodes_of_block len n j)))) (omega (arith, low, blocks_few a laws len n some short few)) (changes_few a laws len n some short few counts most v (fit k) j)
      (values_some (j * len) (block_size len n j) placed.start placed.some)

  pub count_of_blocks : changes_in (block_layout (sequence a vectors) len n cut.reducers k) ≡ Some (changed_in (sequence a vectors) n k)
  count_of_blocks =
      let all = all_blocks len n in
      ap changes_in (layout_is a vectors len n cut.reducers k)
      ∙ counts_held _ (vector_pair a len n counts v) count_at all (heads_hold gives a laws len n some short few words follows cut some_bytes some_reducers counts most v (fit k))
      (all_below (block_count len n) (λ j. change_of (record_of (vector_pair a len n counts v j)) ≡ Some (count_at j)) reads)
      ∙ ap Some (sum_flat counts (nodes_of_block len n) all ∙ ap (sum_by counts) (all_nodes_of_blocks len n some))
