-- How the vectors of an algorithm stand in folders, block by block.
use Rattle.std.specs.Prelude.{ℕ, List, ◌∷◌, ◌++◌, map, decimal, sum_by}
use Rattle.std.specs.List.{flat_map, join_with_byte, range_with_len}
use Rattle.peg_text.specs.Pairs.{pair_line}
use Rattle.gimv_block.specs.Blocks.{nodes_of_block, all_blocks}
use Rattle.gimv_block.specs.Unplacing.{node_pair}
use Rattle.pairs.specs.Pairs.{Pair}
use Rattle.flow_core.specs.Parts.{parts_with}
use Rattle.flow_base.specs.Layouts.{Sequence}

-- `block TAB V SP changes SP values`: the values of the block's nodes, in their order, with a comma between
-- each two of them, and how many of them changed
abbrev pub block_pair : Sequence → ℕ → ℕ → ℕ → ℕ → Pair
block_pair s len n k block =
    let nodes = nodes_of_block len n block in
    let values = join_with_byte 44 (map (s.text k) nodes) in
    (decimal block, 86 ∷ 32 ∷ (decimal (sum_by (s.changes k) nodes) ++ (32 ∷ values)))

-- the parts of the folder of vector k over n nodes, in blocks of this length
abbrev pub block_layout : Sequence → ℕ → ℕ → ℕ → ℕ → List (List ℕ)
block_layout s len n reducers k = parts_with reducers (map (block_pair s len n k) (all_blocks len n))

-- the text of n places, where `id` is the node at a place
abbrev pub place_line : (ℕ → ℕ) → ℕ → List ℕ
place_line id place = pair_line (node_pair place (id place)).0 (node_pair place (id place)).1

abbrev pub places_text : (ℕ → ℕ) → ℕ → List ℕ
places_text id n = flat_map (place_line id) (range_with_len 0 n)
