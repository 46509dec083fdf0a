-- Nodes in blocks of equal length, of which the last may be shorter.
use Rattle.std.specs.Prelude.{◌≡◌, ℕ, ◌+◌, ◌-◌, ◌*◌, ◌/◌, ◌%◌, ◌<◌, ◌≤◌, min, List}
use Rattle.std.specs.Int.{div_ceil}
use Rattle.std.specs.List.{flat_map, range_with_len}
use Rattle.graph.specs.Entries.{Entry}

-- how many blocks n nodes are
abbrev pub block_count : ℕ → ℕ → ℕ
block_count len n = div_ceil n len

-- how many nodes a block has
abbrev pub block_size : ℕ → ℕ → ℕ → ℕ
block_size len n block = min len (n - block * len)

-- the block of a node, and its offset there
abbrev pub block_of : ℕ → ℕ → ℕ
block_of len node = node / len

abbrev pub offset_of : ℕ → ℕ → ℕ
offset_of len node = node % len

-- the node at an offset of a block
abbrev pub node_at : ℕ → ℕ → ℕ → ℕ
node_at len block offset = block * len + offset

-- an entry between two blocks, from the offsets of its row and its column
abbrev pub entry_at : {Weight : Type 0} → ℕ → ℕ → ℕ → Entry Weight → Entry Weight
entry_at len row_block column_block e =
    record { row = node_at len row_block e.row; column = node_at len column_block e.column; weight = e.weight }

-- the nodes of a block, and all blocks, in their order
abbrev pub nodes_of_block : ℕ → ℕ → ℕ → List ℕ
nodes_of_block len n block = range_with_len (block * len) (block_size len n block)

abbrev pub all_blocks : ℕ → ℕ → List ℕ
all_blocks len n = range_with_len 0 (block_count len n)

-- each node has an offset in a block, and is the node there
pub record HasOffset (len n node : ℕ) : Type 0 where
  pub block : block_of len node < block_count len n
  pub offset : offset_of len node < block_size len n (block_of len node)
  pub back : node_at len (block_of len node) (offset_of len node) ≡ node

abbrev pub NodesHaveOffsets : Type 0
NodesHaveOffsets = (len n node : ℕ) → 1 ≤ len → node < n → HasOffset len n node

-- block by block the nodes are all nodes, each once
abbrev pub BlocksAreAllNodes : Type 0
BlocksAreAllNodes = (len n : ℕ) → 1 ≤ len → flat_map (nodes_of_block len n) (all_blocks len n) ≡ range_with_len 0 n
