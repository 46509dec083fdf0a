-- Steps of values that were closed within blocks first.
use Rattle.std.specs.Prelude.{ℕ, zero, suc, ◌==◌, List, filter}
use Rattle.graph.specs.Entries.{Entry}
use Rattle.graph.specs.Steps.{Algorithm, Vector, step}
use Rattle.gimv_core.specs.Consequences.{rounds}
use Rattle.gimv_block.specs.Blocks.{block_of}

-- the entries whose row and column are in one block
abbrev pub inner_entries : {Weight : Type 0} → ℕ → List (Entry Weight) → List (Entry Weight)
inner_entries {Weight} len entries =
    filter (λ (e : Entry Weight). block_of len e.row == block_of len e.column) entries

-- values closed in each block: as many steps along these as a block has nodes
abbrev pub closed : {Val Msg Weight : Type 0} → Algorithm Val Msg Weight → ℕ → List (Entry Weight)
    → Vector Val → Vector Val
closed a len entries v = rounds a (inner_entries len entries) len v

-- the vector after so many steps of closed values
abbrev pub closed_iterate : {Val Msg Weight : Type 0} → Algorithm Val Msg Weight → ℕ → List (Entry Weight) → ℕ
    → Vector Val
closed_iterate a len entries zero = a.first
closed_iterate a len entries (suc k) = step a entries (closed a len entries (closed_iterate a len entries k))
