-- How the parts that are written for lines of items come to the rows of a block.
use Rattle.std.specs.Prelude.{◌≡◌, ℕ, ◌<◌, ◌≤◌, ◌==◌, List, [], map, All, if◌then◌else◌}
use Rattle.std.specs.List.{flat_map}
use Rattle.graph.specs.Entries.{Entry}
use Rattle.graph.specs.Steps.{Algorithm, Vector}
use Rattle.gimv_block.specs.Blocks.{node_at, entry_at}
use Rattle.gimv_block.specs.BlockLines.{messages_in, parts_of}
use Rattle.gimv_block.specs.BlockSteps.{sent_to}

-- a line of items: entries by their offsets in two blocks
pub record BlockLine (Weight : Type 0) : Type 0 where
  pub column_block : ℕ
  pub row_block : ℕ
  pub items : List (Entry Weight)

-- its entries, by their nodes
abbrev pub entries_of_line : {Weight : Type 0} → ℕ → BlockLine Weight → List (Entry Weight)
entries_of_line len line = map (entry_at len line.row_block line.column_block) line.items

-- what its items pass on of a vector, each with the offset of its row
abbrev pub passed_by : {Val Msg Weight : Type 0} → Algorithm Val Msg Weight → ℕ → Vector Val → BlockLine Weight → List (ℕ × Msg)
passed_by {Val} {Msg} {Weight} a len v line =
    map (λ (e : Entry Weight). (e.row, a.combine2 e.weight (v (node_at len line.column_block e.column)))) line.items

-- what comes of a line to a block of so many rows
abbrev pub parts_to : {Val Msg Weight : Type 0} → Algorithm Val Msg Weight → ℕ → Vector Val → ℕ → ℕ → BlockLine Weight → List (ℕ × Msg)
parts_to a len v block rows line = if line.row_block == block then parts_of a rows (passed_by a len v line) else []

-- to each row of a block come the messages that the lines send to its node
abbrev pub PartsAreSent : Type 0 → Type 0 → Type 0 → Type 0
PartsAreSent Val Msg Weight =
    (a : Algorithm Val Msg Weight) (len block rows row : ℕ) (lines : List (BlockLine Weight)) (v : Vector Val)
    → rows ≤ len → row < rows → All (λ (line : BlockLine Weight). All (λ (e : Entry Weight). e.row < len) line.items) lines
    → messages_in row (flat_map (parts_to a len v block rows) lines)
    ≡ flat_map (λ (line : BlockLine Weight). sent_to a (entries_of_line len line) v (node_at len block row)) lines
