-- What is written of blocks reads back.
use Rattle.std.specs.Prelude.{◌≡◌, ◌≢◌, ℕ, ◌<◌, ◌≤◌, ◌^◌, List, [], map, length, All, Option, Some, decimal}
use Rattle.peg_text.specs.Pairs.{key_of}
use Rattle.graph.specs.Entries.{Entry}
use Rattle.graph.specs.Steps.{Vector}
use Rattle.gimv_core.specs.Algebras.{Algebra, FitsVal, FitsMsg}
use Rattle.gimv_core.specs.Laws.{IsLawful}
use Rattle.gimv_base.specs.Lines.{entry_text}
use Rattle.gimv_base.specs.ReadBack.{ReadsAs}
use Rattle.gimv_block.specs.Blocks.{block_count, block_size, block_of, offset_of, nodes_of_block}
use Rattle.gimv_block.specs.BlockFlow.{BlockLine, passed_by}
use Rattle.gimv_block.specs.BlockRecords.{block_record_of, parts_record_of, sent_record_of, seat_record_of, matrix_record_of, cut_record_of, block_pair_of}
use Rattle.gimv_block.specs.BlockLines.{values_text, parts_text, link_text, seat_text, cut_text}

-- a block and its values, one for each of its nodes
abbrev pub BlocksReadBack : Type 0 → Type 0 → Type 0 → Type 0
BlocksReadBack Val Msg Weight =
    (a : Algebra Val Msg Weight) → IsLawful a
    → (len n j c : ℕ) (vs : List Val) → j < block_count len n → n ≤ 2 ^ 32 → block_count len n ≤ 2 ^ 32 → c ≤ 256
    → vs ≢ [] → length vs ≡ block_size len n j → All (FitsVal a) vs
    → ReadsAs (block_record_of a len n) (values_text a j c vs) (Some (j, vs))

-- messages to rows of a block
abbrev pub PartsReadBack : Type 0 → Type 0 → Type 0 → Type 0
PartsReadBack Val Msg Weight =
    (a : Algebra Val Msg Weight) → IsLawful a
    → (i rows : ℕ) (parts : List (ℕ × Msg)) → i < 2 ^ 32 → rows ≤ 2 ^ 32
    → parts ≢ [] → All (λ p. (p.0 < rows) × FitsMsg a p.1) parts
    → ReadsAs (parts_record_of a rows) (parts_text a i parts) (Some parts)

-- an item between so many rows and columns, whose weight is written by its number
pub record IsGoodItem {Val Msg Weight : Type 0} (a : Algebra Val Msg Weight) (number : Weight → ℕ) (rows columns : ℕ) (e : Entry Weight) : Type 0 where
  pub row : e.row < rows
  pub column : e.column < columns
  pub light : number e.weight < 2 ^ 64
  pub weighs : a.weight_of (decimal (number e.weight)) ≡ Some e.weight

-- a line of such items between two blocks of n nodes
pub record IsGoodLine {Val Msg Weight : Type 0} (a : Algebra Val Msg Weight) (number : Weight → ℕ) (len n : ℕ) (line : BlockLine Weight) : Type 0 where
  pub column_low : line.column_block < block_count len n
  pub row_low : line.row_block < block_count len n
  pub items_some : line.items ≢ []
  pub each : All (IsGoodItem a number (block_size len n line.row_block) (block_size len n line.column_block)) line.items

-- how it is written
abbrev pub numbered_entry : {Weight : Type 0} → (Weight → ℕ) → Entry Weight → Entry ℕ
numbered_entry number e = record { row = e.row; column = e.column; weight = number e.weight }

abbrev pub line_text : {Weight : Type 0} → (Weight → ℕ) → BlockLine Weight → List ℕ
line_text number line = link_text line.column_block line.row_block (map (numbered_entry number) line.items)

-- a line of items, within the values of its columns' block
abbrev pub LinesReadBack : Type 0 → Type 0 → Type 0 → Type 0
LinesReadBack Val Msg Weight =
    (a : Algebra Val Msg Weight) (number : Weight → ℕ) (len n : ℕ) (line : BlockLine Weight) (v : Vector Val)
    → 1 ≤ len → n ≤ 2 ^ 32 → IsGoodLine a number len n line
    → ReadsAs (sent_record_of a len n line.column_block (map v (nodes_of_block len n line.column_block))) (line_text number line)
    (Some (line.row_block, passed_by a.algorithm len v line))

-- a node by its offset in a block
abbrev pub SeatsReadBack : Type 0
SeatsReadBack =
    (len size n place node : ℕ) → place < 2 ^ 32 → offset_of len place < size → size ≤ 2 ^ 32 → node < n → n ≤ 2 ^ 32
    → ReadsAs (seat_record_of size n) (seat_text len place node) (Some (offset_of len place, node))

-- an entry of a matrix, by its column
abbrev pub MatricesReadBack : Type 0
MatricesReadBack =
    (e : Entry ℕ) → e.row < 2 ^ 32 → e.column < 2 ^ 32 → 1 ≤ e.weight → e.weight < 2 ^ 64
    → ReadsAs matrix_record_of (entry_text e.column e.row e.weight) (Some e)

-- an entry by its blocks, and the blocks by the key
abbrev pub cut_entry : ℕ → Entry ℕ → Entry ℕ
cut_entry len e = record { row = offset_of len e.row; column = offset_of len e.column; weight = e.weight }

pub record CutReadsBack (len : ℕ) (e : Entry ℕ) : Type 0 where
  pub entry : ReadsAs cut_record_of (cut_text len e) (Some (cut_entry len e))
  pub blocks : block_pair_of (key_of (cut_text len e)) ≡ Some (block_of len e.column, block_of len e.row)

abbrev pub CutsReadBack : Type 0
CutsReadBack =
    (len : ℕ) (e : Entry ℕ) → e.row < 2 ^ 32 → e.column < 2 ^ 32 → 1 ≤ e.weight → e.weight < 2 ^ 64 → CutReadsBack len e
