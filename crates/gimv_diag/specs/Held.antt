-- Lines of items as they are held: how many items each has, and all items in one list.
use Rattle.std.specs.Prelude.{ℕ, ◌&&◌, Bool, nat_lt, nat_eq, List, [], ◌∷◌, length, take, drop, sum_by}
use Rattle.std.specs.List.{list_all}
use Rattle.gimv_core.specs.Algebras.{Algebra}
use Rattle.gimv_block.specs.Blocks.{block_size}
use Rattle.gimv_diag.specs.declared.items.Item.{Item}
use Rattle.gimv_diag.specs.declared.items.Line.{Line}

-- the lines, each with its row's block and its items
abbrev pub held : {Weight : Type 0} → List Line → List (Item Weight) → List (ℕ × List (Item Weight))
held [] items = []
held (line ∷ lines) items = (line.block, take line.count items) ∷ held lines (drop line.count items)

abbrev pub item_count : List Line → ℕ
item_count lines = sum_by (λ (line : Line). line.count) lines

-- an item fits where its offsets are in blocks of these sizes
abbrev pub item_fits : {Val Msg Weight : Type 0} → Algebra Val Msg Weight → ℕ → ℕ → Item Weight → Bool
item_fits a rows columns item = nat_lt item.row rows && (nat_lt item.column columns && a.fits_weight item.weight)

abbrev pub line_fits : {Val Msg Weight : Type 0} → Algebra Val Msg Weight → ℕ → ℕ → ℕ → (ℕ × List (Item Weight)) → Bool
line_fits a len n columns line = list_all (item_fits a (block_size len n line.0) columns) line.1

abbrev pub lines_fit : {Val Msg Weight : Type 0} → Algebra Val Msg Weight → ℕ → ℕ → ℕ → List (ℕ × List (Item Weight)) → Bool
lines_fit a len n columns lines = list_all (line_fits a len n columns) lines
