-- Folders that hold the entries of a matrix block by block.
use Rattle.std.specs.Prelude.{ℕ, List, map, All}
use Rattle.graph.specs.Entries.{Entry}
use Rattle.gimv_core.specs.Algebras.{Algebra, EntriesFit}
use Rattle.gimv_core.specs.Consequences.{first_nodes}
use Rattle.gimv_block.specs.BlockFlow.{BlockLine, entries_of_line}
use Rattle.gimv_block.specs.BlockLines.{link_pair}
use Rattle.gimv_block.specs.BlockReadBack.{IsGoodLine, numbered_entry}
use Rattle.gimv_block.specs.BlockSteps.{AreCut}
use Rattle.pairs.specs.Pairs.{Pair}
use Rattle.flow_core.specs.Holding.{Holds}

-- a line of items, by the block of its columns, where a function gives the weights as numbers
abbrev pub line_pair : {Weight : Type 0} → (Weight → ℕ) → BlockLine Weight → Pair
line_pair number line = link_pair line.column_block line.row_block (map (numbered_entry number) line.items)

-- a folder holds lines of items, all of which the algorithm can read, and together these are the entries of
-- a matrix over n nodes
pub record HasBlocks {Val Msg Weight : Type 0} (a : Algebra Val Msg Weight) (number : Weight → ℕ) (len n : ℕ)
    (entries : List (Entry Weight)) (texts : List (List ℕ)) : Type 0 where
  pub fit : EntriesFit a (first_nodes n) entries
  pub lines : List (BlockLine Weight)
  pub are_cut : AreCut entries (map (entries_of_line len) lines)
  pub good : All (IsGoodLine a number len n) lines
  pub holds : Holds texts (map (line_pair number) lines)
