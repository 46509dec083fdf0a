-- What `firstb` and `block2` make of a block's values.
use Rattle.std.specs.Prelude.{◌≡◌, ℕ, ◌+◌, ◌<◌, ◌≤◌, ◌^◌, List, map, sum_by, if◌then◌else◌}
use Rattle.std.specs.List.{range_with_len}
use Rattle.std.specs.List.Sorted.{IsPermutation}
use Rattle.graph.specs.Steps.{Algorithm, Vector}
use Rattle.gimv_core.specs.Algebras.{Algebra}
use Rattle.gimv_base.specs.Parts.{written}
use Rattle.gimv_block.specs.Blocks.{block_count, block_size, nodes_of_block}
use Rattle.gimv_block.specs.BlockLines.{values_line, seat_text}
use Rattle.gimv_block.specs.BlockRules.{firstb_part, new_values, changed_values}

-- where each place of a block comes once, in any order, each with its node: the first values of these nodes, in the order of
-- the places
abbrev pub FirstsByOffsets : Type 0 → Type 0 → Type 0 → Type 0
FirstsByOffsets Val Msg Weight =
    (a : Algebra Val Msg Weight) (len n j : ℕ) (id : ℕ → ℕ) (places : List ℕ)
    → 1 ≤ len → n ≤ 2 ^ 32 → j < block_count len n → ((p : ℕ) → p < n → id p < n) → IsPermutation (nodes_of_block len n j) places
    → firstb_part a len n (map (λ p. seat_text len p (id p)) places)
    ≡ written (values_line a j (block_size len n j) (map a.algorithm.first (map id (nodes_of_block len n j))))

-- whether a node's value changes
abbrev pub differs : {Val Msg Weight : Type 0} → Algorithm Val Msg Weight → Vector Val → Vector Val → ℕ → ℕ
differs a old new i = if a.same (new i) (old i) then 0 else 1

-- the new values of nodes that follow each other are those of a vector, where each row's messages give its value; and as many
-- change as of its nodes
pub record AreRenewed {Val Msg Weight : Type 0} (a : Algebra Val Msg Weight) (all : ℕ → Msg) (old new : Vector Val) (start size : ℕ) : Type 0 where
  pub values : new_values a all 0 (map old (range_with_len start size)) ≡ map new (range_with_len start size)
  pub changed : changed_values a (map old (range_with_len start size)) (map new (range_with_len start size))
      ≡ sum_by (differs a.algorithm old new) (range_with_len start size)

abbrev pub NewValuesAreMade : Type 0 → Type 0 → Type 0 → Type 0
NewValuesAreMade Val Msg Weight =
    (a : Algebra Val Msg Weight) (all : ℕ → Msg) (old new : Vector Val) (start size : ℕ)
    → ((row : ℕ) → row < size → a.algorithm.assign (old (start + row)) (all row) ≡ new (start + row))
    → AreRenewed a all old new start size
