-- The numbers of values by place, to be joined with the nodes there.
use Rattle.std.specs.Prelude.{ℕ, ◌<◌, ◌≤◌, ◌^◌, ◌+◌, ◌*◌, List, [], ◌∷◌, ◌++◌, Option, Some, option_map, decimal}
use Rattle.std.specs.Option.{option_or}
use Rattle.gimv_core.specs.Algebras.{Algebra}
use Rattle.gimv_base.specs.Lines.{with_lf}
use Rattle.gimv_base.specs.Records.{node_record_of, number_record_of, place_record_of}
use Rattle.gimv_base.specs.ReadBack.{ReadsAs}
use Rattle.gimv_base.specs.Rules.{Rule, ByRecord}
use Rattle.gimv_block.specs.BlockLines.{text_of_pair}
use Rattle.gimv_block.specs.BlockRecords.{block_record_of}

-- `p TAB Q SP number`
abbrev pub place_number_pair : ℕ → ℕ → List ℕ × List ℕ
place_number_pair place number = (decimal place, 81 ∷ 32 ∷ decimal number)

abbrev pub place_number_text : ℕ → ℕ → List ℕ
place_number_text place number = text_of_pair (place_number_pair place number)

abbrev pub place_number_line : ℕ → ℕ → List ℕ
place_number_line place number = with_lf (place_number_text place number)

-- the number of each place of a block, from its first one on
abbrev pub place_number_lines : {Val Msg Weight : Type 0} → Algebra Val Msg Weight → ℕ → List Val → List ℕ
place_number_lines a place [] = []
place_number_lines a place (v ∷ vs) =
    place_number_line place (a.algorithm.number v) ++ place_number_lines a (place + 1) vs

-- a block's numbers by place, or the record of a place's node as it is
abbrev pub unplaced_of : {Val Msg Weight : Type 0} → Algebra Val Msg Weight → ℕ → ℕ → List ℕ → Option (List ℕ)
unplaced_of a len n r =
    option_or (option_map (λ block. place_number_lines a (block.0 * len) block.1) (block_record_of a len n r))
    (option_map (λ node. with_lf r) (node_record_of n r))

-- `unplace`
abbrev pub unplace_rule : {Val Msg Weight : Type 0} → Algebra Val Msg Weight → ℕ → ℕ → Rule
unplace_rule a len n = ByRecord (unplaced_of a len n)

-- ---- what a place's records say

-- `p TAB P SP i`
abbrev pub node_pair : ℕ → ℕ → List ℕ × List ℕ
node_pair place node = (decimal place, 80 ∷ 32 ∷ decimal node)

abbrev pub node_text : ℕ → ℕ → List ℕ
node_text place node = text_of_pair (node_pair place node)

abbrev pub PlaceNumbersReadBack : Type 0
PlaceNumbersReadBack =
    (place number : ℕ) → place < 2 ^ 32 → number < 2 ^ 64
    → ReadsAs number_record_of (place_number_text place number) (Some number)

abbrev pub PlaceNodesReadBack : Type 0
PlaceNodesReadBack =
    (n place node : ℕ) → place < n → node < n → n ≤ 2 ^ 32
    → ReadsAs (node_record_of n) (node_text place node) (Some (place, node))
    × ReadsAs place_record_of (node_text place node) (Some (place, node))
