-- How the vectors of an algorithm stand in folders.
use Rattle.std.specs.Prelude.{ℕ, zero, suc, List, ◌∷◌, ◌++◌, map, decimal, sum_by, if◌then◌else◌}
use Rattle.std.specs.List.{range_with_len}
use Rattle.graph.specs.Steps.{Algorithm, Vector}
use Rattle.gimv_core.specs.Algebras.{Algebra}
use Rattle.pairs.specs.Pairs.{Pair}
use Rattle.flow_core.specs.Parts.{parts_with}

-- a sequence of vectors as its folders tell it: the text of each node's value, 1 where the value changed
-- and else 0, and the value as a number of the result
pub record Sequence : Type 0 where
  pub text : ℕ → ℕ → List ℕ
  pub changes : ℕ → ℕ → ℕ
  pub number : ℕ → ℕ → ℕ

-- whether vector k isn't the same at a node as the one before it; in the first vector each node counts as
-- changed
abbrev pub change_at : {Val Msg Weight : Type 0} → Algorithm Val Msg Weight → (ℕ → Vector Val) → ℕ → ℕ → ℕ
change_at a vectors zero node = 1
change_at a vectors (suc k) node = if a.same (vectors (suc k) node) (vectors k node) then 0 else 1

abbrev pub sequence : {Val Msg Weight : Type 0} → Algebra Val Msg Weight → (ℕ → Vector Val) → Sequence
sequence a vectors =
    record {
      text = λ k node. a.val_text (vectors k node);
      changes = change_at a.algorithm vectors;
      number = λ k node. a.algorithm.number (vectors k node);
    }

-- ---- one line for each node

-- `node TAB V SP change SP value`
abbrev pub value_pair : Sequence → ℕ → ℕ → Pair
value_pair s k node = (decimal node, 86 ∷ 32 ∷ (decimal (s.changes k node) ++ (32 ∷ s.text k node)))

-- `node TAB number`
abbrev pub number_pair : Sequence → ℕ → ℕ → Pair
number_pair s k node = (decimal node, decimal (s.number k node))

-- the parts of the folder of vector k over n nodes
abbrev pub layout : Sequence → ℕ → ℕ → ℕ → List (List ℕ)
layout s n reducers k = parts_with reducers (map (value_pair s k) (range_with_len 0 n))

-- the parts of the result that is read from vector k
abbrev pub result_parts : Sequence → ℕ → ℕ → ℕ → List (List ℕ)
result_parts s n reducers k = parts_with reducers (map (number_pair s k) (range_with_len 0 n))

-- at how many of n nodes vector k changed
abbrev pub changed_in : Sequence → ℕ → ℕ → ℕ
changed_in s n k = sum_by (s.changes k) (range_with_len 0 n)
