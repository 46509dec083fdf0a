-- The lines of the base form as pairs.
use Rattle.std.proofs.Common.{ℕ, ◌∷◌, ◌++◌, decimal}
use Rattle.graph.specs.Entries.{Entry}
use Rattle.graph.specs.Steps.{Vector}
use Rattle.gimv_core.specs.Algebras.{Algebra}
use Rattle.pairs.specs.Pairs.{Pair}

-- what an entry passes on, by its row
abbrev pub message_pair : {Val Msg Weight : Type 0} → Algebra Val Msg Weight → Vector Val → Entry Weight → Pair
message_pair a v e = (decimal e.row, 89 ∷ 32 ∷ a.msg_text (a.algorithm.combine2 e.weight (v e.column)))

-- a node's value, and whether it counts as changed
abbrev pub node_pair : {Val Msg Weight : Type 0} → Algebra Val Msg Weight → (ℕ → ℕ) → Vector Val → ℕ → Pair
node_pair a changes v node = (decimal node, 86 ∷ 32 ∷ (decimal (changes node) ++ (32 ∷ a.val_text (v node))))

-- a place and the node there, which in the base form is the place
abbrev pub place_pair : ℕ → Pair
place_pair node = (decimal node, 80 ∷ 32 ∷ decimal node)
