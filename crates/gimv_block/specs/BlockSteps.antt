-- Steps whose messages are put together for each line of entries first.
use Rattle.std.specs.Prelude.{◌≡◌, ℕ, zero, suc, ◌+◌, ◌*◌, ◌<◌, ◌≤◌, ◌^◌, ◌==◌, Bool, List, [], ◌∷◌, map, All, if◌then◌else◌}
use Rattle.std.specs.List.{flat_map}
use Rattle.std.specs.List.Sorted.{IsPermutation}
use Rattle.graph.specs.Entries.{Entry}
use Rattle.graph.specs.Steps.{Algorithm, Vector, messages_to, all_of, step, iterate}
use Rattle.gimv_core.specs.Algebras.{Algebra, VectorFits, EntriesFit}
use Rattle.gimv_core.specs.Laws.{IsLawful}
use Rattle.gimv_core.specs.Consequences.{first_nodes}
use Rattle.gimv_block.specs.Blocks.{block_of, offset_of, node_at, entry_at}

-- what a list gives as a whole, unless it is empty
abbrev pub of_some : {A B : Type 0} → (List A → B) → List A → List B
of_some f [] = []
of_some f (x ∷ xs) = f (x ∷ xs) ∷ []

-- what the entries of one line pass on to a node, put together; nothing where none of them stands in its row
abbrev pub sent_to : {Val Msg Weight : Type 0} → Algorithm Val Msg Weight → List (Entry Weight) → Vector Val → ℕ → List Msg
sent_to a line v node = of_some (all_of a) (messages_to a line v node)

-- one step, where each line sends one message to a node
abbrev pub block_step : {Val Msg Weight : Type 0} → Algorithm Val Msg Weight → List (List (Entry Weight)) → Vector Val → Vector Val
block_step a lines v node = a.assign (v node) (all_of a (flat_map (λ line. sent_to a line v node) lines))

abbrev pub block_iterate : {Val Msg Weight : Type 0} → Algorithm Val Msg Weight → List (List (Entry Weight)) → ℕ → Vector Val
block_iterate a lines zero = a.first
block_iterate a lines (suc k) = block_step a lines (block_iterate a lines k)

-- the lines together have the entries, each as often
abbrev pub AreCut : {A : Type 0} → List A → List (List A) → Type 0
AreCut entries lines = IsPermutation entries (flat_map (λ line. line) lines)

-- however the entries are cut into lines, and in whatever order the lines' messages come: the new value is that of the step
abbrev pub BlockStepsAreSteps : Type 0 → Type 0 → Type 0 → Type 0
BlockStepsAreSteps Val Msg Weight =
    (a : Algebra Val Msg Weight) → IsLawful a
    → (nodes : ℕ → Bool) (entries : List (Entry Weight)) (lines : List (List (Entry Weight))) (v : Vector Val)
    → EntriesFit a nodes entries → VectorFits a nodes v → AreCut entries lines
    → (i : ℕ) (messages : List Msg) → IsPermutation (flat_map (λ line. sent_to a.algorithm line v i) lines) messages
    → a.algorithm.assign (v i) (all_of a.algorithm messages) ≡ step a.algorithm entries v i

-- so the iterates are those of the plain steps
abbrev pub BlockIteratesAreIterates : Type 0 → Type 0 → Type 0 → Type 0
BlockIteratesAreIterates Val Msg Weight =
    (a : Algebra Val Msg Weight) → IsLawful a
    → (n : ℕ) (entries : List (Entry Weight)) (lines : List (List (Entry Weight)))
    → n ≤ 2 ^ 32 → EntriesFit a (first_nodes n) entries → AreCut entries lines
    → (k i : ℕ) → block_iterate a.algorithm lines k i ≡ iterate a.algorithm entries k i

-- the entries of a line between two blocks, by their offsets: to a node of the row's block they pass on what stands in the
-- row of its offset there, from the values of the column's block; to any other node nothing
abbrev pub LinesByOffsets : Type 0 → Type 0 → Type 0 → Type 0
LinesByOffsets Val Msg Weight =
    (a : Algorithm Val Msg Weight) (len row_block column_block : ℕ) (line : List (Entry Weight)) (v : Vector Val) (i : ℕ)
    → 1 ≤ len → All (λ (e : Entry Weight). e.row < len) line
    → messages_to a (map (entry_at len row_block column_block) line) v i
    ≡ (if block_of len i == row_block then messages_to a line (λ c. v (node_at len column_block c)) (offset_of len i) else [])
