-- All ranks together are at most one whole, which is 2^32 units.
use Rattle.std.specs.Prelude.{◌≡◌, ℕ, suc, ◌+◌, ◌*◌, ◌/◌, ◌<◌, ◌≤◌, ◌^◌, List, sum}
use Rattle.std.specs.List.{sum_by, range_with_len}
use Rattle.graph.specs.declared.edges.Edge.{Edge}
use Rattle.graph.specs.Edges.{AreBelow}
use Rattle.graph.specs.Entries.{page_rank_entries}
use Rattle.graph.specs.Steps.{Vector, messages_to, iterate}
use Rattle.graph.specs.Algorithms.{page_rank}

-- the ranks of n nodes after so many steps
abbrev pub ranks_after : ℕ → List Edge → ℕ → Vector ℕ
ranks_after n edges k = iterate (page_rank n) (page_rank_entries edges) k

abbrev pub RanksSumToAWhole : Type 0
RanksSumToAWhole = (n : ℕ) (edges : List Edge) (k : ℕ) → AreBelow n edges → sum_by (ranks_after n edges k) (range_with_len 0 n) ≤ 2 ^ 32

-- what a node gets by itself, and what the entries of its row pass on
abbrev pub uncapped : ℕ → List Edge → ℕ → ℕ → ℕ
uncapped n edges k i = 3 * 2 ^ 32 / (20 * n) + sum (messages_to (page_rank n) (page_rank_entries edges) (ranks_after n edges k) i)

-- so no sum of a step reaches its cap
abbrev pub NoSumIsCapped : Type 0
NoSumIsCapped =
    (n : ℕ) (edges : List Edge) (k i : ℕ) → AreBelow n edges → i < n
    → (uncapped n edges k i ≤ 2 ^ 32) × (ranks_after n edges (suc k) i ≡ uncapped n edges k i)
