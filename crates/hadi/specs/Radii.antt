-- The number of a node is its radius.
use Rattle.std.specs.Prelude.{ℕ, ◌-◌, ◌<◌, ◌≤◌, List}
use Rattle.graph.specs.declared.edges.One.{One}
use Rattle.graph.specs.Entries.{Entry}
use Rattle.graph.specs.Steps.{Vector, iterate}
use Rattle.bitstrings.specs.Bitstrings.{Bitstrings}
use Rattle.bitstrings.specs.Words.{places}
use Rattle.hadi.specs.Hadi.{hadi}

-- what the nodes keep after so many steps
abbrev pub kept_after : ℕ → List (Entry One) → ℕ → Vector Bitstrings
kept_after seed entries k = iterate (hadi seed) entries k

-- the sum of the first-zero places of a node's words after so many steps
abbrev pub sum_after : ℕ → List (Entry One) → ℕ → ℕ → ℕ
sum_after seed entries h node = places (kept_after seed entries h node).words

-- h is the first step after which the sum is within 4 of that after k steps
pub record IsRadius (seed : ℕ) (entries : List (Entry One)) (k node h : ℕ) : Type 0 where
  pub within : h ≤ k
  pub near : sum_after seed entries k node - sum_after seed entries h node ≤ 4
  pub apart : (j : ℕ) → j < h → 4 < sum_after seed entries k node - sum_after seed entries j node

-- after at most 256 steps the number of a node is its radius
abbrev pub NumbersAreRadii : Type 0
NumbersAreRadii =
    (seed : ℕ) (entries : List (Entry One)) (k node : ℕ) → k ≤ 256
    → IsRadius seed entries k node ((hadi seed).number (kept_after seed entries k node))
