-- Lists of labels, and how they are lowered.
use Rattle.std.specs.Prelude.{◌≡◌, ℕ, ◌<◌, ◌≤◌, ◌⊎◌, Bool, true, false, List, length, slice_index, slice_set, min, max, sum, All, EachIndex}
use Rattle.graph.specs.declared.edges.Edge.{Edge}
use Rattle.graph.specs.Laws.{AreReached}

-- no label is greater than its node
abbrev pub AreLow : List ℕ → Type 0
AreLow labels = EachIndex labels (λ i. slice_index labels i ≤ i)

-- the two nodes of each edge have the same label
abbrev pub AreSettled : List ℕ → List Edge → Type 0
AreSettled labels edges = All (λ (e : Edge). slice_index labels e.source ≡ slice_index labels e.target) edges

-- the labels with the one of this node lowered
abbrev pub lowered : List ℕ → ℕ → ℕ → List ℕ
lowered labels node label = slice_set labels node (min (slice_index labels node) label)

-- the label of the node that is a node's label
abbrev pub next_label : List ℕ → ℕ → ℕ
next_label labels node = slice_index labels (slice_index labels node)

-- the labels with those of two nodes, and of the greater of their next labels, lowered to the least of these
abbrev pub joined : List ℕ → ℕ → ℕ → List ℕ
joined labels s t =
    let a = next_label labels s in
    let b = next_label labels t in
    lowered (lowered (lowered labels s (min a b)) t (min a b)) (max a b) (min a b)

-- these edges were gone over: the labels are still reached, some are lower if some were apart, and else all is settled
pub record IsSwept (edges swept : List Edge) (before now : List ℕ) (apart : Bool) : Type 0 where
  pub reached : AreReached (length now) edges (slice_index now)
  pub lower : apart ≡ true → sum now < sum before
  pub settled : apart ≡ false → (now ≡ before) × AreSettled now swept

-- a label stayed, or became the new label of its lesser node
abbrev pub IsShortened : List ℕ → List ℕ → ℕ → Type 0
IsShortened before now i = (slice_index now i ≡ slice_index before i) ⊎ ((slice_index before i < i) × (slice_index now i ≡ slice_index now (slice_index before i)))

-- the labels of the first n nodes are shortened, and the others as before
pub record Shortens (n : ℕ) (before now : List ℕ) : Type 0 where
  pub shortened : (i : ℕ) → i < n → IsShortened before now i
  pub others : (i : ℕ) → n ≤ i → slice_index now i ≡ slice_index before i
  pub lower : (i : ℕ) → slice_index now i ≤ slice_index before i
