-- Generalized matrix-vector products (Kang, Tsourakakis and Faloutsos 2009): steps over vectors, iterates, and what changed.
use Rattle.std.specs.Prelude.{◌≡◌, ◌≢◌, ℕ, zero, suc, ◌==◌, ◌<◌, ◌≤◌, Bool, not, List, map, filter, fold, count_by}
use Rattle.std.specs.List.{range_with_len}
use Rattle.graph.specs.Entries.{Entry}

-- the functions of an algorithm, by its values, messages and weights
pub record Algorithm (Val Msg Weight : Type 0) : Type 0 where
  -- what no message leaves
  pub unit : Msg
  -- two messages put together
  pub combine : Msg → Msg → Msg
  -- what an entry of this weight passes on of the value of its column
  pub combine2 : Weight → Val → Msg
  -- the new value, from the old one and all messages put together
  pub assign : Val → Msg → Val
  -- whether two values count as the same
  pub same : Val → Val → Bool
  -- the value of a node before the first step
  pub first : ℕ → Val
  -- the number that a value stands for in a result
  pub number : Val → ℕ

-- a value of each node
abbrev pub Vector : Type 0 → Type 0
Vector Val = ℕ → Val

-- the messages to a node, in the order of the entries
abbrev pub messages_to : {Val Msg Weight : Type 0} → Algorithm Val Msg Weight → List (Entry Weight) → Vector Val → ℕ → List Msg
messages_to {Val} {Msg} {Weight} a entries v node =
    map (λ (e : Entry Weight). a.combine2 e.weight (v e.column)) (filter (λ (e : Entry Weight). e.row == node) entries)

-- messages put together in their order, from the unit on
abbrev pub all_of : {Val Msg Weight : Type 0} → Algorithm Val Msg Weight → List Msg → Msg
all_of a messages = fold a.combine a.unit messages

-- one step: each node takes over the messages to it, put together
abbrev pub step : {Val Msg Weight : Type 0} → Algorithm Val Msg Weight → List (Entry Weight) → Vector Val → Vector Val
step a entries v node = a.assign (v node) (all_of a (messages_to a entries v node))

-- the vector after so many steps from the first one
abbrev pub iterate : {Val Msg Weight : Type 0} → Algorithm Val Msg Weight → List (Entry Weight) → ℕ → Vector Val
iterate a entries zero = a.first
iterate a entries (suc k) = step a entries (iterate a entries k)

-- at how many of the first n nodes the new vector isn't the same as the old one
abbrev pub count_changed : {Val Msg Weight : Type 0} → Algorithm Val Msg Weight → ℕ → Vector Val → Vector Val → ℕ
count_changed a n old new = count_by (λ node. not (a.same (new node) (old node))) (range_with_len 0 n)

-- how many of the n nodes an iteration changed; before the first step all of them count
abbrev pub changed : {Val Msg Weight : Type 0} → Algorithm Val Msg Weight → List (Entry Weight) → ℕ → ℕ → ℕ
changed a entries n zero = n
changed a entries n (suc k) = count_changed a n (iterate a entries k) (iterate a entries (suc k))

-- the first iteration, from 1, that changed no node
pub record IsFirstUnchanged {Val Msg Weight : Type 0} (a : Algorithm Val Msg Weight) (entries : List (Entry Weight)) (n k : ℕ) : Type 0 where
  pub made : 1 ≤ k
  pub unchanged : changed a entries n k ≡ 0
  pub earlier : (j : ℕ) → 1 ≤ j → j < k → changed a entries n j ≢ 0
