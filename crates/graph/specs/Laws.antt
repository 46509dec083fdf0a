-- What holds of steps, iterates and least labels.
use Rattle.std.specs.Prelude.{◌≡◌, ℕ, ◌<◌, ◌≤◌, ◌^◌, Bool, IsTrue, nat_lt, List, map, All}
use Rattle.std.specs.List.{flat_map}
use Rattle.std.specs.List.Sorted.{IsPermutation}
use Rattle.graph.specs.declared.edges.Edge.{Edge}
use Rattle.graph.specs.Edges.{AreBelow}
use Rattle.graph.specs.Entries.{Entry, hcc_entries}
use Rattle.graph.specs.Steps.{Algorithm, Vector, all_of, step, iterate, IsFirstUnchanged}
use Rattle.graph.specs.Walks.{Reaches, IsLeast, AreLeast}
use Rattle.graph.specs.Algorithms.{hcc, page_rank}

-- The order of messages

-- on messages that fit: combine is associative and commutative, its unit is neutral, and it leads to nothing else
pub record CombinesInAnyOrder {Val Msg Weight : Type 0} (a : Algorithm Val Msg Weight) (fits : Msg → Bool) : Type 0 where
  pub associative : (x y z : Msg) → IsTrue (fits x) → IsTrue (fits y) → IsTrue (fits z) → a.combine (a.combine x y) z ≡ a.combine x (a.combine y z)
  pub commutative : (x y : Msg) → IsTrue (fits x) → IsTrue (fits y) → a.combine x y ≡ a.combine y x
  pub neutral : (x : Msg) → IsTrue (fits x) → a.combine a.unit x ≡ x
  pub unit_fits : IsTrue (fits a.unit)
  pub combine_fits : (x y : Msg) → IsTrue (fits x) → IsTrue (fits y) → IsTrue (fits (a.combine x y))

-- a number of 64 bits
abbrev pub is_of_64_bits : ℕ → Bool
is_of_64_bits m = nat_lt m (2 ^ 64)

-- so it is with the messages of the components, and with those of the ranks
abbrev pub LabelsInAnyOrder : Type 0
LabelsInAnyOrder = CombinesInAnyOrder hcc is_of_64_bits

abbrev pub RanksInAnyOrder : Type 0
RanksInAnyOrder = (n : ℕ) → CombinesInAnyOrder (page_rank n) is_of_64_bits

-- each of the messages fits
abbrev pub AllFit : {Msg : Type 0} → (Msg → Bool) → List Msg → Type 0
AllFit fits messages = All (λ m. IsTrue (fits m)) messages

-- each message that the entries pass on of a vector fits
abbrev pub PassFitting : {Val Msg Weight : Type 0} → Algorithm Val Msg Weight → (Msg → Bool) → List (Entry Weight) → Vector Val → Type 0
PassFitting {Val} {Msg} {Weight} a fits entries v = All (λ (e : Entry Weight). IsTrue (fits (a.combine2 e.weight (v e.column)))) entries

-- messages in another order are the same put together
abbrev pub MessagesInAnyOrder : Type 0 → Type 0 → Type 0 → Type 0
MessagesInAnyOrder Val Msg Weight =
    (a : Algorithm Val Msg Weight) (fits : Msg → Bool) → CombinesInAnyOrder a fits
    → (messages others : List Msg) → AllFit fits messages → IsPermutation messages others
    → all_of a messages ≡ all_of a others

-- messages put together in groups, and then the groups, are the same as all of them at once
abbrev pub MessagesInGroups : Type 0 → Type 0 → Type 0 → Type 0
MessagesInGroups Val Msg Weight =
    (a : Algorithm Val Msg Weight) (fits : Msg → Bool) → CombinesInAnyOrder a fits
    → (groups : List (List Msg)) → All (AllFit fits) groups
    → all_of a (map (all_of a) groups) ≡ all_of a (flat_map (λ group. group) groups)

-- entries in another order make the same step
abbrev pub EntriesInAnyOrder : Type 0 → Type 0 → Type 0 → Type 0
EntriesInAnyOrder Val Msg Weight =
    (a : Algorithm Val Msg Weight) (fits : Msg → Bool) → CombinesInAnyOrder a fits
    → (entries others : List (Entry Weight)) (v : Vector Val) → PassFitting a fits entries v → IsPermutation entries others
    → (node : ℕ) → step a entries v node ≡ step a others v node

-- Labels

-- the least node at the end of a walk is one node, and there is one list of least labels
abbrev pub LeastIsOne : Type 0
LeastIsOne = (edges : List Edge) (i m m' : ℕ) → IsLeast edges i m → IsLeast edges i m' → m ≡ m'

abbrev pub LeastLabelsAreOne : Type 0
LeastLabelsAreOne = (n : ℕ) (edges : List Edge) (labels others : List ℕ) → AreLeast n edges labels → AreLeast n edges others → labels ≡ others

-- each of the first n labels is at the end of a walk from its node, and no greater than the node
pub record AreReached (n : ℕ) (edges : List Edge) (labels : Vector ℕ) : Type 0 where
  pub reached : (i : ℕ) → i < n → Reaches edges i (labels i)
  pub low : (i : ℕ) → i < n → labels i ≤ i

-- a step leaves the labels of the first n nodes as they are
abbrev pub AreFixed : ℕ → List Edge → Vector ℕ → Type 0
AreFixed n edges labels = (i : ℕ) → i < n → step hcc (hcc_entries edges) labels i ≡ labels i

-- the labels of the first n nodes are the least ones
abbrev pub AreLeastLabels : ℕ → List Edge → Vector ℕ → Type 0
AreLeastLabels n edges labels = (i : ℕ) → i < n → IsLeast edges i (labels i)

-- the labels after so many steps
abbrev pub labels_after : List Edge → ℕ → Vector ℕ
labels_after edges k = iterate hcc (hcc_entries edges) k

-- a step never raises a label
abbrev pub StepNeverRaises : Type 0
StepNeverRaises = (edges : List Edge) (labels : Vector ℕ) (i : ℕ) → step hcc (hcc_entries edges) labels i ≤ labels i

-- a step of labels that are reached is reached
abbrev pub StepKeepsReached : Type 0
StepKeepsReached =
    (n : ℕ) (edges : List Edge) (labels : Vector ℕ) → n ≤ 2 ^ 64 → AreBelow n edges
    → AreReached n edges labels → AreReached n edges (step hcc (hcc_entries edges) labels)

-- labels that are reached and that a step leaves as they are are the least ones
abbrev pub FixedAreLeast : Type 0
FixedAreLeast =
    (n : ℕ) (edges : List Edge) (labels : Vector ℕ) → AreBelow n edges
    → AreReached n edges labels → AreFixed n edges labels → AreLeastLabels n edges labels

-- the labels after any number of steps are reached
abbrev pub IteratesAreReached : Type 0
IteratesAreReached = (n : ℕ) (edges : List Edge) (k : ℕ) → n ≤ 2 ^ 64 → AreBelow n edges → AreReached n edges (labels_after edges k)

-- the last iteration of the components of n nodes: the first that changed nothing, the n-th at the latest;
-- from it on the labels are the least ones
pub record EndsAtLeast (n : ℕ) (edges : List Edge) : Type 0 where
  pub last : ℕ
  pub first : IsFirstUnchanged hcc (hcc_entries edges) n last
  pub soon : last ≤ n
  pub least : (k : ℕ) → last ≤ k → AreLeastLabels n edges (labels_after edges k)

-- the components of at least one node end so
abbrev pub IteratesEndAtLeast : Type 0
IteratesEndAtLeast = (n : ℕ) (edges : List Edge) → 1 ≤ n → n ≤ 2 ^ 64 → AreBelow n edges → EndsAtLeast n edges
