-- What follows from the laws alone, for each algorithm that keeps them.
use Rattle.std.specs.Prelude.{◌≡◌, ℕ, zero, suc, ◌+◌, ◌≤◌, ◌^◌, ◌&&◌, Bool, IsTrue, nat_lt, nat_le, List}
use Rattle.std.specs.List.Sorted.{IsPermutation}
use Rattle.graph.specs.Entries.{Entry}
use Rattle.graph.specs.Steps.{Algorithm, Vector, step, iterate}
use Rattle.gimv_core.specs.Algebras.{Algebra, FitsVal, FitsMsg, VectorFits, EntriesFit}
use Rattle.gimv_core.specs.Laws.{IsLawful}
use Rattle.gimv_core.specs.Closings.{IsClosing, IsNotAbove}

-- the first n nodes
abbrev pub first_nodes : ℕ → ℕ → Bool
first_nodes n i = nat_lt i n

-- the nodes of a block: so many of them from the first one on
abbrev pub block_nodes : ℕ → ℕ → ℕ → Bool
block_nodes start size i = nat_le start i && nat_lt i (start + size)

-- the vector after so many steps from this one
abbrev pub rounds : {Val Msg Weight : Type 0} → Algorithm Val Msg Weight → List (Entry Weight) → ℕ → Vector Val → Vector Val
rounds a entries zero v = v
rounds a entries (suc k) v = step a entries (rounds a entries k v)

-- a step of values that fit gives values that fit
abbrev pub StepsFit : Type 0 → Type 0 → Type 0 → Type 0
StepsFit Val Msg Weight =
    (a : Algebra Val Msg Weight) → IsLawful a
    → (nodes : ℕ → Bool) (entries : List (Entry Weight)) (v : Vector Val) → EntriesFit a nodes entries → VectorFits a nodes v
    → VectorFits a nodes (step a.algorithm entries v)

-- the iterates of at most 2^32 nodes fit
abbrev pub IteratesFit : Type 0 → Type 0 → Type 0 → Type 0
IteratesFit Val Msg Weight =
    (a : Algebra Val Msg Weight) → IsLawful a
    → (n : ℕ) (entries : List (Entry Weight)) (k : ℕ) → n ≤ 2 ^ 32 → EntriesFit a (first_nodes n) entries
    → VectorFits a (first_nodes n) (iterate a.algorithm entries k)

-- entries in another order make the same step
abbrev pub StepsInAnyOrder : Type 0 → Type 0 → Type 0 → Type 0
StepsInAnyOrder Val Msg Weight =
    (a : Algebra Val Msg Weight) → IsLawful a
    → (nodes : ℕ → Bool) (entries others : List (Entry Weight)) (v : Vector Val) → EntriesFit a nodes entries → VectorFits a nodes v
    → IsPermutation entries others → (i : ℕ) → step a.algorithm entries v i ≡ step a.algorithm others v i

-- a step never raises a value
abbrev pub StepsNeverRaise : Type 0 → Type 0 → Type 0 → Type 0
StepsNeverRaise Val Msg Weight =
    (a : Algebra Val Msg Weight) (as_msg : Val → Msg) → IsLawful a → IsClosing a as_msg
    → (nodes : ℕ → Bool) (entries : List (Entry Weight)) (v : Vector Val) → EntriesFit a nodes entries → VectorFits a nodes v
    → (i : ℕ) → IsTrue (nodes i) → IsNotAbove a as_msg (step a.algorithm entries v i) (v i)

-- a step of values that are not above others gives values that are not above the others' step
abbrev pub StepsAreMonotone : Type 0 → Type 0 → Type 0 → Type 0
StepsAreMonotone Val Msg Weight =
    (a : Algebra Val Msg Weight) (as_msg : Val → Msg) → IsLawful a → IsClosing a as_msg
    → (nodes : ℕ → Bool) (entries : List (Entry Weight)) (c v : Vector Val) → EntriesFit a nodes entries → VectorFits a nodes c → VectorFits a nodes v
    → ((i : ℕ) → IsTrue (nodes i) → IsNotAbove a as_msg (c i) (v i))
    → (i : ℕ) → IsTrue (nodes i) → IsNotAbove a as_msg (step a.algorithm entries c i) (step a.algorithm entries v i)

-- where c is not above v, c sent as a message to v gives what c itself would take over
abbrev pub LowerCountsAsOld : Type 0 → Type 0 → Type 0 → Type 0
LowerCountsAsOld Val Msg Weight =
    (a : Algebra Val Msg Weight) (as_msg : Val → Msg) → IsLawful a → IsClosing a as_msg
    → (c v : Val) (m : Msg) → FitsVal a c → FitsVal a v → FitsMsg a m → IsNotAbove a as_msg c v
    → a.algorithm.assign v (a.algorithm.combine (as_msg c) m) ≡ a.algorithm.assign c m

-- of as many rounds in a block as it has nodes the last one changes nothing, and no later one does
abbrev pub RoundsEnd : Type 0 → Type 0 → Type 0 → Type 0
RoundsEnd Val Msg Weight =
    (a : Algebra Val Msg Weight) (as_msg : Val → Msg) → IsLawful a → IsClosing a as_msg
    → (start size : ℕ) (entries : List (Entry Weight)) (v : Vector Val)
    → EntriesFit a (block_nodes start size) entries → VectorFits a (block_nodes start size) v
    → (k : ℕ) → size ≤ suc k
    → (i : ℕ) → IsTrue (block_nodes start size i) → rounds a.algorithm entries (suc k) v i ≡ rounds a.algorithm entries k v i
