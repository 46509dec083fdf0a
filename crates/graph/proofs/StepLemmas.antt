-- A step of the components: it falls, it reaches, and where it changes nothing the labels are the least ones.
use Rattle.std.proofs.Common.{◌≡◌, ℕ, zero, suc, ◌+◌, ◌-◌, ◌<◌, ◌≤◌, ◌^◌, ◌⊎◌, min, List, [], ◌∷◌, fold, All, Contains, sym, subst, inl, inr, arith}
use Rattle.std.proofs.Math.Nat.{min-le_left, min-le_right}
use Rattle.std.proofs.lemmas.Bool.{cases_lt}
use Rattle.std.proofs.lemmas.List.Elements.{All-nil, All-cons, All-head, All-tail, All-contains, All-contains_itself, All-weaker}
use Rattle.graph.specs.declared.edges.Edge.{Edge}
use Rattle.graph.specs.Edges.{AreBelow}
use Rattle.graph.specs.Entries.{hcc_entries}
use Rattle.graph.specs.Steps.{Vector, messages_to, all_of, step}
use Rattle.graph.specs.Walks.{Joins, AreJoined, IsWalk, Reaches}
use Rattle.graph.specs.Algorithms.{hcc}
use Rattle.graph.specs.Laws.{AreReached, AreFixed, AreLeastLabels, labels_after}
use Rattle.graph.proofs.Messages.{PassesGood, All-messages_to, each_message, HasGoodEntries, All-both_ways, each_both_ways}
use Rattle.graph.proofs.WalkLemmas.{reaches_itself, reaches_over, AreJoined-from_edge, AreJoined-sym, joined-lt}

-- the lesser of two numbers is one of them
pub min_is : (a b : ℕ) → (min a b ≡ a) ⊎ (min a b ≡ b)
min_is a b = elim (cases_lt a b) [ inl lt ↦ inl (omega arith) | inr ge ↦ inr (omega arith) ]

-- what holds of two numbers holds of the lesser one
pub min_keeps : (P : ℕ → Type 0) (a b : ℕ) → P a → P b → P (min a b)
min_keeps P a b pa pb = elim (min_is a b) [ inl is ↦ rw is pa | inr is ↦ rw is pb ]

fold_min-le : (x : ℕ) (ms : List ℕ) → fold min x ms ≤ x
fold_min-le x [] = omega arith
fold_min-le x (m ∷ ms) = omega (arith, fold_min-le (min x m) ms, min-le_left x m)

fold_min_below : (x : ℕ) (ms : List ℕ) → All (λ m. fold min x ms ≤ m) ms
fold_min_below x [] = All-nil (λ m. x ≤ m)
fold_min_below x (m ∷ ms) =
    All-cons (λ y. fold min (min x m) ms ≤ y) m ms (omega (arith, fold_min-le (min x m) ms, min-le_right x m)) (fold_min_below (min x m) ms)

fold_min_keeps : (P : ℕ → Type 0) (x : ℕ) (ms : List ℕ) → P x → All P ms → P (fold min x ms)
fold_min_keeps P x [] p all = p
fold_min_keeps P x (m ∷ ms) p all = fold_min_keeps P (min x m) ms (min_keeps P x m p (All-head P m ms all)) (All-tail P m ms all)

-- the least label that comes to a node
abbrev pub gathered : List Edge → Vector ℕ → ℕ → ℕ
gathered edges v i = all_of hcc (messages_to hcc (hcc_entries edges) v i)

-- it is at most the label of each neighbour
gathered_by : (x : ℕ) (v : Vector ℕ) (e : Edge) (i j : ℕ) → HasGoodEntries (PassesGood hcc (λ m. x ≤ m) v i) e → Joins e i j → x ≤ v j
gathered_by x v e i j good (inl there) = subst (λ k. x ≤ v k) there.1 (good.0 there.0)
gathered_by x v e i j good (inr back) = subst (λ k. x ≤ v k) back.0 (good.1 back.1)

pub gathered-le_joined : (edges : List Edge) (v : Vector ℕ) (i j : ℕ) → AreJoined edges i j → gathered edges v i ≤ v j
gathered-le_joined edges v i j joined =
    let x = gathered edges v i in
    let P : ℕ → Type 0 = λ m. x ≤ m in
    let passed = each_message hcc P v i (hcc_entries edges) (fold_min_below (2 ^ 64 - 1) (messages_to hcc (hcc_entries edges) v i)) in
    let good = each_both_ways (PassesGood hcc P v i) edges passed in
    gathered_by x v joined.edge i j (All-contains (HasGoodEntries (PassesGood hcc P v i)) edges joined.edge good joined.listed) joined.joins

-- it has what the unit and the label of each neighbour have
pub gathered_keeps : (P : ℕ → Type 0) (edges : List Edge) (v : Vector ℕ) (i : ℕ) → P (2 ^ 64 - 1) → ((j : ℕ) → AreJoined edges i j → P (v j)) → P (gathered edges v i)
gathered_keeps P edges v i unit near =
    fold_min_keeps P (2 ^ 64 - 1) (messages_to hcc (hcc_entries edges) v i) unit
    (All-messages_to hcc P v i (hcc_entries edges)
    (All-both_ways (PassesGood hcc P v i) edges
    (All-weaker (Contains edges) (HasGoodEntries (PassesGood hcc P v i))
    (λ e listed.
    let joined = AreJoined-from_edge edges e listed in
    (λ here. near e.target (subst (λ k. AreJoined edges k e.target) here joined), λ here. near e.source (subst (λ k. AreJoined edges k e.source) here (AreJoined-sym joined))))
    edges (All-contains_itself edges))))

-- a step never raises a label, and leaves none above a neighbour's
pub step-le : (edges : List Edge) (v : Vector ℕ) (i : ℕ) → step hcc (hcc_entries edges) v i ≤ v i
step-le edges v i = min-le_left (v i) (gathered edges v i)

pub step-le_joined : (edges : List Edge) (v : Vector ℕ) (i j : ℕ) → AreJoined edges i j → step hcc (hcc_entries edges) v i ≤ v j
step-le_joined edges v i j joined = omega (arith, min-le_right (v i) (gathered edges v i), gathered-le_joined edges v i j joined)

pub step_reached : (n : ℕ) (edges : List Edge) (v : Vector ℕ) → n ≤ 2 ^ 64 → AreBelow n edges → AreReached n edges v → AreReached n edges (step hcc (hcc_entries edges) v)
step_reached n edges v small below had = record {
  reached = λ i lt.
      let P : ℕ → Type 0 = λ m. Reaches edges i (min (v i) m) in
      let low : v i ≤ i = had.low i lt in
      let unit : P (2 ^ 64 - 1) = let is : min (v i) (2 ^ 64 - 1) ≡ v i = omega arith in rw is (had.reached i lt) in
      gathered_keeps P edges v i unit
      (λ j joined.
      min_keeps (Reaches edges i) (v i) (v j) (had.reached i lt) (reaches_over joined (had.reached j (joined-lt n edges i j below joined))));
  low = λ i lt. omega (arith, had.low i lt, step-le edges v i);
}

pub iterate_reached : (n : ℕ) (edges : List Edge) (k : ℕ) → n ≤ 2 ^ 64 → AreBelow n edges → AreReached n edges (labels_after edges k)
iterate_reached n edges zero small below = record { reached = λ i lt. reaches_itself edges i; low = λ i lt. omega arith }
iterate_reached n edges (suc k) small below = step_reached n edges (labels_after edges k) small below (iterate_reached n edges k small below)

-- along a walk over labels that a step leaves as they are, none is greater than the next
fixed_along : (n : ℕ) (edges : List Edge) (v : Vector ℕ) → AreBelow n edges → AreReached n edges v → AreFixed n edges v
    → (i : ℕ) (ks : List ℕ) (j : ℕ) → i < n → IsWalk edges i ks j → v i ≤ j
fixed_along n edges v below had fixed i [] j lt walk = omega (arith, had.low i lt)
fixed_along n edges v below had fixed i (k ∷ ks) j lt walk =
    omega
    (arith, fixed i lt, step-le_joined edges v i k walk.0, fixed_along n edges v below had fixed k ks j (joined-lt n edges i k below walk.0) walk.1)

pub fixed_least : (n : ℕ) (edges : List Edge) (v : Vector ℕ) → AreBelow n edges → AreReached n edges v → AreFixed n edges v → AreLeastLabels n edges v
fixed_least n edges v below had fixed i lt = record {
  reached = had.reached i lt;
  least = λ j to. fixed_along n edges v below had fixed i to.over j lt to.walk;
}

-- labels fall from one iteration to a later one
falls_by : (edges : List Edge) (k d i : ℕ) → labels_after edges (k + d) i ≤ labels_after edges k i
falls_by edges k zero i = let is : k + 0 ≡ k = omega arith in rw is (omega arith)
falls_by edges k (suc d) i =
    let is : k + suc d ≡ suc (k + d) = omega arith in
    rw is (omega (arith, step-le edges (labels_after edges (k + d)) i, falls_by edges k d i))

pub labels_after-le : (edges : List Edge) (j k i : ℕ) → j ≤ k → labels_after edges k i ≤ labels_after edges j i
labels_after-le edges j k i le =
    let is : k ≡ j + (k - j) = omega arith in subst (λ x. labels_after edges x i ≤ labels_after edges j i) (sym is) (falls_by edges j (k - j) i)
