-- How many steps change a label, and how many nodes a step changes.
use Rattle.std.proofs.Common.{◌≡◌, ◌≢◌, ℕ, zero, suc, ◌+◌, ◌<◌, ◌≤◌, ◌^◌, Bool, true, false, not, cond, eqb, List, [], ◌∷◌, length, count_by, refl, sym, ap, subst, ◌∙◌, inl, inr, arith, eqb-true, eq-eqb}
use Rattle.std.specs.List.{range_with_len, list_any, IsDistinct, AllByRecursion}
use Rattle.std.proofs.lemmas.Bool.{cases_lt, cases_eq, cases_Bool, or_cases, ne_eqb, not-false}
use Rattle.std.proofs.lemmas.List.Sums.{sum_by-cons}
use Rattle.std.proofs.lemmas.Map.Keys.{IsDistinct-cons}
use Rattle.std.proofs.lemmas.Map.Steps.{length-le_from_distinct_below}
use Rattle.graph.specs.declared.edges.Edge.{Edge}
use Rattle.graph.specs.Edges.{AreBelow}
use Rattle.graph.specs.Entries.{hcc_entries}
use Rattle.graph.specs.Steps.{Vector, step, changed}
use Rattle.graph.specs.Walks.{AreJoined, IsLeast}
use Rattle.graph.specs.Algorithms.{hcc}
use Rattle.graph.specs.Laws.{AreFixed, AreLeastLabels, labels_after, EndsAtLeast}
use Rattle.graph.proofs.WalkLemmas.{joined-lt}
use Rattle.graph.proofs.StepLemmas.{min_is, gathered, gathered_keeps, step-le, step-le_joined, iterate_reached, fixed_least, labels_after-le}

-- a neighbour whose label is at most m
record Near (edges : List Edge) (v : Vector ℕ) (i m : ℕ) : Type 0 where
  node : ℕ
  joined : AreJoined edges i node
  low : v node ≤ m

-- what lowered a label came from a neighbour
near_from_step : (n : ℕ) (edges : List Edge) (v : Vector ℕ) (i m : ℕ) → n ≤ 2 ^ 64 → i < n → v i ≤ i → m < v i → step hcc (hcc_entries edges) v i ≤ m → Near edges v i m
near_from_step n edges v i m small lt low above at =
    let P : ℕ → Type 0 = λ q. q ≤ m → Near edges v i m in
    let near = gathered_keeps P edges v i (λ le. absurd (omega arith)) (λ j joined le. record { node = j; joined = joined; low = le }) in
    near (elim (min_is (v i) (gathered edges v i)) [ inl is ↦ absurd (omega arith) | inr is ↦ omega arith ])

-- the label got down to m in this iteration
abbrev IsNew : List Edge → ℕ → ℕ → ℕ → Type 0
IsNew edges zero m i = Unit {0}
IsNew edges (suc k) m i = m < labels_after edges k i

-- more than k nodes whose labels are at most m after k steps
record HasLow (n : ℕ) (edges : List Edge) (k m : ℕ) : Type 0 where
  nodes : List ℕ
  long : length nodes ≡ suc k
  apart : IsDistinct eqb nodes
  below : AllByRecursion (λ x. x < n) nodes
  low : AllByRecursion (λ x. labels_after edges k x ≤ m) nodes

one_distinct : (i : ℕ) → IsDistinct eqb (i ∷ [])
unfolding IsDistinct
one_distinct i = (tt, tt)

lows_after : (edges : List Edge) (k m : ℕ) (xs : List ℕ) → AllByRecursion (λ x. labels_after edges k x ≤ m) xs → AllByRecursion (λ x. labels_after edges (suc k) x ≤ m) xs
lows_after edges k m [] all = tt
lows_after edges k m (x ∷ xs) all = (omega (arith, all.0, step-le edges (labels_after edges k) x), lows_after edges k m xs all.1)

apart_from_lows : (edges : List Edge) (k m i : ℕ) (xs : List ℕ) → m < labels_after edges k i → AllByRecursion (λ x. labels_after edges k x ≤ m) xs → AllByRecursion (λ x. eqb i x ≡ false) xs
apart_from_lows edges k m i [] above all = tt
apart_from_lows edges k m i (x ∷ xs) above all =
    (ne_eqb i x (λ same. let le : labels_after edges k i ≤ m = subst (λ y. labels_after edges k y ≤ m) (sym same) all.0 in absurd (omega arith)), apart_from_lows edges k m i xs above all.1)

new_at_neighbour : (edges : List Edge) (k m i j : ℕ) → AreJoined edges i j → m < labels_after edges k i → IsNew edges k m j
new_at_neighbour edges zero m i j joined above = tt
new_at_neighbour edges (suc k) m i j joined above = omega (arith, step-le_joined edges (labels_after edges k) i j joined)

has_low : (n : ℕ) (edges : List Edge) → n ≤ 2 ^ 64 → AreBelow n edges → (k m i : ℕ) → i < n → labels_after edges k i ≤ m → IsNew edges k m i → HasLow n edges k m
has_low n edges small below zero m i lt le new = record { nodes = i ∷ []; long = refl; apart = one_distinct i; below = (lt, tt); low = (le, tt) }
has_low n edges small below (suc k) m i lt le new =
    let v = labels_after edges k in
    let near = near_from_step n edges v i m small lt ((iterate_reached n edges k small below).low i lt) new le in
    let had = has_low n edges small below k m near.node (joined-lt n edges i near.node below near.joined) near.low (new_at_neighbour edges k m i near.node near.joined new) in
    record {
      nodes = i ∷ had.nodes;
      long = ap suc had.long;
      apart = IsDistinct-cons eqb i had.nodes (apart_from_lows edges k m i had.nodes new had.low) had.apart;
      below = (lt, had.below);
      low = (le, lows_after edges k m had.nodes had.low);
    }

listed_below : (n : ℕ) (xs : List ℕ) → AllByRecursion (λ x. x < n) xs → (q : ℕ) → list_any (eqb q) xs ≡ true → q < n
listed_below n [] all q is = cc
listed_below n (x ∷ xs) all q is =
    elim (or_cases (eqb q x) (list_any (eqb q) xs) is) [
      | inl here ↦ subst (λ y. y < n) (sym (eqb-true q x here)) all.0
      | inr later ↦ listed_below n xs all.1 q later
    ]

-- from step n on no label changes
pub unchanged_from : (n : ℕ) (edges : List Edge) → n ≤ 2 ^ 64 → AreBelow n edges → (k : ℕ) → n ≤ suc k → AreFixed n edges (labels_after edges k)
unchanged_from n edges small below k late i lt =
    elim (cases_lt (labels_after edges (suc k) i) (labels_after edges k i)) [
      | inl falls ↦
          let had = has_low n edges small below (suc k) (labels_after edges (suc k) i) i lt (omega arith) falls in
          absurd (omega (arith, had.long, length-le_from_distinct_below had.nodes n had.apart (listed_below n had.nodes had.below)))
      | inr stays ↦ omega (arith, step-le edges (labels_after edges k) i)
    ]

-- a count of none

count_none : (p : ℕ → Bool) (a n : ℕ) → ((i : ℕ) → a ≤ i → i < a + n → p i ≡ false) → count_by p (range_with_len a n) ≡ 0
count_none p a zero each = refl
count_none p a (suc n) each =
    let here : p a ≡ false = each a (omega arith) (omega arith) in
    let rest : count_by p (range_with_len (a + 1) n) ≡ 0 = count_none p (a + 1) n (λ i low high. each i (omega arith) (omega arith)) in
    sum_by-cons (λ x. cond (p x) 1 0) a (range_with_len (a + 1) n) ∙ rw (here, rest) refl

none_counted : (p : ℕ → Bool) (a n : ℕ) → count_by p (range_with_len a n) ≡ 0 → (i : ℕ) → a ≤ i → i < a + n → p i ≡ false
none_counted p a zero none i low high = absurd (omega arith)
none_counted p a (suc n) none i low high =
    let parts : cond (p a) 1 0 + count_by p (range_with_len (a + 1) n) ≡ 0 = sym (sum_by-cons (λ x. cond (p x) 1 0) a (range_with_len (a + 1) n)) ∙ none in
    elim (cases_eq a i) [
      | inl same ↦ elim (cases_Bool (p a)) [
        | inl is ↦ absurd (let parts' = rw is at parts in omega arith)
        | inr isnt ↦ subst (λ x. p x ≡ false) same isnt
      ]
      | inr other ↦ none_counted p (a + 1) n (omega arith) i (omega arith) (omega arith)
    ]

pub changed_none : (n : ℕ) (edges : List Edge) (k : ℕ) → AreFixed n edges (labels_after edges k) → changed hcc (hcc_entries edges) n (suc k) ≡ 0
changed_none n edges k fixed =
    count_none (λ i. not (eqb (labels_after edges (suc k) i) (labels_after edges k i))) 0 n (λ i low high. ap not (eq-eqb (labels_after edges (suc k) i) (labels_after edges k i) (fixed i (omega arith))))

pub fixed_from_none : (n : ℕ) (edges : List Edge) (k : ℕ) → changed hcc (hcc_entries edges) n (suc k) ≡ 0 → AreFixed n edges (labels_after edges k)
fixed_from_none n edges k none i lt =
    let is = none_counted (λ i. not (eqb (labels_after edges (suc k) i) (labels_after edges k i))) 0 n none i (omega arith) (omega arith) in
    eqb-true (labels_after edges (suc k) i) (labels_after edges k i) (not-false (eqb (labels_after edges (suc k) i) (labels_after edges k i)) is)

-- the first number, from one on, at which a count is 0
record IsFirstZero (count : ℕ → ℕ) (low high k : ℕ) : Type 0 where
  from : low ≤ k
  soon : k ≤ high
  zero_there : count k ≡ 0
  earlier : (j : ℕ) → low ≤ j → j < k → count j ≢ 0

first_zero : (count : ℕ → ℕ) (low more : ℕ) → count (low + more) ≡ 0 → (k : ℕ) × IsFirstZero count low (low + more) k
first_zero count low zero is =
    (low, record { from = omega arith; soon = omega arith; zero_there = let e : low + 0 ≡ low = omega arith in subst (λ x. count x ≡ 0) e is; earlier = λ j le lt. absurd (omega arith) })
first_zero count low (suc more) is =
    elim (cases_eq (count low) 0) [
      | inl here ↦ (low, record { from = omega arith; soon = omega arith; zero_there = here; earlier = λ j le lt. absurd (omega arith) })
      | inr isnt ↦
          let e : low + suc more ≡ (low + 1) + more = omega arith in
          let later = first_zero count (low + 1) more (subst (λ x. count x ≡ 0) e is) in (
            later.0,
            record {
              from = omega (arith, later.1.from);
              soon = omega (arith, later.1.soon);
              zero_there = later.1.zero_there;
              earlier = λ j le lt. elim (cases_eq j low) [
                | inl same ↦ subst (λ x. count x ≢ 0) (sym same) isnt
                | inr other ↦ later.1.earlier j (omega arith) lt
              ];
            },
          )
    ]

least_after : (n : ℕ) (edges : List Edge) → n ≤ 2 ^ 64 → AreBelow n edges → (last : ℕ) → 1 ≤ last → changed hcc (hcc_entries edges) n last ≡ 0 → (k : ℕ) → last ≤ k → AreLeastLabels n edges (labels_after edges k)
least_after n edges small below zero made none k late i lt = absurd (omega arith)
least_after n edges small below (suc p) made none k late i lt =
    let u = labels_after edges p in
    let least = fixed_least n edges u below (iterate_reached n edges p small below) (fixed_from_none n edges p none) i lt in
    let to = (iterate_reached n edges k small below).reached i lt in
    let le : u i ≤ labels_after edges k i = least.least (labels_after edges k i) to in
    let ge : labels_after edges k i ≤ u i = labels_after-le edges p k i (omega arith) in
    let same : u i ≡ labels_after edges k i = omega arith in
    subst (IsLeast edges i) same least

pub ends_at_least : (n : ℕ) (edges : List Edge) → 1 ≤ n → n ≤ 2 ^ 64 → AreBelow n edges → EndsAtLeast n edges
ends_at_least zero edges some small below = absurd (omega arith)
ends_at_least (suc p) edges some small below =
    let n = suc p in
    let count : ℕ → ℕ = changed hcc (hcc_entries edges) n in
    let settled = changed_none n edges p (unchanged_from n edges small below p (omega arith)) in
    let e : suc p ≡ 1 + p = omega arith in
    let found = first_zero count 1 p (subst (λ x. count x ≡ 0) e settled) in
    record {
      last = found.0;
      first = record { made = found.1.from; unchanged = found.1.zero_there; earlier = found.1.earlier };
      soon = omega (arith, found.1.soon);
      least = least_after n edges small below found.0 found.1.from found.1.zero_there;
    }
