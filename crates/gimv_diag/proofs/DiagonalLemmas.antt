-- Closed labels and their steps lie between the least labels and those of plain steps.
use Rattle.std.proofs.Common.{◌≡◌, ◌≢◌, ℕ, zero, suc, ◌+◌, ◌-◌, ◌<◌, ◌≤◌, ◌^◌, min, Bool, true, false, not, cond, eqb, List, [], ◌∷◌, fold, count_by, All, Contains, refl, sym, ap, subst, ◌∙◌, inl, inr, arith, eqb-true, eq-eqb}
use Rattle.std.specs.List.{range_with_len}
use Rattle.std.proofs.Math.Nat.{min-le_left, min-le_right}
use Rattle.std.proofs.lemmas.Bool.{cases_lt, cases_eq, cases_Bool, not-false}
use Rattle.std.proofs.lemmas.List.Sums.{sum_by-cons}
use Rattle.std.proofs.lemmas.List.Elements.{All-nil, All-cons, All-head, All-tail, All-filter, All-contains, All-contains_itself, All-weaker}
use Rattle.graph.specs.declared.edges.Edge.{Edge}
use Rattle.graph.specs.declared.edges.One.{One}
use Rattle.graph.specs.Edges.{AreBelow}
use Rattle.graph.specs.Entries.{Entry, hcc_entries}
use Rattle.graph.specs.Steps.{Vector, messages_to, all_of, step, changed, count_changed}
use Rattle.graph.specs.Walks.{AreJoined, Reaches, IsLeast}
use Rattle.graph.specs.Algorithms.{hcc}
use Rattle.graph.specs.Laws.{AreReached, AreFixed, AreLeastLabels, labels_after}
use Rattle.graph.proofs.Messages.{PassesGood, All-messages_to}
use Rattle.graph.proofs.WalkLemmas.{joined-lt, reaches_itself, reaches_over, IsLeast-unique}
use Rattle.graph.proofs.StepLemmas.{min_keeps, gathered, gathered_keeps, step-le, step_reached, iterate_reached, fixed_least}
use Rattle.graph.proofs.ChangeLemmas.{unchanged_from}
use Rattle.gimv_core.specs.Consequences.{rounds}
use Rattle.gimv_block.specs.Blocks.{block_of}
use Rattle.gimv_diag.specs.Diagonal.{inner_edges, close, diagonal_step, diagonal_after, diagonal_changed, DiagonalEnds}

min_mono : (a b c d : ℕ) → a ≤ c → b ≤ d → min a b ≤ min c d
min_mono a b c d ac bd = min_keeps (λ m. min a b ≤ m) c d (omega (arith, min-le_left a b)) (omega (arith, min-le_right a b))

module _ (u w : Vector ℕ) (below : (j : ℕ) → u j ≤ w j) where
  gathered_mono : (es : List (Entry One)) (i x y : ℕ) → x ≤ y → fold min x (messages_to hcc es u i) ≤ fold min y (messages_to hcc es w i)
  gathered_mono [] i x y le = le
  gathered_mono (e ∷ es) i x y le =
      elim (cases_Bool (eqb e.row i)) [
        | inl is ↦ rw is (gathered_mono es i (min x (u e.column)) (min y (w e.column)) (min_mono x (u e.column) y (w e.column) le (below e.column)))
        | inr isnt ↦ rw isnt (gathered_mono es i x y le)
      ]

  step_mono : (es : List (Entry One)) (i : ℕ) → step hcc es u i ≤ step hcc es w i
  step_mono es i = min_mono (u i) (all_of hcc (messages_to hcc es u i)) (w i) (all_of hcc (messages_to hcc es w i)) (below i) (gathered_mono es i (2 ^ 64 - 1) (2 ^ 64 - 1) (omega arith))

-- closing never raises a label
rounds-le : (edges : List Edge) (k : ℕ) (v : Vector ℕ) (i : ℕ) → rounds hcc (hcc_entries edges) k v i ≤ v i
rounds-le edges zero v i = omega arith
rounds-le edges (suc k) v i = omega (arith, step-le edges (rounds hcc (hcc_entries edges) k v) i, rounds-le edges k v i)

pub diagonal-le : (len : ℕ) (edges : List Edge) (k i : ℕ) → diagonal_after len edges k i ≤ labels_after edges k i
diagonal-le len edges zero i = omega arith
diagonal-le len edges (suc k) i =
    let f = diagonal_after len edges k in
    step_mono (close len edges f) (labels_after edges k)
    (λ j. omega (arith, rounds-le (inner_edges len edges) len f j, diagonal-le len edges k j)) (hcc_entries edges) i

diagonal_falls : (len : ℕ) (edges : List Edge) (k i : ℕ) → (diagonal_after len edges (suc k) i ≤ close len edges (diagonal_after len edges k) i) × (close len edges (diagonal_after len edges k) i ≤ diagonal_after len edges k i)
diagonal_falls len edges k i =
    let f = diagonal_after len edges k in
    (step-le edges (close len edges f) i, rounds-le (inner_edges len edges) len f i)

-- what an inner edge joins an edge joins
inner_joined : (len : ℕ) (edges : List Edge) (i j : ℕ) → AreJoined (inner_edges len edges) i j → AreJoined edges i j
inner_joined len edges i j joined = record {
  edge = joined.edge;
  listed = All-contains (Contains edges) (inner_edges len edges) joined.edge
      (All-filter (λ (e : Edge). eqb (block_of len e.source) (block_of len e.target)) (Contains edges) edges (All-contains_itself edges)) joined.listed;
  joins = joined.joins;
}

module _ (n len : ℕ) (edges : List Edge) (small : n ≤ 2 ^ 64) (below : AreBelow n edges) where
  inner_reached : (v : Vector ℕ) → AreReached n edges v → AreReached n edges (step hcc (hcc_entries (inner_edges len edges)) v)
  inner_reached v had = record {
    reached = λ i lt.
        let P : ℕ → Type 0 = λ m. Reaches edges i (min (v i) m) in
        let low : v i ≤ i = had.low i lt in
        let unit : P (2 ^ 64 - 1) = let is : min (v i) (2 ^ 64 - 1) ≡ v i = omega arith in rw is (had.reached i lt) in
        gathered_keeps P (inner_edges len edges) v i unit
        (λ j inner.
        let joined = inner_joined len edges i j inner in
        min_keeps (Reaches edges i) (v i) (v j) (had.reached i lt) (reaches_over joined (had.reached j (joined-lt n edges i j below joined))));
    low = λ i lt. omega (arith, had.low i lt, step-le (inner_edges len edges) v i);
  }

  rounds_reached : (k : ℕ) (v : Vector ℕ) → AreReached n edges v → AreReached n edges (rounds hcc (hcc_entries (inner_edges len edges)) k v)
  rounds_reached zero v had = had
  rounds_reached (suc k) v had = inner_reached (rounds hcc (hcc_entries (inner_edges len edges)) k v) (rounds_reached k v had)

  pub diagonal_reached : (k : ℕ) → AreReached n edges (diagonal_after len edges k)
  diagonal_reached zero = record { reached = λ i lt. reaches_itself edges i; low = λ i lt. omega arith }
  diagonal_reached (suc k) =
      let f = diagonal_after len edges k in
      step_reached n edges (close len edges f) small below (rounds_reached len f (diagonal_reached k))

  pub diagonal_between : (k i m : ℕ) → i < n → IsLeast edges i m → (m ≤ diagonal_after len edges k i) × (diagonal_after len edges k i ≤ labels_after edges k i)
  diagonal_between k i m lt least = (least.least (diagonal_after len edges k i) ((diagonal_reached k).reached i lt), diagonal-le len edges k i)

-- copies of lemmas that are private in `graph`
count_none : (p : ℕ → Bool) (a n : ℕ) → ((i : ℕ) → a ≤ i → i < a + n → p i ≡ false) → count_by p (range_with_len a n) ≡ 0
count_none p a zero each = refl
count_none p a (suc n) each =
    let here : p a ≡ false = each a (omega arith) (omega arith) in
    let rest : count_by p (range_with_len (a + 1) n) ≡ 0 = count_none p (a + 1) n (λ i low high. each i (omega arith) (omega arith)) in
    sum_by-cons (λ x. cond (p x) 1 0) a (range_with_len (a + 1) n) ∙ rw (here, rest) refl

none_counted : (p : ℕ → Bool) (a n : ℕ) → count_by p (range_with_len a n) ≡ 0 → (i : ℕ) → a ≤ i → i < a + n → p i ≡ false
none_counted p a zero none i low high = absurd (omega arith)
none_counted p a (suc n) none i low high =
    let parts : cond (p a) 1 0 + count_by p (range_with_len (a + 1) n) ≡ 0 = sym (sum_by-cons (λ x. cond (p x) 1 0) a (range_with_len (a + 1) n)) ∙ none in
    elim (cases_eq a i) [
      | inl same ↦ elim (cases_Bool (p a)) [
        | inl is ↦ absurd (let parts' = rw is at parts in omega arith)
        | inr isnt ↦ subst (λ x. p x ≡ false) same isnt
      ]
      | inr other ↦ none_counted p (a + 1) n (omega arith) i (omega arith) (omega arith)
    ]

-- the first number, from one on, at which a count is 0
record IsFirstZero (count : ℕ → ℕ) (low high k : ℕ) : Type 0 where
  from : low ≤ k
  soon : k ≤ high
  zero_there : count k ≡ 0
  earlier : (j : ℕ) → low ≤ j → j < k → count j ≢ 0

first_zero : (count : ℕ → ℕ) (low more : ℕ) → count (low + more) ≡ 0 → (k : ℕ) × IsFirstZero count low (low + more) k
first_zero count low zero is =
    (low, record { from = omega arith; soon = omega arith; zero_there = let e : low + 0 ≡ low = omega arith in subst (λ x. count x ≡ 0) e is; earlier = λ j le lt. absurd (omega arith) })
first_zero count low (suc more) is =
    elim (cases_eq (count low) 0) [
      | inl here ↦ (low, record { from = omega arith; soon = omega arith; zero_there = here; earlier = λ j le lt. absurd (omega arith) })
      | inr isnt ↦
          let e : low + suc more ≡ (low + 1) + more = omega arith in
          let later = first_zero count (low + 1) more (subst (λ x. count x ≡ 0) e is) in (
            later.0,
            record {
              from = omega (arith, later.1.from);
              soon = omega (arith, later.1.soon);
              zero_there = later.1.zero_there;
              earlier = λ j le lt. elim (cases_eq j low) [
                | inl same ↦ subst (λ x. count x ≢ 0) (sym same) isnt
                | inr other ↦ later.1.earlier j (omega arith) lt
              ];
            },
          )
    ]

module _ (p len : ℕ) (edges : List Edge) (small : suc p ≤ 2 ^ 64) (below : AreBelow (suc p) edges) where
  abbrev n : ℕ
  n = suc p

  abbrev f : ℕ → Vector ℕ
  f = diagonal_after len edges

  abbrev has_changed : ℕ → ℕ → Bool
  has_changed k i = not (eqb (f (suc k) i) (f k i))

  -- from step n - 1 on the labels are the least ones
  late_least : (k i : ℕ) → i < n → (f (suc p) i ≡ labels_after edges p i) × (f p i ≡ labels_after edges p i)
  late_least k i lt =
      let fixed = unchanged_from n edges small below p (omega arith) in
      let least = fixed_least n edges (labels_after edges p) below (iterate_reached n edges p small below) fixed i lt in
      let here = diagonal_between n len edges small below p i (labels_after edges p i) lt least in
      let next = diagonal_between n len edges small below (suc p) i (labels_after edges p i) lt least in
      let falls = diagonal_falls len edges p i in
      (omega (arith, here.0, here.1, next.0, falls.0, falls.1), omega (arith, here.0, here.1))

  none_changed_late : diagonal_changed len edges n (suc p) ≡ 0
  none_changed_late =
      count_none (has_changed p) 0 n (λ i low high. let late = late_least p i (omega arith) in ap not (eq-eqb (f (suc p) i) (f p i) (late.0 ∙ sym late.1)))

  -- where an iteration changed nothing, its labels are the least ones
  unchanged_least : (q : ℕ) → diagonal_changed len edges n (suc q) ≡ 0 → AreLeastLabels n edges (f (suc q))
  unchanged_least q none i lt =
      let c = close len edges (f q) in
      let same_at : (j : ℕ) → j < n → f (suc q) j ≡ c j = λ j low.
      let is = eqb-true (f (suc q) j) (f q j) (not-false (eqb (f (suc q) j) (f q j)) (none_counted (has_changed q) 0 n none j (omega arith) (omega arith))) in
      let falls = diagonal_falls len edges q j in
      omega (arith, is, falls.0, falls.1) in
      let reached = rounds_reached n len edges small below len (f q) (diagonal_reached n len edges small below q) in
      subst (IsLeast edges i) (sym (same_at i lt)) (fixed_least n edges c below reached same_at i lt)

  least_at : (last : ℕ) → 1 ≤ last → diagonal_changed len edges n last ≡ 0 → AreLeastLabels n edges (f last)
  least_at zero made none = absurd (omega arith)
  least_at (suc q) made none = unchanged_least q none

  pub ends : DiagonalEnds (suc p) len edges
  ends =
      let count : ℕ → ℕ = diagonal_changed len edges n in
      let e : suc p ≡ 1 + p = omega arith in
      let found = first_zero count 1 p (subst (λ x. count x ≡ 0) e none_changed_late) in
      record {
        last = found.0;
        made = found.1.from;
        unchanged = found.1.zero_there;
        earlier = found.1.earlier;
        soon = omega (arith, found.1.soon);
        least = least_at found.0 found.1.from found.1.zero_there;
      }

pub diagonal_ends : (n len : ℕ) (edges : List Edge) → 1 ≤ n → n ≤ 2 ^ 64 → AreBelow n edges → DiagonalEnds n len edges
diagonal_ends zero len edges some small below = absurd (omega arith)
diagonal_ends (suc p) len edges some small below = ends p len edges small below
