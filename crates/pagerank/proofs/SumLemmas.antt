-- What a step passes on, counted by its senders: no more than 17 twentieths of all ranks.
use Rattle.std.proofs.Common.{◌≡◌, ℕ, zero, suc, ◌+◌, ◌*◌, ◌/◌, ◌<◌, ◌≤◌, ◌^◌, cond, eqb, Bool, true, false, List, [], ◌∷◌, map, fold, sum, refl, ap, subst, ◌∙◌, inl, inr, arith, mul_assoc, eq-eqb}
use Rattle.std.proofs.Math.Nat.{mul-div-le, suc-mul, add-mul}
use Rattle.std.specs.List.{range_with_len, sum_by}
use Rattle.std.proofs.lemmas.Bool.{cases_Bool, cases_eq, ne_eqb}
use Rattle.std.proofs.lemmas.List.Sums.{sum_by-cons}
use Rattle.std.proofs.lemmas.List.Elements.{All-head, All-tail}
use Rattle.graph.specs.declared.edges.Edge.{Edge}
use Rattle.graph.specs.Edges.{AreBelow}
use Rattle.graph.specs.Entries.{Entry, out_degree, page_rank_entries}
use Rattle.graph.specs.Steps.{Vector, messages_to, step}
use Rattle.graph.specs.Algorithms.{capped_sum, page_rank}
use Rattle.pagerank.specs.Sums.{ranks_after, RanksSumToAWhole, NoSumIsCapped}

-- sums over the nodes from one on

total : (ℕ → ℕ) → ℕ → ℕ → ℕ
total f a zero = 0
total f a (suc n) = f a + total f (a + 1) n

total_is : (f : ℕ → ℕ) (a n : ℕ) → sum_by f (range_with_len a n) ≡ total f a n
unfolding total
total_is f a zero = refl
total_is f a (suc n) = sum_by-cons f a (range_with_len (a + 1) n) ∙ ap (λ x. f a + x) (total_is f (a + 1) n)

total-le : (f g : ℕ → ℕ) (a n : ℕ) → ((i : ℕ) → a ≤ i → i < a + n → f i ≤ g i) → total f a n ≤ total g a n
unfolding total
total-le f g a zero each = omega arith
total-le f g a (suc n) each =
    omega (arith, each a (omega arith) (omega arith), total-le f g (a + 1) n (λ i low high. each i (omega arith) (omega arith)))

total-const : (c a n : ℕ) → total (λ i. c) a n ≡ n * c
unfolding total
total-const c a zero = omega arith
total-const c a (suc n) = omega (arith, total-const c (a + 1) n, suc-mul n c)

total-plus : (f g : ℕ → ℕ) (a n : ℕ) → total (λ i. f i + g i) a n ≡ total f a n + total g a n
unfolding total
total-plus f g a zero = refl
total-plus f g a (suc n) = omega (arith, total-plus f g (a + 1) n)

-- one node's part
total_none : (x j a n : ℕ) → j < a → total (λ i. cond (eqb j i) x 0) a n ≡ 0
unfolding total
total_none x j a zero before = refl
total_none x j a (suc n) before =
    let isnt = ne_eqb j a (λ same. omega arith) in rw isnt (omega (arith, total_none x j (a + 1) n (omega arith)))

total_single-le : (x j a n : ℕ) → total (λ i. cond (eqb j i) x 0) a n ≤ x
unfolding total
total_single-le x j a zero = omega arith
total_single-le x j a (suc n) =
    elim (cases_eq j a) [
      | inl same ↦
          let is = eq-eqb j a same in
          let rest = total_none x j (a + 1) n (omega arith) in rw (is, rest) (omega arith)
      | inr other ↦ let isnt = ne_eqb j a other in rw isnt (omega (arith, total_single-le x j (a + 1) n))
    ]

total_at : (h : ℕ → ℕ) (j a n : ℕ) → a ≤ j → j < a + n → h j ≤ total (λ i. cond (eqb j i) (h i) 0) a n
unfolding total
total_at h j a zero low high = absurd (omega arith)
total_at h j a (suc n) low high =
    elim (cases_eq j a) [
      | inl same ↦ let is = eq-eqb j a same in rw is (let at : h j ≡ h a = ap h same in omega arith)
      | inr other ↦ let isnt = ne_eqb j a other in rw isnt (omega (arith, total_at h j (a + 1) n (omega arith) (omega arith)))
    ]

node-le-total : (f : ℕ → ℕ) (j a n : ℕ) → a ≤ j → j < a + n → f j ≤ total f a n
unfolding total
node-le-total f j a zero low high = absurd (omega arith)
node-le-total f j a (suc n) low high =
    elim (cases_eq j a) [
      | inl same ↦ let at : f j ≡ f a = ap f same in omega arith
      | inr other ↦ omega (arith, node-le-total f j (a + 1) n (omega arith) (omega arith))
    ]

-- one more that may be counted
counted : (is : Bool) (d g c : ℕ) → c ≡ cond is 1 0 + d → c * g ≡ cond is g 0 + d * g
counted true d g c more = rw more (omega (arith, add-mul 1 d g))
counted false d g c more = let same : c ≡ d = omega arith in rw same (omega arith)

-- capped sums

fold-le : (x : ℕ) (ms : List ℕ) → fold capped_sum x ms ≤ x + sum ms
fold-le x [] = omega arith
fold-le x (m ∷ ms) = omega (arith, fold-le (capped_sum x m) ms, sum_by-cons (λ y. y) m ms)

fold_is : (x : ℕ) (ms : List ℕ) → x + sum ms < 2 ^ 64 → fold capped_sum x ms ≡ x + sum ms
fold_is x [] small = omega arith
fold_is x (m ∷ ms) small =
    let parts = sum_by-cons (λ y. y) m ms in
    let here : capped_sum x m ≡ x + m = omega arith in
    rw here (omega (arith, fold_is (x + m) ms (omega arith), parts))

module _ (n : ℕ) (edges : List Edge) (v : Vector ℕ) where
  -- what an edge from a node passes on
  share : ℕ → ℕ
  share s = 17 * v s / (20 * out_degree edges s)

  entry_of : Edge → Entry ℕ
  entry_of e = record { row = e.target; column = e.source; weight = out_degree edges e.source }

  -- what some of the edges pass on to a node
  arrives : List Edge → ℕ → ℕ
  arrives es i = sum (messages_to (page_rank n) (map entry_of es) v i)

  arrives_more : (e : Edge) (es : List Edge) (i : ℕ) → arrives (e ∷ es) i ≡ cond (eqb e.target i) (share e.source) 0 + arrives es i
  unfolding share entry_of arrives
  arrives_more e es i =
      elim (cases_Bool (eqb e.target i)) [
        | inl is ↦ rw is (sum_by-cons (λ y. y) (17 * v e.source / (20 * out_degree edges e.source)) (messages_to (page_rank n) (map entry_of es) v i))
        | inr isnt ↦ rw isnt (omega arith)
      ]

  -- all that some of the edges pass on
  passed : List Edge → ℕ
  passed [] = 0
  passed (e ∷ es) = share e.source + passed es

  arrives_none : (i : ℕ) → arrives [] i ≤ 0
  unfolding arrives
  arrives_none i = omega arith

  arrives-le : (es : List Edge) → total (arrives es) 0 n ≤ passed es
  unfolding passed
  arrives-le [] = omega (arith, total-le (arrives []) (λ i. 0) 0 n (λ i low high. arrives_none i), total-const 0 0 n)
  arrives-le (e ∷ es) =
      let one = λ (i : ℕ). cond (eqb e.target i) (share e.source) 0 in
      omega
      (arith, total-le (arrives (e ∷ es)) (λ i. one i + arrives es i) 0 n (λ i low high. omega (arith, arrives_more e es i)), total-plus one (arrives es) 0 n, total_single-le (share e.source) e.target 0 n, arrives-le es)

  -- what the nodes pass on along some of the edges
  given : List Edge → ℕ → ℕ
  given es s = out_degree es s * share s

  given_more : (e : Edge) (es : List Edge) (s : ℕ) → given (e ∷ es) s ≡ cond (eqb e.source s) (share s) 0 + given es s
  unfolding given
  given_more e es s =
      counted (eqb e.source s) (out_degree es s) (share s) (out_degree (e ∷ es) s) (sum_by-cons (λ (d : Edge). cond (eqb d.source s) 1 0) e es)

  passed-le : (es : List Edge) → AreBelow n es → passed es ≤ total (given es) 0 n
  unfolding passed
  passed-le [] below = omega arith
  passed-le (e ∷ es) below =
      let here = All-head (λ (d : Edge). (d.source < n) × (d.target < n)) e es below in
      let one = λ (s : ℕ). cond (eqb e.source s) (share s) 0 in
      omega (
        arith,
        passed-le es (All-tail (λ (d : Edge). (d.source < n) × (d.target < n)) e es below),
        total_at share e.source 0 n (omega arith) (omega (arith, here.0)),
        total-plus one (given es) 0 n,
        total-le (λ s. one s + given es s) (given (e ∷ es)) 0 n (λ s low high. omega (arith, given_more e es s)),
      )

  given-le : (s : ℕ) → 20 * given edges s ≤ 17 * v s
  unfolding given share
  given-le s =
      let d = out_degree edges s in
      omega (arith, mul-div-le (17 * v s) (20 * d), mul_assoc 20 d (17 * v s / (20 * d)))

  total_given-le : (a m : ℕ) → 20 * total (given edges) a m ≤ 17 * total v a m
  unfolding total
  total_given-le a zero = omega arith
  total_given-le a (suc m) = omega (arith, given-le a, total_given-le (a + 1) m)

  -- what a step gives a node, if nothing were capped
  raw : ℕ → ℕ
  raw i = 3 * 2 ^ 32 / (20 * n) + arrives edges i

  raw_total : AreBelow n edges → total v 0 n ≤ 2 ^ 32 → total raw 0 n ≤ 2 ^ 32
  unfolding raw
  raw_total below whole =
      let base = 3 * 2 ^ 32 / (20 * n) in
      omega
      (arith, total-plus (λ i. base) (arrives edges) 0 n, total-const base 0 n, mul-div-le (3 * 2 ^ 32) (20 * n), mul_assoc 20 n base, arrives-le edges, passed-le edges below, total_given-le 0 n)

  messages : ℕ → List ℕ
  messages i = messages_to (page_rank n) (page_rank_entries edges) v i

  raw_is : (i : ℕ) → raw i ≡ 3 * 2 ^ 32 / (20 * n) + sum (messages i)
  unfolding raw arrives entry_of messages
  raw_is i = refl

  step-le_raw : (i : ℕ) → step (page_rank n) (page_rank_entries edges) v i ≤ raw i
  unfolding messages
  step-le_raw i = omega (arith, fold-le 0 (messages i), raw_is i)

  step_is_raw : (i : ℕ) → raw i ≤ 2 ^ 32 → step (page_rank n) (page_rank_entries edges) v i ≡ raw i
  unfolding messages
  step_is_raw i small =
      let is = raw_is i in
      let all = fold_is 0 (messages i) (omega arith) in omega arith

  step_total : AreBelow n edges → total v 0 n ≤ 2 ^ 32 → total (step (page_rank n) (page_rank_entries edges) v) 0 n ≤ 2 ^ 32
  step_total below whole =
      omega (arith, raw_total below whole, total-le (step (page_rank n) (page_rank_entries edges) v) raw 0 n (λ i low high. step-le_raw i))

ranks_total : (n : ℕ) (edges : List Edge) (k : ℕ) → AreBelow n edges → total (ranks_after n edges k) 0 n ≤ 2 ^ 32
ranks_total n edges zero below = omega (arith, total-const (2 ^ 32 / n) 0 n, mul-div-le (2 ^ 32) n)
ranks_total n edges (suc k) below = step_total n edges (ranks_after n edges k) below (ranks_total n edges k below)

pub ranks_sum : RanksSumToAWhole
ranks_sum n edges k below = omega (arith, total_is (ranks_after n edges k) 0 n, ranks_total n edges k below)

pub no_sum_capped : NoSumIsCapped
unfolding messages
no_sum_capped n edges k i below lt =
    let v = ranks_after n edges k in
    let is = raw_is n edges v i in
    let small : raw n edges v i ≤ 2 ^ 32 =
    omega (arith, node-le-total (raw n edges v) i 0 n (omega arith) (omega arith), raw_total n edges v below (ranks_total n edges k below)) in
    (subst (λ x. x ≤ 2 ^ 32) is small, step_is_raw n edges v i small ∙ is)
