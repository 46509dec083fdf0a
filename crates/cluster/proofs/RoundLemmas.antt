-- A round is a step of the components, and a step reaches one hop further.
use Rattle.std.proofs.Common.{◌≡◌, ◌≢◌, ℕ, zero, suc, ◌+◌, ◌-◌, ◌<◌, ◌≤◌, ◌^◌, min, cond, eqb, List, [], ◌∷◌, length, get_or, set, fold, refl, sym, ap, subst, ◌∙◌, inl, inr, arith, eqb-true, get_or-set_same, get_or-set_other}
use Rattle.std.specs.List.{range_with_len}
use Rattle.std.proofs.lemmas.Bool.{cases_Bool, eqb-false, ltb-true}
use Rattle.std.proofs.lemmas.List.{length-set}
use Rattle.std.proofs.lemmas.List.FromFn.{get_or-range_with_len, length-range_with_len}
use Rattle.std.proofs.lemmas.List.Elements.{All-head, All-tail}
use Rattle.graph.specs.declared.edges.Edge.{Edge}
use Rattle.graph.specs.Edges.{AreBelow}
use Rattle.graph.specs.Entries.{hcc_entries}
use Rattle.graph.specs.Steps.{Vector, messages_to, all_of, step}
use Rattle.graph.specs.Walks.{AreJoined, IsWalk}
use Rattle.graph.specs.Algorithms.{hcc}
use Rattle.graph.specs.Laws.{labels_after}
use Rattle.graph.proofs.StepLemmas.{min_keeps, gathered_keeps, step-le, step-le_joined}
use Rattle.graph.proofs.WalkLemmas.{AreBelow-same, joined-lt}
use Rattle.cluster.specs.Rounds.{Round, fresh, lowered, heard, with_edge, round_over, rounds_over, ReachesWithin, IsLeastWithin}

-- ---- a round is a step

lowered_at : (xs : List ℕ) (node x i : ℕ) → node < length xs → get_or (lowered xs node x) i 0 ≡ cond (eqb node i) (min (get_or xs i 0) x) (get_or xs i 0)
lowered_at xs node x i low =
    elim (cases_Bool (eqb node i)) [
      | inl is ↦
          let same = eqb-true node i is in
          rw is (subst (λ k. get_or (lowered xs node x) k 0 ≡ min (get_or xs k 0) x) same (get_or-set_same xs node (min (get_or xs node 0) x) 0 low))
      | inr isnt ↦
          let other : i ≢ node = λ e. eqb-false node i isnt (sym e) in
          rw isnt (get_or-set_other xs node i (min (get_or xs node 0) x) 0 other)
    ]

length-lowered : (xs : List ℕ) (node x : ℕ) → length (lowered xs node x) ≡ length xs
length-lowered xs node x = length-set xs node (min (get_or xs node 0) x)

length-heard : (labels next : List ℕ) (e : Edge) → length (heard labels next e) ≡ length next
length-heard labels next e =
    length-lowered (lowered next e.source (get_or labels e.target 0)) e.target (get_or labels e.source 0) ∙ length-lowered next e.source (get_or labels e.target 0)

-- what an edge makes of the label of a node
heard_at : (labels next : List ℕ) (e : Edge) (i : ℕ) → (e.source < length next) × (e.target < length next)
    → (es : List Edge)
    → fold min (get_or (heard labels next e) i 0) (messages_to hcc (hcc_entries es) (λ j. get_or labels j 0) i)
    ≡ fold min (get_or next i 0) (messages_to hcc (hcc_entries (e ∷ es)) (λ j. get_or labels j 0) i)
heard_at labels next e i low es =
    let first = lowered next e.source (get_or labels e.target 0) in
    let one = lowered_at next e.source (get_or labels e.target 0) i low.0 in
    let length_is : length first ≡ length next = length-lowered next e.source (get_or labels e.target 0) in
    let two = lowered_at first e.target (get_or labels e.source 0) i (omega (arith, length_is, low.1)) in
    elim (cases_Bool (eqb e.source i)) [
      | inl s ↦ elim (cases_Bool (eqb e.target i)) [
        | inl t ↦ rw (two, one, s, t) refl
        | inr t ↦ rw (two, one, s, t) refl
      ]
      | inr s ↦ elim (cases_Bool (eqb e.target i)) [
        | inl t ↦ rw (two, one, s, t) refl
        | inr t ↦ rw (two, one, s, t) refl
      ]
    ]

length-heard_all : (labels : List ℕ) (edges : List Edge) (next : List ℕ) → length (fold (heard labels) next edges) ≡ length next
length-heard_all labels [] next = refl
length-heard_all labels (e ∷ es) next = length-heard_all labels es (heard labels next e) ∙ length-heard labels next e

heard_all_at : (labels : List ℕ) (edges : List Edge) (next : List ℕ) (i : ℕ) → AreBelow (length next) edges
    → get_or (fold (heard labels) next edges) i 0 ≡ fold min (get_or next i 0) (messages_to hcc (hcc_entries edges) (λ j. get_or labels j 0) i)
heard_all_at labels [] next i below = refl
heard_all_at labels (e ∷ es) next i below =
    let P : Edge → Type 0 = λ d. (d.source < length next) × (d.target < length next) in
    heard_all_at labels es (heard labels next e) i (AreBelow-same _ _ es (length-heard labels next e) (All-tail P e es below))
    ∙ heard_at labels next e i (All-head P e es below) es

fold_min_split : (x y : ℕ) (ms : List ℕ) → fold min (min x y) ms ≡ min x (fold min y ms)
fold_min_split x y [] = refl
fold_min_split x y (m ∷ ms) =
    let is : min (min x y) m ≡ min x (min y m) = omega arith in
    ap (λ (z : ℕ). fold min z ms) is ∙ fold_min_split x (min y m) ms

round_is_step : (edges : List Edge) (labels : List ℕ) (i : ℕ) → AreBelow (length labels) edges → get_or labels i 0 < 2 ^ 64
    → get_or (fold (heard labels) labels edges) i 0 ≡ step hcc (hcc_entries edges) (λ j. get_or labels j 0) i
round_is_step edges labels i below small =
    let v = get_or labels i 0 in
    let ms = messages_to hcc (hcc_entries edges) (λ j. get_or labels j 0) i in
    let is : v ≡ min v (2 ^ 64 - 1) = omega arith in
    heard_all_at labels edges labels i below
    ∙ ap (λ (z : ℕ). fold min z ms) is
    ∙ fold_min_split v (2 ^ 64 - 1) ms

-- ---- the labels of rounds

with_edges : (edges : List Edge) (r : Round) → fold with_edge r edges ≡ record { labels = r.labels; next = fold (heard r.labels) r.next edges }
with_edges [] r = refl
with_edges (e ∷ es) r = with_edges es (with_edge r e)

-- labels and what has come of them are the same between rounds
abbrev labels_in : ℕ → List Edge → ℕ → List ℕ
labels_in n edges k = (rounds_over edges k (fresh n)).labels

between : (n : ℕ) (edges : List Edge) (k : ℕ) → (rounds_over edges k (fresh n)).next ≡ labels_in n edges k
between n edges zero = refl
between n edges (suc k) = refl

next_labels : (n : ℕ) (edges : List Edge) (k : ℕ) → labels_in n edges (suc k) ≡ fold (heard (labels_in n edges k)) (labels_in n edges k) edges
next_labels n edges k =
    let r = rounds_over edges k (fresh n) in
    ap (λ (s : Round). s.next) (with_edges edges r) ∙ ap (λ (next : List ℕ). fold (heard r.labels) next edges) (between n edges k)

length-labels : (n : ℕ) (edges : List Edge) (k : ℕ) → length (labels_in n edges k) ≡ n
length-labels n edges zero = length-range_with_len 0 n
length-labels n edges (suc k) =
    let l = labels_in n edges k in
    ap length (next_labels n edges k) ∙ length-heard_all l edges l ∙ length-labels n edges k

-- ---- hops

further : {edges : List Edge} {hops i j : ℕ} → ReachesWithin edges hops i j → ReachesWithin edges (suc hops) i j
further {edges} {hops} {i} {j} to = record { over = to.over; few = omega (arith, to.few); walk = to.walk }

hop_over : {edges : List Edge} {hops i k j : ℕ} → AreJoined edges i k → ReachesWithin edges hops k j → ReachesWithin edges (suc hops) i j
hop_over {edges} {hops} {i} {k} {j} joined on = record { over = k ∷ on.over; few = omega (arith, on.few); walk = (joined, on.walk) }

no_hops : (edges : List Edge) (i : ℕ) (over : List ℕ) (j : ℕ) → length over ≤ 0 → IsWalk edges i over j → i ≤ j
no_hops edges i [] j few walk = omega arith
no_hops edges i (k ∷ ks) j few walk = absurd (omega arith)

pub least_itself : (edges : List Edge) (i : ℕ) → IsLeastWithin edges 0 i i
least_itself edges i = record {
  reached = record { over = []; few = omega arith; walk = refl };
  least = λ j to. no_hops edges i to.over j to.few to.walk;
}

module _ (n hops : ℕ) (edges : List Edge) (small : n ≤ 2 ^ 64) (below : AreBelow n edges) (v : Vector ℕ) (had : (i : ℕ) → i < n → IsLeastWithin edges hops i (v i)) where
  low : (i : ℕ) → i < n → v i ≤ i
  low i lt = (had i lt).least i (record { over = []; few = omega arith; walk = refl })

  least_of_step : (i : ℕ) → i < n → (over : List ℕ) (j : ℕ) → length over ≤ suc hops → IsWalk edges i over j → step hcc (hcc_entries edges) v i ≤ j
  least_of_step i lt [] j few walk = omega (arith, step-le edges v i, low i lt)
  least_of_step i lt (k ∷ ks) j few walk =
      omega (
        arith,
        step-le_joined edges v i k walk.0,
        (had k (joined-lt n edges i k below walk.0)).least j (record { over = ks; few = omega arith; walk = walk.1 }),
      )

  -- a step reaches one hop further
  pub hops_step : (i : ℕ) → i < n → IsLeastWithin edges (suc hops) i (step hcc (hcc_entries edges) v i)
  hops_step i lt =
      let here : ReachesWithin edges (suc hops) i (v i) = further (had i lt).reached in
      let P : ℕ → Type 0 = λ m. ReachesWithin edges (suc hops) i (min (v i) m) in
      let low_i = low i lt in
      let unit : P (2 ^ 64 - 1) = let is : min (v i) (2 ^ 64 - 1) ≡ v i = omega arith in rw is here in
      record {
        reached = gathered_keeps P edges v i unit
            (λ j joined. min_keeps (ReachesWithin edges (suc hops) i) (v i) (v j) here (hop_over joined (had j (joined-lt n edges i j below joined)).reached));
        least = λ j to. least_of_step i lt to.over j to.few to.walk;
      }

pub IsLeastWithin-unique : (edges : List Edge) (hops i m m' : ℕ) → IsLeastWithin edges hops i m → IsLeastWithin edges hops i m' → m ≡ m'
IsLeastWithin-unique edges hops i m m' least other = omega (arith, least.least m' other.reached, other.least m least.reached)

pub steps_reach_hops : (n : ℕ) (edges : List Edge) → n ≤ 2 ^ 64 → AreBelow n edges → (hops i : ℕ) → i < n → IsLeastWithin edges hops i (labels_after edges hops i)
steps_reach_hops n edges small below zero i lt = least_itself edges i
steps_reach_hops n edges small below (suc hops) i lt = hops_step n hops edges small below (labels_after edges hops) (steps_reach_hops n edges small below hops) i lt

pub rounds_reach_hops : (n : ℕ) (edges : List Edge) → n ≤ 2 ^ 32 → AreBelow n edges → (hops i : ℕ) → i < n → IsLeastWithin edges hops i (get_or (labels_in n edges hops) i 0)
rounds_reach_hops n edges small below zero i lt = rw (get_or-range_with_len 0 n i 0 lt) (let is : 0 + i ≡ i = omega arith in rw is (least_itself edges i))
rounds_reach_hops n edges small below (suc hops) i lt =
    let l = labels_in n edges hops in
    let had = rounds_reach_hops n edges small below hops in
    let v : Vector ℕ = λ j. get_or l j 0 in
    let low_i = low n hops edges (omega arith) below v had i lt in
    let is : get_or (labels_in n edges (suc hops)) i 0 ≡ step hcc (hcc_entries edges) v i =
    ap (λ (xs : List ℕ). get_or xs i 0) (next_labels n edges hops)
    ∙ round_is_step edges l i (AreBelow-same _ _ edges (length-labels n edges hops) below) (omega (arith, low_i, lt, small)) in
    subst (IsLeastWithin edges (suc hops) i) (sym is) (hops_step n hops edges (omega arith) below v had i lt)

pub rounds_are_steps : (n : ℕ) (edges : List Edge) → n ≤ 2 ^ 32 → AreBelow n edges → (k i : ℕ) → i < n → get_or (labels_in n edges k) i 0 ≡ labels_after edges k i
rounds_are_steps n edges small below k i lt =
    IsLeastWithin-unique edges k i (get_or (labels_in n edges k) i 0) (labels_after edges k i) (rounds_reach_hops n edges small below k i lt)
    (steps_reach_hops n edges (omega arith) below k i lt)
