-- Lowering labels to what is reached: an edge's labels joined, and a sweep.
use Rattle.std.proofs.Common.{◌≡◌, ◌≢◌, ℕ, ◌+◌, ◌<◌, ◌≤◌, Bool, true, false, List, length, get_or, take, min, max, sum, refl, sym, ap, subst, ◌∙◌, inl, inr, arith}
use Rattle.std.proofs.Math.ListN.{length-set}
use Rattle.std.proofs.lemmas.Bool.{cases_lt, cases_eq}
use Rattle.std.proofs.lemmas.List.{get_or-set_same, get_or-set_other}
use Rattle.std.proofs.lemmas.List.Elements.{All-get_or, All-more, Contains-get_or}
use Rattle.std.proofs.lemmas.List.Sums.{sum_by-set}
use Rattle.graph.specs.declared.edges.Edge.{Edge}
use Rattle.graph.specs.Edges.{AreBelow}
use Rattle.graph.specs.Walks.{AreJoined, Reaches}
use Rattle.graph.specs.Laws.{AreReached}
use Rattle.graph.proofs.StepLemmas.{min_keeps}
use Rattle.graph.proofs.WalkLemmas.{reaches_over, reaches_itself, Reaches-trans, Reaches-sym, AreJoined-from_edge}
use Rattle.labels.specs.Labels.{lowered, next_label, joined, IsSwept}

-- what holds of two numbers holds of the greater one
max_keeps : (P : ℕ → Type 0) (a b : ℕ) → P a → P b → P (max a b)
max_keeps P a b pa pb =
    elim (cases_lt a b) [
      | inl lt ↦ let is : max a b ≡ b = omega arith in rw is pb
      | inr ge ↦ let is : max a b ≡ a = omega arith in rw is pa
    ]

-- a lowered label

lowered_at : (labels : List ℕ) (x m : ℕ) → x < length labels → get_or (lowered labels x m) x 0 ≡ min (get_or labels x 0) m
lowered_at labels x m lt = get_or-set_same labels x (min (get_or labels x 0) m) 0 lt

lowered_other : (labels : List ℕ) (x m i : ℕ) → i ≢ x → get_or (lowered labels x m) i 0 ≡ get_or labels i 0
lowered_other labels x m i other = get_or-set_other labels x i (min (get_or labels x 0) m) 0 other

pub length-lowered : (labels : List ℕ) (x m : ℕ) → length (lowered labels x m) ≡ length labels
length-lowered labels x m = length-set labels x (min (get_or labels x 0) m)

lowered_reached : (n : ℕ) (edges : List Edge) (labels : List ℕ) (x m : ℕ) → length labels ≡ n → AreReached n edges (λ i. get_or labels i 0) → x < n → Reaches edges x m
    → AreReached n edges (λ i. get_or (lowered labels x m) i 0)
lowered_reached n edges labels x m long had lt to = record {
  reached = λ i lt'. elim (cases_eq i x) [
    | inl same ↦
        let at : get_or (lowered labels x m) i 0 ≡ min (get_or labels x 0) m = ap (λ k. get_or (lowered labels x m) k 0) same ∙ lowered_at labels x m (omega arith) in
        subst (Reaches edges i) (sym at) (subst (λ k. Reaches edges k (min (get_or labels x 0) m)) (sym same) (min_keeps (Reaches edges x) (get_or labels x 0) m (had.reached x lt) to))
    | inr other ↦ subst (Reaches edges i) (sym (lowered_other labels x m i other)) (had.reached i lt')
  ];
  low = λ i lt'. elim (cases_eq i x) [
    | inl same ↦
        let at : get_or (lowered labels x m) i 0 ≡ min (get_or labels x 0) m = ap (λ k. get_or (lowered labels x m) k 0) same ∙ lowered_at labels x m (omega arith) in
        omega (arith, at, had.low x lt)
    | inr other ↦ omega (arith, lowered_other labels x m i other, had.low i lt')
  ];
}

lowered_sum : (labels : List ℕ) (x m : ℕ) → x < length labels → sum (lowered labels x m) + get_or labels x 0 ≡ sum labels + min (get_or labels x 0) m
lowered_sum labels x m lt = sum_by-set (λ k. k) labels x (min (get_or labels x 0) m) 0 lt

-- the labels of an edge

module _ (n : ℕ) (edges : List Edge) (labels : List ℕ) (s t : ℕ) (long : length labels ≡ n) (had : AreReached n edges (λ i. get_or labels i 0)) (s_in : s < n) (t_in : t < n) where
  next_in : (i : ℕ) → i < n → next_label labels i ≤ get_or labels i 0
  next_in i lt = let low = had.low i lt in had.low (get_or labels i 0) (omega arith)

  to_next : (i : ℕ) → i < n → Reaches edges i (next_label labels i)
  to_next i lt = let low = had.low i lt in Reaches-trans (had.reached i lt) (had.reached (get_or labels i 0) (omega arith))

  pub joined_reached : AreJoined edges s t → AreReached n edges (λ i. get_or (joined labels s t) i 0)
  joined_reached join =
      let a = next_label labels s in
      let b = next_label labels t in
      let lo = min a b in
      let one : List ℕ = lowered labels s lo in
      let two : List ℕ = lowered one t lo in
      let across : Reaches edges s t = reaches_over join (reaches_itself edges t) in
      let from_s : Reaches edges s lo = min_keeps (Reaches edges s) a b (to_next s s_in) (Reaches-trans across (to_next t t_in)) in
      let from_t : Reaches edges t lo = Reaches-trans (Reaches-sym across) from_s in
      let from_hi : Reaches edges (max a b) lo = max_keeps (λ k. Reaches edges k lo) a b (Reaches-trans (Reaches-sym (to_next s s_in)) from_s) (Reaches-trans (Reaches-sym (to_next t t_in)) from_t) in
      let hi_in : max a b < n = max_keeps (λ k. k < n) a b (omega (arith, next_in s s_in, had.low s s_in)) (omega (arith, next_in t t_in, had.low t t_in)) in
      let one_long : length one ≡ n = length-lowered labels s lo ∙ long in
      let two_long : length two ≡ n = length-lowered one t lo ∙ one_long in
      lowered_reached n edges two (max a b) lo two_long
      (lowered_reached n edges one t lo one_long (lowered_reached n edges labels s lo long had s_in from_s) t_in from_t)
      hi_in from_hi

  pub joined_lower : get_or labels s 0 ≢ get_or labels t 0 → sum (joined labels s t) < sum labels
  joined_lower apart =
      let a = next_label labels s in
      let b = next_label labels t in
      let lo = min a b in
      let one : List ℕ = lowered labels s lo in
      let two : List ℕ = lowered one t lo in
      let one_long : length one ≡ n = length-lowered labels s lo ∙ long in
      let two_long : length two ≡ n = length-lowered one t lo ∙ one_long in
      let hi_in : max a b < n = max_keeps (λ k. k < n) a b (omega (arith, next_in s s_in, had.low s s_in)) (omega (arith, next_in t t_in, had.low t t_in)) in
      let other : t ≢ s = λ same. apart (sym (ap (λ k. get_or labels k 0) same)) in
      let first = lowered_sum labels s lo (omega arith) in
      let second = lowered_sum one t lo (omega arith) in
      let third = lowered_sum two (max a b) lo (omega arith) in
      let at_t = lowered_other labels s lo t other in
      omega (arith, first, second, third, at_t, next_in s s_in, next_in t t_in, apart)

-- a sweep

swept-le : (edges swept : List Edge) (before now : List ℕ) (apart : Bool) → IsSwept edges swept before now apart → sum now ≤ sum before
swept-le edges swept before now true sweep = let lt = sweep.lower refl in omega arith
swept-le edges swept before now false sweep = let same = ap sum (sweep.settled refl).0 in omega arith

-- the next edge's labels were apart, and were joined
pub swept_joined : (edges : List Edge) (before now now' : List ℕ) (apart : Bool) (k : ℕ) (d : Edge) → IsSwept edges (take k edges) before now apart
    → AreBelow (length now) edges → k < length edges
    → get_or now (get_or edges k d).source 0 ≢ get_or now (get_or edges k d).target 0 → now' ≡ joined now (get_or edges k d).source (get_or edges k d).target
    → IsSwept edges (take (k + 1) edges) before now' true
swept_joined edges before now now' apart k d sweep below lt differ is =
    let e = get_or edges k d in
    let within = All-get_or (λ (e : Edge). (e.source < length now) × (e.target < length now)) edges k d lt below in
    let join = AreJoined-from_edge edges e (Contains-get_or edges k d lt) in
    let long : length (joined now e.source e.target) ≡ length now = length-lowered _ _ _ ∙ length-lowered _ _ _ ∙ length-lowered now e.source _ in
    rw is
    (record {
      reached = rw long (joined_reached (length now) edges now e.source e.target refl sweep.reached within.0 within.1 join);
      lower = λ _. omega (arith, swept-le edges (take k edges) before now apart sweep, joined_lower (length now) edges now e.source e.target refl sweep.reached within.0 within.1 differ);
      settled = λ never. cc;
    })

-- the next edge's labels were the same
pub swept_same : (edges : List Edge) (before now now' : List ℕ) (apart : Bool) (k : ℕ) (d : Edge) → IsSwept edges (take k edges) before now apart → k < length edges
    → get_or now (get_or edges k d).source 0 ≡ get_or now (get_or edges k d).target 0 → now' ≡ now
    → IsSwept edges (take (k + 1) edges) before now' apart
swept_same edges before now now' apart k d sweep lt same is =
    rw is
    (record {
      reached = sweep.reached;
      lower = sweep.lower;
      settled = λ e.
          let had = sweep.settled e in
          (had.0, All-more (λ (e : Edge). get_or now e.source 0 ≡ get_or now e.target 0) edges k d lt had.1 same);
    })
