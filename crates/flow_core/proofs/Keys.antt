-- Items in the order of their keys, and pairs key by key.
use Rattle.std.proofs.Common.{◌≡◌, ◌≢◌, refl, sym, ap, ◌∙◌, subst, Bool, true, false, ℕ, List, [], ◌∷◌, ◌++◌, inl, inr}
use Rattle.std.specs.Str.{bytes_eq}
use Rattle.std.specs.List.{All, filter, flat_map}
use Rattle.std.specs.declared.cmp.Ordering.{Ordering}
use Rattle.std.specs.declared.cmp.Ordering.TheVariants.{Less, Equal, Greater}
use Rattle.std.specs.Ordering.{ordering_then, ordering_reverse, is_le, is_eq}
use Rattle.std.specs.List.Sorted.{IsPermutation}
use Rattle.std.proofs.lemmas.Bool.{false≢true, cases_Bool, false_from_ne_true}
use Rattle.std.proofs.lemmas.Cmp.{nat_list_cmp_total, tied_itself}
use Rattle.std.proofs.lemmas.Map.Lookups.{exact_bytes}
use Rattle.std.proofs.lemmas.Slice.Eq.{bytes_eq-Decides}
use Rattle.std.proofs.lemmas.List.Elements.{All-nil, All-cons, All-head, All-tail, All-weaker, All-filter, filter_passes}
use Rattle.std.proofs.lemmas.List.Sorted.{All-permutation, IsPermutation-trans}
use Rattle.pairs.specs.Sorting.{inserted, in_order}
use Rattle.pairs.specs.Pairs.{Pair, bytes_cmp, pair_before, sorted_pairs}
use Rattle.pairs.proofs.Sorting.{Rises, RisesNone, RisesOne, RisesMore, in_order_rises, in_order-unique}
use Rattle.pairs.proofs.PairLemmas.{pair_order, sorted_is_permutation}
use Rattle.list_laws.proofs.Alls.{all_flat_map, all_each}
use Rattle.list_laws.specs.Classes.{IsOnce}
use Rattle.list_laws.proofs.Classes.{classes}
use Rattle.list_laws.proofs.Orders.{in_order_permuted, inserted_permuted}
use Rattle.list_laws.proofs.Permutations.{permuted_each}

-- ---- one ordering

le_apart : (o : Ordering) → is_le o ≡ true → (o ≡ Equal → ⊥) → o ≡ Less
le_apart Less le apart = refl
le_apart Equal le apart = absurd (apart refl)
le_apart Greater le apart = absurd (false≢true le)

gt_back : (o : Ordering) → is_le o ≡ false → ordering_reverse o ≡ Less
gt_back Less gt = absurd (false≢true (sym gt))
gt_back Equal gt = absurd (false≢true (sym gt))
gt_back Greater gt = refl

pub less_apart : (k l : List ℕ) → bytes_cmp k l ≡ Less → bytes_eq l k ≡ false
less_apart k l less =
    false_from_ne_true (bytes_eq l k) (λ same.
    let is : l ≡ k = (bytes_eq-Decides l k).0 same in
    let there : bytes_cmp k k ≡ Less = subst (λ x. bytes_cmp k x ≡ Less) is less in
    false≢true (sym (ap is_eq there) ∙ ap is_eq (tied_itself nat_list_cmp_total k)))

-- ---- items whose keys rise

pub data Climbs {I : Type 0} (key : I → List ℕ) : List I → Type 0 where
  ClimbsNone : Climbs key []
  ClimbsMore : (i : I) (is : List I) → All (λ j. bytes_cmp (key i) (key j) ≡ Less) is → Climbs key is → Climbs key (i ∷ is)

-- items whose keys differ
pub data Apart {I : Type 0} (key : I → List ℕ) : List I → Type 0 where
  ApartNone : Apart key []
  ApartMore : (i : I) (is : List I) → All (λ j. key i ≢ key j) is → Apart key is → Apart key (i ∷ is)

module _ {I : Type 0} (key : I → List ℕ) where
  abbrev pub key_before : I → I → Bool
  key_before i j = is_le (bytes_cmp (key i) (key j))

  abbrev below : I → I → Type 0
  below i j = bytes_cmp (key i) (key j) ≡ Less

  inserted_climbs : (i : I) (is : List I) → All (λ j. key i ≢ key j) is → Climbs key is → Climbs key (inserted key_before i is)
  inserted_climbs i [] apart ClimbsNone = ClimbsMore i [] (All-nil (below i)) ClimbsNone
  inserted_climbs i (j ∷ js) apart (ClimbsMore _ _ above rest) =
      elim (cases_Bool (key_before i j)) [
        | inl is ↦
            let less : below i j = le_apart (bytes_cmp (key i) (key j)) is (λ tied. All-head (λ l. key i ≢ key l) j js apart (exact_bytes (key i) (key j) tied)) in
            rw is (ClimbsMore i (j ∷ js) (All-cons (below i) j js less (All-weaker (below j) (below i) (λ l lt. nat_list_cmp_total.trans (key i) (key j) (key l) less lt) js above)) (ClimbsMore j js above rest))
        | inr isnt ↦
            let less : below j i = nat_list_cmp_total.antisymm (key j) (key i) ∙ gt_back (bytes_cmp (key i) (key j)) isnt in
            rw isnt (ClimbsMore j (inserted key_before i js) (All-permutation (below j) (i ∷ js) (inserted key_before i js) (inserted_permuted key_before i js) (All-cons (below j) i js less above)) (inserted_climbs i js (All-tail (λ l. key i ≢ key l) j js apart) rest))
      ]

  pub in_order_climbs : (is : List I) → Apart key is → Climbs key (in_order key_before is)
  in_order_climbs [] ApartNone = ClimbsNone
  in_order_climbs (i ∷ is) (ApartMore _ _ apart rest) =
      inserted_climbs i (in_order key_before is) (All-permutation (λ j. key i ≢ key j) is (in_order key_before is) (in_order_permuted key_before is) apart) (in_order_climbs is rest)

  pub apart_filter : (p : I → Bool) (is : List I) → Apart key is → Apart key (filter p is)
  apart_filter p [] ApartNone = ApartNone
  apart_filter p (i ∷ is) (ApartMore _ _ apart rest) =
      elim (cases_Bool (p i)) [
        | inl there ↦ rw there (ApartMore i (filter p is) (All-filter p (λ j. key i ≢ key j) is apart) (apart_filter p is rest))
        | inr gone ↦ rw gone (apart_filter p is rest)
      ]

-- ---- pairs key by key

rises_append : (xs ys : List Pair) → Rises pair_before xs → Rises pair_before ys → All (λ p. All (λ q. pair_before p q ≡ true) ys) xs → Rises pair_before (xs ++ ys)
rises_append [] ys front back all = back
rises_append (x ∷ []) [] front back all = RisesOne x
rises_append (x ∷ []) (y ∷ ys) front back all =
    RisesMore x y ys (All-head (λ q. pair_before x q ≡ true) y ys (All-head (λ p. All (λ q. pair_before p q ≡ true) (y ∷ ys)) x [] all)) back
rises_append (x ∷ z ∷ xs) ys (RisesMore _ _ _ xz rest) back all =
    RisesMore x z (xs ++ ys) xz (rises_append (z ∷ xs) ys rest back (All-tail (λ p. All (λ q. pair_before p q ≡ true) ys) x (z ∷ xs) all))

key_first : (k : List ℕ) (p q : Pair) → p.0 ≡ k → bytes_cmp k q.0 ≡ Less → pair_before p q ≡ true
key_first k p q is less =
    let there : bytes_cmp p.0 q.0 ≡ Less = subst (λ l. bytes_cmp l q.0 ≡ Less) (sym is) less in
    ap (λ (o : Ordering). is_le (ordering_then o (bytes_cmp p.1 q.1))) there

module _ {I : Type 0} (key : I → List ℕ) (ps : List Pair) where
  -- the pairs of an item's key
  abbrev pub of_key : I → List Pair
  of_key i = filter (λ p. bytes_eq p.0 (key i)) ps

  abbrev pub run_of : I → List Pair
  run_of i = sorted_pairs (of_key i)

  has_its_key : (i : I) → All (λ (p : Pair). p.0 ≡ key i) (run_of i)
  has_its_key i =
      All-permutation (λ (p : Pair). p.0 ≡ key i) (of_key i) (run_of i) (sorted_is_permutation (of_key i)) (All-weaker (λ (p : Pair). bytes_eq p.0 (key i) ≡ true) (λ (p : Pair). p.0 ≡ key i) (λ p is. (bytes_eq-Decides p.0 (key i)).0 is) (of_key i) (filter_passes (λ (p : Pair). bytes_eq p.0 (key i)) ps))

  runs_rise : (is : List I) → Climbs key is → Rises pair_before (flat_map run_of is)
  runs_rise [] ClimbsNone = RisesNone
  runs_rise (i ∷ is) (ClimbsMore _ _ above rest) =
      let later : All (λ (q : Pair). bytes_cmp (key i) q.0 ≡ Less) (flat_map run_of is) =
      all_flat_map (λ (q : Pair). bytes_cmp (key i) q.0 ≡ Less) run_of is (All-weaker (λ j. bytes_cmp (key i) (key j) ≡ Less) (λ j. All (λ (q : Pair). bytes_cmp (key i) q.0 ≡ Less) (run_of j)) (λ j less. All-weaker (λ (q : Pair). q.0 ≡ key j) (λ (q : Pair). bytes_cmp (key i) q.0 ≡ Less) (λ q is'. subst (λ l. bytes_cmp (key i) l ≡ Less) (sym is') less) (run_of j) (has_its_key j)) is above) in
      rises_append (run_of i) (flat_map run_of is) (in_order_rises pair_before pair_order (of_key i)) (runs_rise is rest) (All-weaker (λ (p : Pair). p.0 ≡ key i) (λ p. All (λ q. pair_before p q ≡ true) (flat_map run_of is)) (λ p is'. All-weaker (λ (q : Pair). bytes_cmp (key i) q.0 ≡ Less) (λ q. pair_before p q ≡ true) (λ q less. key_first (key i) p q is' less) (flat_map run_of is) later) (run_of i) (has_its_key i))

  -- where each pair has the key of just one item, the sorted pairs are those of each item, in the order of the keys
  pub sorted_runs : (is : List I) → Climbs key is → All (λ (p : Pair). IsOnce (λ i. bytes_eq p.0 (key i)) is) ps → sorted_pairs ps ≡ flat_map run_of is
  sorted_runs is climbs once =
      sym (in_order-unique pair_before pair_order ps (flat_map run_of is) (IsPermutation-trans ps (flat_map of_key is) (flat_map run_of is) (classes (λ (p : Pair) i. bytes_eq p.0 (key i)) is ps once) (permuted_each of_key run_of is (all_each (λ i. IsPermutation (of_key i) (run_of i)) (λ i. sorted_is_permutation (of_key i)) is))) (runs_rise is climbs))
