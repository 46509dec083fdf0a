-- Items with keys: those of each part in the order of their keys, and the sorted pairs of a part item by item.
use Rattle.std.proofs.Common.{◌≡◌, sym, ap, ◌∙◌, subst, Bool, true, ℕ, ◌≤◌, eqb, List, [], ◌∷◌, ◌++◌, map, inl, inr}
use Rattle.std.specs.Str.{bytes_eq}
use Rattle.std.specs.List.{All, filter, flat_map, range_with_len}
use Rattle.std.specs.List.Sorted.{IsPermutation}
use Rattle.std.proofs.lemmas.Bool.{eq-eqb, eqb-true, cases_Bool, false_from_ne_true}
use Rattle.std.proofs.lemmas.List.{append-nil}
use Rattle.std.proofs.lemmas.Slice.Eq.{bytes_eq-Decides}
use Rattle.std.proofs.lemmas.List.Elements.{All-nil, All-weaker, All-filter, All-map, All-append, filter_passes, filter-append}
use Rattle.std.proofs.lemmas.List.Sorted.{All-permutation, IsPermutation-trans}
use Rattle.partition.specs.Hash.{part_among}
use Rattle.spill.specs.Runs.{of_part}
use Rattle.pairs.specs.Sorting.{in_order}
use Rattle.pairs.specs.Pairs.{Pair, pair_before, sorted_pairs}
use Rattle.pairs.proofs.PairLemmas.{least_comes_first}
use Rattle.list_laws.proofs.Alls.{all_each, all_both}
use Rattle.list_laws.proofs.Images.{flat_map_agree}
use Rattle.std.proofs.lemmas.List.Concat.{flat_map_single}
use Rattle.list_laws.proofs.Filters.{filter_agree_on, filter_within, filter-map}
use Rattle.list_laws.specs.Classes.{IsOnce}
use Rattle.list_laws.proofs.Classes.{classes}
use Rattle.list_laws.proofs.Orders.{in_order_permuted, in_order_filter, in_order-map}
use Rattle.list_laws.proofs.Permutations.{permuted_each, permuted_one}
use Rattle.flow_core.proofs.Keys.{Climbs, Apart, key_before, in_order_climbs, apart_filter, sorted_runs}
use Rattle.flow_core.proofs.InParts.{part_once}

same_keys : (k l : List ℕ) → bytes_eq k l ≡ bytes_eq l k
same_keys k l =
    elim (cases_Bool (bytes_eq l k)) [
      | inl is ↦ (bytes_eq-Decides k l).1 (sym ((bytes_eq-Decides l k).0 is)) ∙ sym is
      | inr isnt ↦ false_from_ne_true (bytes_eq k l) (λ is. let back : bytes_eq l k ≡ true = (bytes_eq-Decides l k).1 (sym ((bytes_eq-Decides k l).0 is)) in cc) ∙ sym isnt
    ]

-- ---- items

-- these are all the items that are in, each once, and each has a key of its own
pub record AreKeyed {I : Type 0} (key : I → List ℕ) (same : I → I → Bool) (In : I → Type 0) (all : List I) : Type 0 where
  pub each : All In all
  pub once : (j : I) → In j → filter (same j) all ≡ j ∷ []
  pub tells : (i j : I) → In i → In j → bytes_eq (key i) (key j) ≡ same i j
  pub is : (i j : I) → same i j ≡ true → i ≡ j
  pub apart : Apart key all

-- further items, each with a pair of the key of an item
module _ {I E : Type 0} (key : I → List ℕ) (same : I → I → Bool) (f : E → Pair) (at : E → I) where
  abbrev pub items_of : List E → I → List E
  items_of xs i = filter (λ e. same (at e) i) xs

  -- those of an item, in the order of their pairs
  abbrev pub sorted_of : List E → I → List E
  sorted_of xs i = in_order (λ d e. pair_before (f d) (f e)) (items_of xs i)

  pub sorted_of_permuted : (xs : List E) (i : I) → IsPermutation (items_of xs i) (sorted_of xs i)
  sorted_of_permuted xs i = in_order_permuted (λ d e. pair_before (f d) (f e)) (items_of xs i)

  pub sorted_of_all : ((i j : I) → same i j ≡ true → i ≡ j) → (P : E → Type 0) (xs : List E) (i : I) → All P xs → All (λ e. (at e ≡ i) × P e) (sorted_of xs i)
  sorted_of_all is P xs i all =
      All-permutation (λ e. (at e ≡ i) × P e) (items_of xs i) (sorted_of xs i) (sorted_of_permuted xs i) (all_both (λ e. at e ≡ i) P (items_of xs i) (All-weaker (λ e. same (at e) i ≡ true) (λ e. at e ≡ i) (λ e there. is (at e) i there) (items_of xs i) (filter_passes (λ e. same (at e) i) xs)) (All-filter (λ e. same (at e) i) P xs all))

  -- the item's own pair, and then these
  abbrev pub run_of : (I → Pair) → List E → I → List Pair
  run_of head xs i = head i ∷ map f (sorted_of xs i)

  pub record IsAt (In : I → Type 0) (e : E) : Type 0 where
    pub has_key : (f e).0 ≡ key (at e)
    pub inside : In (at e)

  -- the item's own pair may stand before it
  pub record IsBehind (In : I → Type 0) (head : I → Pair) (e : E) : Type 0 where
    pub is_at : IsAt In e
    pub behind : pair_before (head (at e)) (f e) ≡ true

module _ {I : Type 0} (key : I → List ℕ) (all : List I) (reducers : ℕ) where
  abbrev pub is_of_part : ℕ → I → Bool
  is_of_part r i = eqb (part_among (key i) reducers) r

  -- the items of a part, in the order of their keys
  abbrev pub part_items : ℕ → List I
  part_items r = in_order (key_before key) (filter (is_of_part r) all)

module _ {I : Type 0} (key : I → List ℕ) (same : I → I → Bool) (In : I → Type 0) (all : List I) (keyed : AreKeyed key same In all) (reducers : ℕ) where
  pub items_in : (r : ℕ) → All (λ i. In i × (part_among (key i) reducers ≡ r)) (part_items key all reducers r)
  items_in r =
      All-permutation (λ i. In i × (part_among (key i) reducers ≡ r)) (filter (is_of_part key all reducers r) all) (part_items key all reducers r) (in_order_permuted (key_before key) (filter (is_of_part key all reducers r) all))
      (all_both In (λ i. part_among (key i) reducers ≡ r) (filter (is_of_part key all reducers r) all)
      (All-filter (is_of_part key all reducers r) In all keyed.each)
      (All-weaker (λ i. is_of_part key all reducers r i ≡ true) (λ i. part_among (key i) reducers ≡ r) (λ i is. eqb-true (part_among (key i) reducers) r is) (filter (is_of_part key all reducers r) all) (filter_passes (is_of_part key all reducers r) all)))

  pub items_climb : (r : ℕ) → Climbs key (part_items key all reducers r)
  items_climb r = in_order_climbs key (filter (is_of_part key all reducers r) all) (apart_filter key (is_of_part key all reducers r) all keyed.apart)

  key_once : (j : I) → In j → filter (λ i. bytes_eq (key j) (key i)) all ≡ j ∷ []
  key_once j inside =
      filter_agree_on (λ i. bytes_eq (key j) (key i)) (same j) all (All-weaker In (λ i. bytes_eq (key j) (key i) ≡ same j i) (λ i there. keyed.tells j i inside there) all keyed.each) ∙ keyed.once j inside

  item_once : (r : ℕ) (j : I) → In j → part_among (key j) reducers ≡ r → filter (λ i. bytes_eq (key j) (key i)) (part_items key all reducers r) ≡ j ∷ []
  item_once r j inside here =
      let test : I → Bool = λ i. bytes_eq (key j) (key i) in
      let one : filter test (filter (is_of_part key all reducers r) all) ≡ j ∷ [] =
      filter_within test (is_of_part key all reducers r) (λ i is. eq-eqb (part_among (key i) reducers) r (ap (λ (k : List ℕ). part_among k reducers) (sym ((bytes_eq-Decides (key j) (key i)).0 is)) ∙ here)) all ∙ key_once j inside in
      permuted_one j (filter test (part_items key all reducers r)) (subst (λ zs. IsPermutation zs (filter test (part_items key all reducers r))) one (in_order_filter (key_before key) test (filter (is_of_part key all reducers r) all)))

  pub all_items : 1 ≤ reducers → IsPermutation all (flat_map (part_items key all reducers) (range_with_len 0 reducers))
  all_items some =
      let in_part : I → ℕ → Bool = λ i r. eqb (part_among (key i) reducers) r in
      let parts = range_with_len 0 reducers in
      IsPermutation-trans all (flat_map (λ r. filter (λ i. in_part i r) all) parts) (flat_map (part_items key all reducers) parts) (classes in_part parts all (all_each (λ i. IsOnce (in_part i) parts) (λ i. part_once (key i) reducers some) all)) (permuted_each (λ r. filter (λ i. in_part i r) all) (part_items key all reducers) parts (all_each (λ r. IsPermutation (filter (λ i. in_part i r) all) (part_items key all reducers r)) (λ r. in_order_permuted (key_before key) (filter (λ i. in_part i r) all)) parts))

  abbrev HasKey : Pair → Type 0
  HasKey p = (j : I) × In j × (p.0 ≡ key j)

  within_part : (r : ℕ) (i : I) (ps : List Pair) → part_among (key i) reducers ≡ r → filter (λ (p : Pair). bytes_eq p.0 (key i)) (of_part reducers r ps) ≡ filter (λ (p : Pair). bytes_eq p.0 (key i)) ps
  within_part r i ps here =
      filter_within (λ (p : Pair). bytes_eq p.0 (key i)) (λ (p : Pair). eqb (part_among p.0 reducers) r) (λ p is. eq-eqb (part_among p.0 reducers) r (ap (λ (k : List ℕ). part_among k reducers) ((bytes_eq-Decides p.0 (key i)).0 is) ∙ here)) ps

  -- the sorted pairs of a part, item by item, where each pair has the key of an item
  runs_by : (ps : List Pair) (run : I → List Pair) → All HasKey ps → ((i : I) → In i → sorted_pairs (filter (λ (p : Pair). bytes_eq p.0 (key i)) ps) ≡ run i) → (r : ℕ) → sorted_pairs (of_part reducers r ps) ≡ flat_map run (part_items key all reducers r)
  runs_by ps run has_keys is_run r =
      let test : Pair → Bool = λ (p : Pair). eqb (part_among p.0 reducers) r in
      let once : All (λ (p : Pair). IsOnce (λ i. bytes_eq p.0 (key i)) (part_items key all reducers r)) (of_part reducers r ps) =
      All-weaker (λ (p : Pair). (test p ≡ true) × HasKey p) (λ (p : Pair). IsOnce (λ i. bytes_eq p.0 (key i)) (part_items key all reducers r)) (λ p h. record {
        one = h.1.0;
        is = subst (λ (k : List ℕ). filter (λ i. bytes_eq k (key i)) (part_items key all reducers r) ≡ h.1.0 ∷ []) (sym h.1.2) (item_once r h.1.0 h.1.1 (subst (λ (k : List ℕ). part_among k reducers ≡ r) h.1.2 (eqb-true (part_among p.0 reducers) r h.0)));
      }) (of_part reducers r ps) (all_both (λ (p : Pair). test p ≡ true) HasKey (of_part reducers r ps) (filter_passes test ps) (All-filter test HasKey ps has_keys)) in
      sorted_runs key (of_part reducers r ps) (part_items key all reducers r) (items_climb r) once
      ∙ flat_map_agree (λ i. sorted_pairs (filter (λ (p : Pair). bytes_eq p.0 (key i)) (of_part reducers r ps))) run (part_items key all reducers r) (All-weaker (λ i. In i × (part_among (key i) reducers ≡ r)) (λ i. sorted_pairs (filter (λ (p : Pair). bytes_eq p.0 (key i)) (of_part reducers r ps)) ≡ run i) (λ i h. ap sorted_pairs (within_part r i ps h.1) ∙ is_run i h.0) (part_items key all reducers r) (items_in r))

  module _ {E : Type 0} (f : E → Pair) (at : E → I) where
    pairs_of_item : (xs : List E) (i : I) → All (IsAt key same f at In) xs → In i → filter (λ (p : Pair). bytes_eq p.0 (key i)) (map f xs) ≡ map f (items_of key same f at xs i)
    pairs_of_item xs i all_at inside =
        filter-map (λ (p : Pair). bytes_eq p.0 (key i)) f xs ∙ ap (map f) (filter_agree_on (λ e. bytes_eq (f e).0 (key i)) (λ e. same (at e) i) xs (All-weaker (IsAt key same f at In) (λ e. bytes_eq (f e).0 (key i) ≡ same (at e) i) (λ e is. ap (λ (k : List ℕ). bytes_eq k (key i)) is.has_key ∙ keyed.tells (at e) i is.inside inside) xs all_at))

    have_keys : (xs : List E) → All (IsAt key same f at In) xs → All HasKey (map f xs)
    have_keys xs all_at = All-map HasKey f xs (All-weaker (IsAt key same f at In) (λ e. HasKey (f e)) (λ e is. (at e, is.inside, is.has_key)) xs all_at)

    -- an item may have none
    pub runs_of_items : (xs : List E) → All (IsAt key same f at In) xs → (r : ℕ) → sorted_pairs (of_part reducers r (map f xs)) ≡ flat_map (λ i. map f (sorted_of key same f at xs i)) (part_items key all reducers r)
    runs_of_items xs all_at =
        runs_by (map f xs) (λ i. map f (sorted_of key same f at xs i)) (have_keys xs all_at) (λ i inside. ap sorted_pairs (pairs_of_item xs i all_at inside) ∙ in_order-map pair_before f (items_of key same f at xs i))

    -- further items, item by item
    pub items_by_item : (xs : List E) → All (λ e. In (at e)) xs → IsPermutation xs (flat_map (sorted_of key same f at xs) all)
    items_by_item xs inside =
        IsPermutation-trans xs (flat_map (items_of key same f at xs) all) (flat_map (sorted_of key same f at xs) all) (classes (λ e i. same (at e) i) all xs (All-weaker (λ e. In (at e)) (λ e. IsOnce (λ i. same (at e) i) all) (λ e there. record { one = at e; is = keyed.once (at e) there }) xs inside)) (permuted_each (items_of key same f at xs) (sorted_of key same f at xs) all (all_each (λ i. IsPermutation (items_of key same f at xs i) (sorted_of key same f at xs i)) (sorted_of_permuted key same f at xs) all))

    module _ (head : I → Pair) (head_key : (i : I) → (head i).0 ≡ key i) where
      own_run : (xs : List E) → All (IsBehind key same f at In head) xs → (i : I) → In i → sorted_pairs (filter (λ (p : Pair). bytes_eq p.0 (key i)) (map head all ++ map f xs)) ≡ run_of key same f at head xs i
      own_run xs behind i inside =
          let test : Pair → Bool = λ (p : Pair). bytes_eq p.0 (key i) in
          let all_at : All (IsAt key same f at In) xs = All-weaker (IsBehind key same f at In head) (IsAt key same f at In) (λ e h. h.is_at) xs behind in
          let own : filter test (map head all) ≡ head i ∷ [] =
          filter-map test head all ∙ ap (map head) (filter_agree_on (λ j. bytes_eq (head j).0 (key i)) (λ j. bytes_eq (key i) (key j)) all (all_each (λ j. bytes_eq (head j).0 (key i) ≡ bytes_eq (key i) (key j)) (λ j. ap (λ (k : List ℕ). bytes_eq k (key i)) (head_key j) ∙ same_keys (key j) (key i)) all) ∙ key_once i inside) in
          ap sorted_pairs (filter-append test (map head all) (map f xs) ∙ ap (λ (ps : List Pair). ps ++ filter test (map f xs)) own ∙ ap (λ (ps : List Pair). head i ∷ ps) (pairs_of_item xs i all_at inside))
          ∙ least_comes_first (head i) (map f (items_of key same f at xs i)) (All-map (λ p. pair_before (head i) p ≡ true) f (items_of key same f at xs i) (All-weaker (λ e. (same (at e) i ≡ true) × IsBehind key same f at In head e) (λ e. pair_before (head i) (f e) ≡ true) (λ e h. subst (λ (j : I). pair_before (head j) (f e) ≡ true) (keyed.is (at e) i h.0) h.1.behind) (items_of key same f at xs i) (all_both (λ e. same (at e) i ≡ true) (IsBehind key same f at In head) (items_of key same f at xs i) (filter_passes (λ e. same (at e) i) xs) (All-filter (λ e. same (at e) i) (IsBehind key same f at In head) xs behind))))
          ∙ ap (λ (ps : List Pair). head i ∷ ps) (in_order-map pair_before f (items_of key same f at xs i))

      -- the sorted pairs of a part, where each item has a pair of its own and maybe further ones
      pub runs_behind_heads : (xs : List E) → All (IsBehind key same f at In head) xs → (r : ℕ) → sorted_pairs (of_part reducers r (map head all ++ map f xs)) ≡ flat_map (run_of key same f at head xs) (part_items key all reducers r)
      runs_behind_heads xs behind =
          let all_at : All (IsAt key same f at In) xs = All-weaker (IsBehind key same f at In head) (IsAt key same f at In) (λ e h. h.is_at) xs behind in
          runs_by (map head all ++ map f xs) (run_of key same f at head xs) (All-append HasKey (map head all) (map f xs) (All-map HasKey head all (All-weaker In (λ i. HasKey (head i)) (λ i inside. (i, inside, head_key i)) all keyed.each)) (have_keys xs all_at)) (own_run xs behind)

  -- a pair for each item alone
  pub sorted_heads : (head : I → Pair) → ((i : I) → (head i).0 ≡ key i) → (r : ℕ) → sorted_pairs (of_part reducers r (map head all)) ≡ map head (part_items key all reducers r)
  sorted_heads head head_key r =
      let none : All (IsBehind key same head (λ i. i) In head) [] = All-nil (IsBehind key same head (λ i. i) In head) in
      ap (λ ps. sorted_pairs (of_part reducers r ps)) (sym (append-nil (map head all))) ∙ runs_behind_heads head (λ i. i) head head_key [] none r ∙ flat_map_single head (part_items key all reducers r)
