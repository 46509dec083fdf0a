-- The two joins of a step, for items of any kind: each item has a record of its own, and further records come to it.
use Rattle.std.proofs.Common.{◌≡◌, refl, sym, ap, ◌∙◌, subst, Bool, ℕ, ◌≤◌, List, [], ◌∷◌, ◌++◌, map, Option, Some, None}
use Rattle.std.specs.List.{All, flat_map, range_with_len}
use Rattle.std.specs.List.Sorted.{IsPermutation}
use Rattle.std.proofs.lemmas.List.Elements.{All-cons, All-head, All-tail, All-weaker, All-map, All-append}
use Rattle.std.proofs.lemmas.List.Sorted.{IsPermutation-sym, IsPermutation-trans}
use Rattle.partition.specs.Hash.{part_among}
use Rattle.spill.specs.Runs.{of_part}
use Rattle.gimv_base.specs.Parts.{Part, written, after}
use Rattle.gimv_base.specs.Rules.{groups_of, by_group}
use Rattle.gimv_base.specs.Lines.{with_lf}
use Rattle.gimv_base.specs.BaseRules.{Reading, read_first, read_all, head_part, headed, unless_bad, no_text}
use Rattle.pairs.specs.Pairs.{Pair, pair_before, IsPlain, pairs_text, sorted_pairs}
use Rattle.pairs.proofs.Sorting.{IsOrder}
use Rattle.list_laws.proofs.Alls.{all_each, all_flat_map}
use Rattle.list_laws.proofs.Images.{flat_map_agree, flat_map-flat_map}
use Rattle.std.proofs.lemmas.List.Folds.{flat_map-map}
use Rattle.std.proofs.lemmas.List.Concat.{flat_map_single}
use Rattle.list_laws.proofs.Orders.{permuted_flat, in_order_flat}
use Rattle.list_laws.proofs.Permutations.{permuted_apart, permuted_each}
use Rattle.list_laws.proofs.Classes.{made_by_class}
use Rattle.list_laws.specs.Classes.{IsOnce}
use Rattle.flow_core.specs.Holding.{record_of}
use Rattle.flow_core.proofs.Groups.{Writes, by_group-runs}
use Rattle.flow_core.proofs.Items.{AreKeyed, IsBehind, items_of, sorted_of, run_of, sorted_of_all, part_items, items_in, items_climb, all_items, runs_behind_heads}
use Rattle.flow_core.proofs.Records.{pairs_text-flat}

-- a further record stands behind its item's own one, and is read where that one is known
pub record Joins {I X E Y : Type 0} (key : I → List ℕ) (same : I → I → Bool) (In : I → Type 0) (head : I → Pair) (x : I → X) (f : E → Pair) (at : E → I) (y : E → Y) (kind : X → List ℕ → Option Y) (e : E) : Type 0 where
  pub behind : IsBehind key same f at In head e
  pub plain : IsPlain (f e)
  pub reads : kind (x (at e)) (record_of (f e)) ≡ Some (y e)

-- what a role gives for the records of a group behind its first one, where all of them are read
abbrev pub WritesWhole : {X Y : Type 0} → (X → List ℕ → Option Y) → (X → List (List ℕ) → Part) → (X → List Y → List ℕ) → Type 0
WritesWhole {X} {Y} kind part out =
    (v : X) (rs : List (List ℕ)) (ys : List Y) → read_all (kind v) rs ≡ record { items = ys; bad = None } → part v rs ≡ written (out v ys)

-- a role that writes one text from an item's own record and all further ones
abbrev pub second_rule : {X Y : Type 0} → (List ℕ → Option X) → (X → List ℕ → Option Y) → (X → List Y → List ℕ) → List (List ℕ) → Part
second_rule read_head kind new = headed read_head no_text (λ v rs. let read = read_all (kind v) rs in unless_bad read.bad (new v read.items))

module _ {I : Type 0} (key : I → List ℕ) (same : I → I → Bool) (In : I → Type 0) (all : List I) (keyed : AreKeyed key same In all)
    (head : I → Pair) (head_key : (i : I) → (head i).0 ≡ key i) {X : Type 0} (x : I → X) (read_head : List ℕ → Option X)
    (head_good : (i : I) → In i → IsPlain (head i) × (read_head (record_of (head i)) ≡ Some (x i)))
    {E Y : Type 0} (f : E → Pair) (at : E → I) (y : E → Y) (kind : X → List ℕ → Option Y) where
  abbrev pub Joined : E → Type 0
  Joined = Joins key same In head x f at y kind

  pub read_back : (i : I) (es : List E) → All (λ e. (at e ≡ i) × Joined e) es → read_all (kind (x i)) (map record_of (map f es)) ≡ record { items = map y es; bad = None }
  read_back i [] joins = refl
  read_back i (e ∷ es) joins =
      let here = All-head (λ d. (at d ≡ i) × Joined d) e es joins in
      let reads : kind (x i) (record_of (f e)) ≡ Some (y e) = subst (λ (j : I). kind (x j) (record_of (f e)) ≡ Some (y e)) here.0 here.1.reads in
      ap (λ found. read_first found (read_all (kind (x i)) (map record_of (map f es)))) reads ∙ ap (read_first (Some (y e))) (read_back i es (All-tail (λ d. (at d ≡ i) × Joined d) e es joins))

  module _ (xs : List E) (joins : All Joined xs) where
    abbrev pub mine : I → List E
    mine = sorted_of key same f at xs

    abbrev pub run : I → List Pair
    run = run_of key same f at head xs

    pub mine_all : (i : I) → All (λ e. (at e ≡ i) × Joined e) (mine i)
    mine_all i = sorted_of_all key same f at keyed.is Joined xs i joins

    run_keyed : (i : I) → In i → All (λ (p : Pair). (p.0 ≡ key i) × IsPlain p) (run i)
    run_keyed i inside =
        All-cons (λ (p : Pair). (p.0 ≡ key i) × IsPlain p) (head i) (map f (mine i)) (head_key i, (head_good i inside).0) (All-map (λ (p : Pair). (p.0 ≡ key i) × IsPlain p) f (mine i) (All-weaker (λ e. (at e ≡ i) × Joined e) (λ e. ((f e).0 ≡ key i) × IsPlain (f e)) (λ e h. (h.1.behind.is_at.has_key ∙ ap key h.0, h.1.plain)) (mine i) (mine_all i)))

    -- what a role writes whose groups write this
    pub grouped : (rule : List (List ℕ) → Part) (out : I → List ℕ) → ((i : I) → In i → rule (map record_of (run i)) ≡ written (out i)) → (reducers r : ℕ)
        → by_group rule (groups_of (map record_of (sorted_pairs (of_part reducers r (map head all ++ map f xs))))) ≡ written (flat_map out (part_items key all reducers r))
    grouped rule out writes reducers r =
        ap (λ (ps : List Pair). by_group rule (groups_of (map record_of ps))) (runs_behind_heads key same In all keyed reducers f at head head_key xs (All-weaker Joined (IsBehind key same f at In head) (λ e j. j.behind) xs joins) r)
        ∙ by_group-runs key rule run out (part_items key all reducers r) (items_climb key same In all keyed reducers r) (All-weaker (λ i. In i × (part_among (key i) reducers ≡ r)) (Writes key rule run out) (λ i h. record { keyed = run_keyed i h.0; is = writes i h.0 }) (part_items key all reducers r) (items_in key same In all keyed reducers r))

    -- ---- the first join: each item's own record, and what it sends, which may hang on all further ones

    module _ (part : X → List (List ℕ) → Part) (out : X → List Y → List ℕ) (writes : WritesWhole kind part out)
        (sends : I → List Pair) (passes : (i : I) → In i → (out (x i) (map y (mine i)) ≡ pairs_text (sends i)) × All IsPlain (sends i)) where
      -- what is written of an item
      abbrev pub passed_on : I → List Pair
      passed_on i = head i ∷ sends i

      first_group : (i : I) → In i → headed read_head with_lf part (map record_of (run i)) ≡ written (pairs_text (passed_on i))
      first_group i inside =
          let text = with_lf (record_of (head i)) in
          let rs = map record_of (map f (mine i)) in
          ap (λ found. head_part found text part rs) (head_good i inside).1
          ∙ ap (after text 1) (writes (x i) rs (map y (mine i)) (read_back i (mine i) (mine_all i)) ∙ ap written (passes i inside).0)

      pub first_writes : (reducers r : ℕ) → by_group (headed read_head with_lf part) (groups_of (map record_of (sorted_pairs (of_part reducers r (map head all ++ map f xs)))))
          ≡ written (pairs_text (flat_map passed_on (part_items key all reducers r)))
      first_writes reducers r =
          grouped (headed read_head with_lf part) (λ i. pairs_text (passed_on i)) first_group reducers r ∙ ap written (pairs_text-flat passed_on (part_items key all reducers r))

      -- in all parts together: each item's own pair, and all that is sent
      pub first_all : {before : I → I → Bool} → IsOrder before → (reducers : ℕ) → 1 ≤ reducers
          → IsPermutation (flat_map (λ r. flat_map passed_on (part_items key all reducers r)) (range_with_len 0 reducers)) (map head all ++ flat_map sends all)
      first_all {before} order reducers some =
          let parts = range_with_len 0 reducers in
          let flat = flat_map (part_items key all reducers) parts in
          let own : I → List Pair = λ i. head i ∷ [] in
          let one : IsPermutation (flat_map passed_on flat) (flat_map passed_on all) = permuted_flat before passed_on order flat all (IsPermutation-sym all flat (all_items key same In all keyed reducers some)) in
          let two : IsPermutation (flat_map passed_on all) (flat_map own all ++ flat_map sends all) = permuted_apart own sends all in
          let three : flat_map own all ++ flat_map sends all ≡ map head all ++ flat_map sends all = ap (λ (ps : List Pair). ps ++ flat_map sends all) (flat_map_single head all) in
          subst (λ zs. IsPermutation zs (map head all ++ flat_map sends all)) (flat_map-flat_map passed_on (part_items key all reducers) parts)
          (IsPermutation-trans (flat_map passed_on flat) (flat_map passed_on all) (map head all ++ flat_map sends all) one (subst (λ zs. IsPermutation (flat_map passed_on all) zs) three two))

      pub first_plain : All IsPlain (map head all ++ flat_map sends all)
      first_plain =
          All-append IsPlain (map head all) (flat_map sends all) (All-map IsPlain head all (All-weaker In (λ i. IsPlain (head i)) (λ i inside. (head_good i inside).0) all keyed.each))
          (all_flat_map IsPlain sends all (All-weaker In (λ i. All IsPlain (sends i)) (λ i inside. (passes i inside).1) all keyed.each))

    -- ---- where each further record is passed on by itself

    module _ (line : X → Y → List ℕ) (g : E → List Pair) (each : All (λ e. (line (x (at e)) (y e) ≡ pairs_text (g e)) × All IsPlain (g e)) xs) where
      abbrev Passes : E → Type 0
      Passes e = (line (x (at e)) (y e) ≡ pairs_text (g e)) × All IsPlain (g e)

      -- what an item sends then
      abbrev pub sends_each : I → List Pair
      sends_each i = flat_map g (mine i)

      mine_passes : (i : I) → All (λ e. (at e ≡ i) × Passes e) (mine i)
      mine_passes i = sorted_of_all key same f at keyed.is Passes xs i each

      pub passes_each : (i : I) → In i → (flat_map (line (x i)) (map y (mine i)) ≡ pairs_text (sends_each i)) × All IsPlain (sends_each i)
      passes_each i inside = (
        flat_map-map (line (x i)) y (mine i)
            ∙ flat_map_agree (λ e. line (x i) (y e)) (λ e. pairs_text (g e)) (mine i) (All-weaker (λ e. (at e ≡ i) × Passes e) (λ e. line (x i) (y e) ≡ pairs_text (g e)) (λ e h. ap (λ (j : I). line (x j) (y e)) (sym h.0) ∙ h.1.0) (mine i) (mine_passes i))
            ∙ pairs_text-flat g (mine i),
        all_flat_map IsPlain g (mine i) (All-weaker (λ e. (at e ≡ i) × Passes e) (λ e. All IsPlain (g e)) (λ e h. h.1.1) (mine i) (mine_passes i)),
      )

      pub sends_all : IsPermutation (flat_map sends_each all) (flat_map g xs)
      sends_all =
          let by_items : IsPermutation (flat_map g xs) (flat_map (λ i. flat_map g (items_of key same f at xs i)) all) = made_by_class (λ e i. same (at e) i) g all xs (All-weaker Joined (λ e. IsOnce (λ i. same (at e) i) all) (λ e j. record { one = at e; is = keyed.once (at e) j.behind.is_at.inside }) xs joins) in
          IsPermutation-sym (flat_map g xs) (flat_map sends_each all) (IsPermutation-trans (flat_map g xs) (flat_map (λ i. flat_map g (items_of key same f at xs i)) all) (flat_map sends_each all) by_items (permuted_each (λ i. flat_map g (items_of key same f at xs i)) sends_each all (all_each (λ i. IsPermutation (flat_map g (items_of key same f at xs i)) (sends_each i)) (λ i. in_order_flat (λ d e. pair_before (f d) (f e)) g (items_of key same f at xs i)) all)))

    -- ---- the second join: what an item makes of all that comes to it

    module _ (new : X → List Y → List ℕ) (out : I → List ℕ) (makes : (i : I) → In i → new (x i) (map y (mine i)) ≡ out i) where
      second_group : (i : I) → In i → second_rule read_head kind new (map record_of (run i)) ≡ written (out i)
      second_group i inside =
          ap (λ found. head_part found [] (λ (v : X) rs. let read = read_all (kind v) rs in unless_bad read.bad (new v read.items)) (map record_of (map f (mine i)))) (head_good i inside).1
          ∙ ap (λ (read : Reading Y). after [] 1 (unless_bad read.bad (new (x i) read.items))) (read_back i (mine i) (mine_all i))
          ∙ ap written (makes i inside)

      pub second_writes : (reducers r : ℕ) → by_group (second_rule read_head kind new) (groups_of (map record_of (sorted_pairs (of_part reducers r (map head all ++ map f xs))))) ≡ written (flat_map out (part_items key all reducers r))
      second_writes = grouped (second_rule read_head kind new) out second_group
