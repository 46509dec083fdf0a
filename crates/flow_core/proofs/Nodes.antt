-- The nodes as items with decimal keys.
use Rattle.std.proofs.Common.{◌≡◌, ◌≢◌, sym, ap, ◌∙◌, ℕ, zero, suc, ◌+◌, ◌<◌, ◌≤◌, ◌^◌, eqb, leb, List, ◌++◌, map, decimal, inl, inr, arith}
use Rattle.std.specs.Str.{bytes_eq}
use Rattle.std.specs.List.{All, flat_map, range_with_len}
use Rattle.std.specs.List.Sorted.{IsPermutation}
use Rattle.std.proofs.lemmas.Bool.{le-leb, leb-true, leb-false, cases_eq, eq-eqb, eqb-true, ne_eqb, false_from_ne_true}
use Rattle.std.proofs.lemmas.Slice.Eq.{bytes_eq-Decides}
use Rattle.std.proofs.lemmas.List.Elements.{All-weaker}
use Rattle.peg_text.specs.Decimal.{decimal_of}
use Rattle.peg_text.proofs.DecimalLemmas.{decimals_read_back}
use Rattle.pairs.proofs.Sorting.{IsOrder}
use Rattle.pairs.specs.Pairs.{Pair, sorted_pairs}
use Rattle.partition.specs.Hash.{part_among}
use Rattle.spill.specs.Runs.{of_part}
use Rattle.list_laws.proofs.Ranges.{all_below, all_in_range, once_in_range}
use Rattle.flow_core.proofs.Keys.{Apart, ApartNone, ApartMore, Climbs}
use Rattle.flow_core.proofs.Items.{AreKeyed, IsAt, IsBehind, items_of, sorted_of, run_of, sorted_of_permuted, sorted_of_all, part_items, items_in, items_climb, all_items, runs_of_items, items_by_item, runs_behind_heads, sorted_heads}

pub decimal_tells : (i j : ℕ) → i < 2 ^ 64 → j < 2 ^ 64 → decimal i ≡ decimal j → i ≡ j
decimal_tells i j small low same =
    let one = decimals_read_back i small in let other = decimals_read_back j low in let both = ap decimal_of same in cc

same_key : (i j : ℕ) → i < 2 ^ 64 → j < 2 ^ 64 → bytes_eq (decimal i) (decimal j) ≡ eqb i j
same_key i j small low =
    elim (cases_eq i j) [
      | inl is ↦ (bytes_eq-Decides (decimal i) (decimal j)).1 (ap decimal is) ∙ sym (eq-eqb i j is)
      | inr isnt ↦ false_from_ne_true (bytes_eq (decimal i) (decimal j)) (λ same. isnt (decimal_tells i j small low ((bytes_eq-Decides (decimal i) (decimal j)).0 same))) ∙ sym (ne_eqb i j isnt)
    ]

range_apart : (a n : ℕ) → a + n ≤ 2 ^ 64 → Apart decimal (range_with_len a n)
range_apart a zero small = ApartNone
range_apart a (suc n) small =
    ApartMore a (range_with_len (a + 1) n) (All-weaker (λ i. (a + 1 ≤ i) × (i < (a + 1) + n)) (λ i. decimal a ≢ decimal i) (λ i h. λ same. let is = decimal_tells a i (omega arith) (omega (arith, h.1)) same in omega (arith, h.0)) (range_with_len (a + 1) n) (all_in_range (a + 1) n)) (range_apart (a + 1) n (omega arith))

-- the numbers below n, by their decimals
pub nodes_keyed : (n : ℕ) → n ≤ 2 ^ 64 → AreKeyed decimal eqb (λ i. i < n) (range_with_len 0 n)
nodes_keyed n small = record {
  each = all_below n (λ i. i < n) (λ i low. low);
  once = λ j low. once_in_range j 0 n (omega arith) (omega arith);
  tells = λ i j low other. same_key i j (omega arith) (omega arith);
  is = λ i j. eqb-true i j;
  apart = range_apart 0 n (omega arith);
}

-- numbers in their order
pub leb_order : IsOrder leb
leb_order = record {
  total = λ x y fails. le-leb y x (omega (arith, leb-false x y fails));
  same = λ x y one other. omega (arith, leb-true x y one, leb-true y x other);
  further = λ x y z one other. le-leb x z (omega (arith, leb-true x y one, leb-true y z other));
}

-- ---- the words and lemmas of items, for nodes

abbrev pub part_nodes : ℕ → ℕ → ℕ → List ℕ
part_nodes reducers n r = part_items decimal (range_with_len 0 n) reducers r

module _ (reducers n : ℕ) (small : n ≤ 2 ^ 64) where
  pub nodes_in : (r : ℕ) → All (λ i. (i < n) × (part_among (decimal i) reducers ≡ r)) (part_nodes reducers n r)
  nodes_in = items_in decimal eqb (λ i. i < n) (range_with_len 0 n) (nodes_keyed n small) reducers

  pub nodes_climb : (r : ℕ) → Climbs decimal (part_nodes reducers n r)
  nodes_climb = items_climb decimal eqb (λ i. i < n) (range_with_len 0 n) (nodes_keyed n small) reducers

  pub all_nodes : 1 ≤ reducers → IsPermutation (range_with_len 0 n) (flat_map (part_nodes reducers n) (range_with_len 0 reducers))
  all_nodes = all_items decimal eqb (λ i. i < n) (range_with_len 0 n) (nodes_keyed n small) reducers

  pub sorted_nodes : (f : ℕ → Pair) → ((i : ℕ) → (f i).0 ≡ decimal i) → (r : ℕ) → sorted_pairs (of_part reducers r (map f (range_with_len 0 n))) ≡ map f (part_nodes reducers n r)
  sorted_nodes = sorted_heads decimal eqb (λ i. i < n) (range_with_len 0 n) (nodes_keyed n small) reducers

module _ {E : Type 0} (f : E → Pair) (at : E → ℕ) where
  abbrev pub items_at : List E → ℕ → List E
  items_at = items_of decimal eqb f at

  abbrev pub sorted_at : List E → ℕ → List E
  sorted_at = sorted_of decimal eqb f at

  abbrev pub run_at : (ℕ → Pair) → List E → ℕ → List Pair
  run_at = run_of decimal eqb f at

  abbrev pub IsAtNode : ℕ → E → Type 0
  IsAtNode n = IsAt decimal eqb f at (λ i. i < n)

  abbrev pub IsBehindNode : ℕ → (ℕ → Pair) → E → Type 0
  IsBehindNode n head = IsBehind decimal eqb f at (λ i. i < n) head

  pub sorted_at_permuted : (xs : List E) (i : ℕ) → IsPermutation (items_at xs i) (sorted_at xs i)
  sorted_at_permuted = sorted_of_permuted decimal eqb f at

  pub sorted_at_all : (P : E → Type 0) (xs : List E) (i : ℕ) → All P xs → All (λ e. (at e ≡ i) × P e) (sorted_at xs i)
  sorted_at_all = sorted_of_all decimal eqb f at (λ i j. eqb-true i j)

  pub items_by_node : (n : ℕ) → n ≤ 2 ^ 64 → (xs : List E) → All (λ e. at e < n) xs → IsPermutation xs (flat_map (sorted_at xs) (range_with_len 0 n))
  items_by_node n small = items_by_item decimal eqb (λ i. i < n) (range_with_len 0 n) (nodes_keyed n small) 1 f at

  pub runs_of_nodes : (reducers n : ℕ) → n ≤ 2 ^ 64 → (xs : List E) → All (IsAtNode n) xs → (r : ℕ) → sorted_pairs (of_part reducers r (map f xs)) ≡ flat_map (λ i. map f (sorted_at xs i)) (part_nodes reducers n r)
  runs_of_nodes reducers n small = runs_of_items decimal eqb (λ i. i < n) (range_with_len 0 n) (nodes_keyed n small) reducers f at

  pub runs_at_nodes : (reducers n : ℕ) → n ≤ 2 ^ 64 → (head : ℕ → Pair) → ((i : ℕ) → (head i).0 ≡ decimal i) → (xs : List E) → All (IsBehindNode n head) xs → (r : ℕ)
      → sorted_pairs (of_part reducers r (map head (range_with_len 0 n) ++ map f xs)) ≡ flat_map (run_at head xs) (part_nodes reducers n r)
  runs_at_nodes reducers n small = runs_behind_heads decimal eqb (λ i. i < n) (range_with_len 0 n) (nodes_keyed n small) reducers f at
