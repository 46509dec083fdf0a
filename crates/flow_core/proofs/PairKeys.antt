-- Pairs of numbers as items, with two decimals and a dot between them as the key.
use Rattle.std.proofs.Common.{◌≡◌, ◌≢◌, refl, sym, ap, ◌∙◌, Bool, true, false, ◌&&◌, cond, eqb, leb, ℕ, zero, suc, ◌+◌, ◌<◌, ◌≤◌, ◌^◌, List, [], ◌∷◌, ◌++◌, map, decimal, inl, inr, arith}
use Rattle.std.specs.Str.{bytes_eq}
use Rattle.std.specs.Char.{is_ascii_digit}
use Rattle.std.specs.List.{All, filter, flat_map, range_with_len, list_all}
use Rattle.std.proofs.lemmas.Bool.{cases_Bool, and_parts, and_from, leb-true, eqb-true, eq-eqb, false_from_ne_true}
use Rattle.std.proofs.lemmas.Slice.Eq.{bytes_eq-Decides}
use Rattle.std.proofs.lemmas.List.Elements.{All-nil, All-cons, All-head, All-tail, All-weaker, All-map, All-append}
use Rattle.gimv_core.proofs.DecimalTexts.{decimal_digits}
use Rattle.list_laws.proofs.Alls.{all_flat_map}
use Rattle.list_laws.proofs.Ranges.{all_in_range, once_in_range, all_below}
use Rattle.list_laws.proofs.Filters.{filter-map, filter_none, flat_map_if, filter-flat_map}
use Rattle.list_laws.proofs.Images.{flat_map_agree}
use Rattle.flow_core.proofs.Keys.{Apart, ApartNone, ApartMore}
use Rattle.flow_core.proofs.Nodes.{decimal_tells}
use Rattle.flow_core.proofs.Items.{AreKeyed}

-- `J.I`
abbrev pub dotted : ℕ × ℕ → List ℕ
dotted p = decimal p.0 ++ (46 ∷ decimal p.1)

abbrev pub same_pair : ℕ × ℕ → ℕ × ℕ → Bool
same_pair p q = eqb p.0 q.0 && eqb p.1 q.1

abbrev pub both_below : ℕ → ℕ × ℕ → Type 0
both_below n p = (p.0 < n) × (p.1 < n)

abbrev pub row_of_pairs : ℕ → ℕ → List (ℕ × ℕ)
row_of_pairs n j = map (λ i. (j, i)) (range_with_len 0 n)

abbrev pub all_pairs : ℕ → List (ℕ × ℕ)
all_pairs n = flat_map (row_of_pairs n) (range_with_len 0 n)

-- ---- a dot ends the digits

abbrev pub NoDot : List ℕ → Type 0
NoDot text = All (λ b. b ≢ 46) text

pub digits_no_dot : (text : List ℕ) → list_all is_ascii_digit text ≡ true → NoDot text
digits_no_dot [] is = All-nil (λ b. b ≢ 46)
digits_no_dot (b ∷ bs) is =
    let parts = and_parts (is_ascii_digit b) (list_all is_ascii_digit bs) is in
    let low = leb-true 48 b (and_parts (leb 48 b) (leb b 57) parts.0).0 in
    All-cons (λ b. b ≢ 46) b bs (λ dot. omega arith) (digits_no_dot bs parts.1)

tail_of : (a b : ℕ) (xs ys : List ℕ) → a ∷ xs ≡ b ∷ ys → (a ≡ b) × (xs ≡ ys)
tail_of a b xs ys e = (cc, cc)

dot_splits : (xs ys us vs : List ℕ) → NoDot xs → NoDot ys → xs ++ (46 ∷ us) ≡ ys ++ (46 ∷ vs) → (xs ≡ ys) × (us ≡ vs)
dot_splits [] [] us vs clean other e = (refl, (tail_of 46 46 us vs e).1)
dot_splits [] (y ∷ ys) us vs clean other e = absurd (All-head (λ b. b ≢ 46) y ys other (sym (tail_of 46 y us (ys ++ (46 ∷ vs)) e).0))
dot_splits (x ∷ xs) [] us vs clean other e = absurd (All-head (λ b. b ≢ 46) x xs clean (tail_of x 46 (xs ++ (46 ∷ us)) vs e).0)
dot_splits (x ∷ xs) (y ∷ ys) us vs clean other e =
    let parts = tail_of x y (xs ++ (46 ∷ us)) (ys ++ (46 ∷ vs)) e in
    let later = dot_splits xs ys us vs (All-tail (λ b. b ≢ 46) x xs clean) (All-tail (λ b. b ≢ 46) y ys other) parts.1 in
    (ap (λ (b : ℕ). b ∷ xs) parts.0 ∙ ap (λ (l : List ℕ). y ∷ l) later.0, later.1)

dotted_tells : (n : ℕ) → n ≤ 2 ^ 64 → (p q : ℕ × ℕ) → both_below n p → both_below n q → dotted p ≡ dotted q → (p.0 ≡ q.0) × (p.1 ≡ q.1)
dotted_tells n small p q low other same =
    let split = dot_splits (decimal p.0) (decimal q.0) (decimal p.1) (decimal q.1) (digits_no_dot (decimal p.0) (decimal_digits p.0 (omega (arith, low.0)))) (digits_no_dot (decimal q.0) (decimal_digits q.0 (omega (arith, other.0)))) same in
    (decimal_tells p.0 q.0 (omega (arith, low.0)) (omega (arith, other.0)) split.0, decimal_tells p.1 q.1 (omega (arith, low.1)) (omega (arith, other.1)) split.1)

pub pair_is : (p q : ℕ × ℕ) → same_pair p q ≡ true → p ≡ q
pair_is p q same =
    let parts = and_parts (eqb p.0 q.0) (eqb p.1 q.1) same in
    ap (λ (j : ℕ). (j, p.1)) (eqb-true p.0 q.0 parts.0) ∙ ap (λ (i : ℕ). (q.0, i)) (eqb-true p.1 q.1 parts.1)

pair_tells : (n : ℕ) → n ≤ 2 ^ 64 → (p q : ℕ × ℕ) → both_below n p → both_below n q → bytes_eq (dotted p) (dotted q) ≡ same_pair p q
pair_tells n small p q low other =
    elim (cases_Bool (same_pair p q)) [
      | inl is ↦ (bytes_eq-Decides (dotted p) (dotted q)).1 (ap dotted (pair_is p q is)) ∙ sym is
      | inr isnt ↦
          false_from_ne_true (bytes_eq (dotted p) (dotted q)) (λ same.
          let parts = dotted_tells n small p q low other ((bytes_eq-Decides (dotted p) (dotted q)).0 same) in
          let is : same_pair p q ≡ true = and_from (eqb p.0 q.0) (eqb p.1 q.1) (eq-eqb p.0 q.0 parts.0) (eq-eqb p.1 q.1 parts.1) in
          cc) ∙ sym isnt
    ]

-- ---- each pair is there once

pairs_below : (n : ℕ) → All (both_below n) (all_pairs n)
pairs_below n =
    all_flat_map (both_below n) (row_of_pairs n) (range_with_len 0 n) (all_below n (λ j. All (both_below n) (row_of_pairs n j)) (λ j low. All-map (both_below n) (λ i. (j, i)) (range_with_len 0 n) (all_below n (λ i. both_below n (j, i)) (λ i other. (low, other)))))

once_in_row : (n : ℕ) (p : ℕ × ℕ) (j : ℕ) → p.1 < n → filter (same_pair p) (row_of_pairs n j) ≡ cond (eqb p.0 j) (p ∷ []) []
once_in_row n p j low =
    elim (cases_Bool (eqb p.0 j)) [
      | inl is ↦
          filter-map (same_pair p) (λ i. (j, i)) (range_with_len 0 n)
          ∙ ap (map (λ (i : ℕ). (j, i))) (ap (λ (b : Bool). filter (λ i. b && eqb p.1 i) (range_with_len 0 n)) is ∙ once_in_range p.1 0 n (omega arith) (omega arith))
          ∙ ap (λ (k : ℕ). (k, p.1) ∷ []) (sym (eqb-true p.0 j is)) ∙ ap (λ (b : Bool). cond b (p ∷ []) []) (sym is)
      | inr isnt ↦
          filter-map (same_pair p) (λ i. (j, i)) (range_with_len 0 n)
          ∙ ap (map (λ (i : ℕ). (j, i))) (ap (λ (b : Bool). filter (λ i. b && eqb p.1 i) (range_with_len 0 n)) isnt ∙ filter_none (λ i. false) (range_with_len 0 n) (all_below n (λ i. false ≡ false) (λ i _. refl)))
          ∙ ap (λ (b : Bool). cond b (p ∷ []) []) (sym isnt)
    ]

pair_once : (n : ℕ) (p : ℕ × ℕ) → both_below n p → filter (same_pair p) (all_pairs n) ≡ p ∷ []
pair_once n p low =
    filter-flat_map (same_pair p) (row_of_pairs n) (range_with_len 0 n)
    ∙ flat_map_agree (λ j. filter (same_pair p) (row_of_pairs n j)) (λ j. cond (eqb p.0 j) (p ∷ []) []) (range_with_len 0 n) (all_below n (λ j. filter (same_pair p) (row_of_pairs n j) ≡ cond (eqb p.0 j) (p ∷ []) []) (λ j _. once_in_row n p j low.1))
    ∙ flat_map_if (λ j. eqb p.0 j) p (range_with_len 0 n) ∙ ap (map (λ (j : ℕ). p)) (once_in_range p.0 0 n (omega arith) (omega (arith, low.0)))

-- ---- all keys differ

apart_append : {I : Type 0} (key : I → List ℕ) (xs ys : List I) → Apart key xs → Apart key ys → All (λ x. All (λ y. key x ≢ key y) ys) xs → Apart key (xs ++ ys)
apart_append key [] ys ApartNone back all = back
apart_append key (x ∷ xs) ys (ApartMore _ _ apart front) back all =
    ApartMore x (xs ++ ys) (All-append (λ y. key x ≢ key y) xs ys apart (All-head (λ z. All (λ y. key z ≢ key y) ys) x xs all)) (apart_append key xs ys front back (All-tail (λ z. All (λ y. key z ≢ key y) ys) x xs all))

row_apart : (n j : ℕ) → n ≤ 2 ^ 64 → j < n → (a m : ℕ) → a + m ≤ n → Apart dotted (map (λ i. (j, i)) (range_with_len a m))
row_apart n j small low a zero few = ApartNone
row_apart n j small low a (suc m) few =
    ApartMore (j, a) (map (λ i. (j, i)) (range_with_len (a + 1) m)) (All-map (λ q. dotted (j, a) ≢ dotted q) (λ i. (j, i)) (range_with_len (a + 1) m) (All-weaker (λ i. (a + 1 ≤ i) × (i < (a + 1) + m)) (λ i. dotted (j, a) ≢ dotted (j, i)) (λ i h. λ same. let parts = dotted_tells n small (j, a) (j, i) (low, omega arith) (low, omega (arith, h.1)) same in omega (arith, parts.1, h.0)) (range_with_len (a + 1) m) (all_in_range (a + 1) m))) (row_apart n j small low (a + 1) m (omega arith))

rows_apart : (n : ℕ) → n ≤ 2 ^ 64 → (a m : ℕ) → a + m ≤ n → Apart dotted (flat_map (row_of_pairs n) (range_with_len a m))
rows_apart n small a zero few = ApartNone
rows_apart n small a (suc m) few =
    let later = flat_map (row_of_pairs n) (range_with_len (a + 1) m) in
    let above : All (λ q. (a + 1 ≤ q.0) × both_below n q) later =
    all_flat_map (λ q. (a + 1 ≤ q.0) × both_below n q) (row_of_pairs n) (range_with_len (a + 1) m) (All-weaker (λ j. (a + 1 ≤ j) × (j < (a + 1) + m)) (λ j. All (λ q. (a + 1 ≤ q.0) × both_below n q) (row_of_pairs n j)) (λ j h. All-map (λ q. (a + 1 ≤ q.0) × both_below n q) (λ i. (j, i)) (range_with_len 0 n) (all_below n (λ i. (a + 1 ≤ j) × both_below n (j, i)) (λ i low. (h.0, (omega (arith, h.1), low))))) (range_with_len (a + 1) m) (all_in_range (a + 1) m)) in
    apart_append dotted (row_of_pairs n a) later (row_apart n a small (omega arith) 0 n (omega arith)) (rows_apart n small (a + 1) m (omega arith))
    (All-map (λ p. All (λ q. dotted p ≢ dotted q) later) (λ i. (a, i)) (range_with_len 0 n) (all_below n (λ i. All (λ q. dotted (a, i) ≢ dotted q) later) (λ i low. All-weaker (λ q. (a + 1 ≤ q.0) × both_below n q) (λ q. dotted (a, i) ≢ dotted q) (λ q h. λ same. let parts = dotted_tells n small (a, i) q (omega arith, low) h.1 same in omega (arith, parts.0, h.0)) later above)))

pub pairs_keyed : (n : ℕ) → n ≤ 2 ^ 64 → AreKeyed dotted same_pair (both_below n) (all_pairs n)
pairs_keyed n small = record {
  each = pairs_below n;
  once = pair_once n;
  tells = pair_tells n small;
  is = pair_is;
  apart = rows_apart n small 0 n (omega arith);
}
