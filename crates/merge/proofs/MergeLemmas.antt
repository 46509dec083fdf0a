-- What one pair more leaves to be merged.
use Rattle.std.proofs.Common.{◌≡◌, ◌∙◌, ap, sym, refl, subst, ℕ, zero, suc, ◌<◌, true, List, [], ◌∷◌, ◌++◌, length, get_or, set, arith}
use Rattle.std.specs.List.{All}
use Rattle.std.specs.List.Sorted.{IsPermutation}
use Rattle.std.proofs.lemmas.List.Elements.{All-nil, All-cons, All-head, All-tail, All-append}
use Rattle.std.proofs.lemmas.List.Sorted.{All-permutation, IsPermutation-refl, IsPermutation-trans, IsPermutation-middle, IsPermutation-append_right, length_permutation}
use Rattle.pairs.specs.Pairs.{Pair, pair_before, IsInOrder, sorted_pairs}
use Rattle.pairs.proofs.Sorting.{Rises, RisesNone, RisesMore}
use Rattle.pairs.proofs.PairLemmas.{pair_order, rises_from_in_order, in_order_from_rises, permutations_sort_alike, least_comes_first}
use Rattle.merge.specs.Sources.{all_of}

-- ---- one list

-- no pair that is before the first one of a list is behind another one of it
before_rising : (least p : Pair) (ps : List Pair) → pair_before least p ≡ true → Rises pair_before (p ∷ ps) → All (λ q. pair_before least q ≡ true) (p ∷ ps)
before_rising least p [] first rises =
    All-cons (λ q. pair_before least q ≡ true) p [] first (All-nil (λ q. pair_before least q ≡ true))
before_rising least p (q ∷ ps) first (RisesMore a b cs pq rest) =
    All-cons (λ r. pair_before least r ≡ true) p (q ∷ ps) first (before_rising least q ps (pair_order.further least p q first pq) rest)

rising_rest : (p : Pair) (ps : List Pair) → Rises pair_before (p ∷ ps) → Rises pair_before ps
rising_rest p [] rises = RisesNone
rising_rest p (q ∷ ps) (RisesMore a b cs pq rest) = rest

pub in_order_rest : (p : Pair) (ps : List Pair) → IsInOrder (p ∷ ps) → IsInOrder ps
in_order_rest p ps ordered =
    in_order_from_rises ps (rising_rest p ps (rises_from_in_order (p ∷ ps) ordered))

-- ---- all lists

-- a pair is before the first one of each list
abbrev pub IsBeforeAll : Pair → List (List Pair) → Type 0
IsBeforeAll least lists =
    (k : ℕ) (p : Pair) (ps : List Pair) → k < length lists → get_or lists k [] ≡ p ∷ ps → pair_before least p ≡ true

before_list : (least : Pair) (list : List Pair) → IsInOrder list → ((p : Pair) (ps : List Pair) → list ≡ p ∷ ps → pair_before least p ≡ true) → All (λ q. pair_before least q ≡ true) list
before_list least [] ordered first = All-nil (λ q. pair_before least q ≡ true)
before_list least (p ∷ ps) ordered first =
    before_rising least p ps (first p ps refl) (rises_from_in_order (p ∷ ps) ordered)

before_all : (least : Pair) (lists : List (List Pair)) → All IsInOrder lists → IsBeforeAll least lists → All (λ q. pair_before least q ≡ true) (all_of lists)
before_all least [] ordered first = All-nil (λ q. pair_before least q ≡ true)
before_all least (list ∷ lists) ordered first =
    All-append (λ q. pair_before least q ≡ true) list (all_of lists) (before_list least list (All-head IsInOrder list lists ordered) (λ p ps is. first 0 p ps (omega arith) is)) (before_all least lists (All-tail IsInOrder list lists ordered) (λ k p ps inside is. first (suc k) p ps (omega arith) is))

-- the first pair of a list comes out
taken_out : (lists : List (List Pair)) (at : ℕ) (p : Pair) (ps : List Pair) → at < length lists → get_or lists at [] ≡ p ∷ ps → IsPermutation (all_of lists) (p ∷ all_of (set lists at ps))
taken_out [] at p ps inside is = absurd (omega arith)
taken_out (list ∷ lists) zero p ps inside is =
    subst (λ (qs : List Pair). IsPermutation (qs ++ all_of lists) (p ∷ (ps ++ all_of lists))) (sym is) (IsPermutation-refl (p ∷ (ps ++ all_of lists)))
taken_out (list ∷ lists) (suc at) p ps inside is =
    let rest : List Pair = all_of (set lists at ps) in
    IsPermutation-trans (list ++ all_of lists) (list ++ (p ∷ rest)) (p ∷ (list ++ rest)) (IsPermutation-append_right list (all_of lists) (p ∷ rest) (taken_out lists at p ps (omega arith) is)) (IsPermutation-middle list p rest)

module _ (lists : List (List Pair)) (at : ℕ) (p : Pair) (ps : List Pair) (inside : at < length lists) (is : get_or lists at [] ≡ p ∷ ps) where
  pub length_taken : length (all_of lists) ≡ suc (length (all_of (set lists at ps)))
  length_taken =
      sym (length_permutation (all_of lists) (p ∷ all_of (set lists at ps)) (taken_out lists at p ps inside is))

  -- the least of all first pairs is the first one of the sorted list, and what is left makes the others
  pub merged_step : All IsInOrder lists → IsBeforeAll p lists → sorted_pairs (all_of lists) ≡ p ∷ sorted_pairs (all_of (set lists at ps))
  merged_step ordered first =
      let out = taken_out lists at p ps inside is in
      let before = All-tail (λ q. pair_before p q ≡ true) p (all_of (set lists at ps)) (All-permutation (λ q. pair_before p q ≡ true) (all_of lists) (p ∷ all_of (set lists at ps)) out (before_all p lists ordered first)) in
      permutations_sort_alike (all_of lists) (p ∷ all_of (set lists at ps)) out ∙ least_comes_first p (all_of (set lists at ps)) before

-- lists without pairs
pub none_left : (lists : List (List Pair)) → ((k : ℕ) → k < length lists → get_or lists k [] ≡ []) → all_of lists ≡ []
none_left [] none = refl
none_left (list ∷ lists) none =
    ap (λ (qs : List Pair). qs ++ all_of lists) (none 0 (omega arith)) ∙ none_left lists (λ k inside. none (suc k) (omega arith))
