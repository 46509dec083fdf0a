-- The order of pairs, and their texts.
use Rattle.std.proofs.Common.{◌≡◌, ◌≢◌, ◌∙◌, ap, sym, refl, subst, ℕ, zero, suc, ◌+◌, true, false, List, [], ◌∷◌, ◌++◌, get_or, map, arith}
use Rattle.std.specs.Cmp.{IsTotalOrder}
use Rattle.std.specs.declared.cmp.Ordering.{Ordering}
use Rattle.std.specs.declared.cmp.Ordering.TheVariants.{Less, Equal, Greater}
use Rattle.std.specs.Ordering.{ordering_then, ordering_reverse, is_le, is_lt, is_gt, is_eq}
use Rattle.std.proofs.lemmas.Bool.{false≢true}
use Rattle.std.proofs.lemmas.Cmp.{nat_list_cmp_total, on_total, then_total, upto}
use Rattle.std.proofs.lemmas.List.{append_assoc}
use Rattle.std.proofs.lemmas.List.Elements.{All-head, All-tail, All-cons, All-append}
use Rattle.std.proofs.lemmas.List.Sorted.{All-permutation}
use Rattle.std.proofs.lemmas.Map.Lookups.{exact_bytes}
use Rattle.std.proofs.lemmas.Grind.{flat_map-append}
use Rattle.peg_text.specs.Pairs.{pair_text, pair_line, value_of}
use Rattle.peg_text.specs.Records.{records_of}
use Rattle.peg_text.proofs.PairLemmas.{pairs_split_back}
use Rattle.peg_text.proofs.RecordLemmas.{records_of-line}
use Rattle.pairs.specs.Pairs.{Pair, bytes_cmp, pair_cmp, pair_before, IsInOrder, sorted_pairs, pairs_text, pairs_in, pair_of, IsPlain}
use Rattle.pairs.specs.Laws.{SortedIsInOrder, SortedIsPermutation, PermutationsSortAlike, InOrderIsSorted, LeastComesFirst, PairsReadBack, TextsFollow}
use Rattle.pairs.proofs.Sorting.{IsOrder, Rises, RisesNone, RisesOne, RisesMore, in_order_rises, IsPermutation-in_order, in_order-IsPermutation, in_order-unique, inserted_first}

pub pair_cmp_total : IsTotalOrder pair_cmp
pair_cmp_total = then_total (on_total (λ (p : Pair). p.0) nat_list_cmp_total) (on_total (λ (p : Pair). p.1) nat_list_cmp_total)

-- ---- one ordering

le_back : (o : Ordering) → is_le o ≡ false → is_le (ordering_reverse o) ≡ true
le_back Less fails = absurd (false≢true (sym fails))
le_back Equal fails = absurd (false≢true (sym fails))
le_back Greater fails = refl

tied : (o : Ordering) → is_le o ≡ true → is_le (ordering_reverse o) ≡ true → o ≡ Equal
tied Less one other = absurd (false≢true other)
tied Equal one other = refl
tied Greater one other = absurd (false≢true one)

not_gt : (o : Ordering) → is_le o ≡ true → is_gt o ≡ false
not_gt Less le = refl
not_gt Equal le = refl
not_gt Greater le = absurd (false≢true le)

le_from_not_gt : (o : Ordering) → is_gt o ≡ false → is_le o ≡ true
le_from_not_gt Less fails = refl
le_from_not_gt Equal fails = refl
le_from_not_gt Greater fails = absurd (false≢true (sym fails))

le_from_not_lt_back : (o : Ordering) → is_lt (ordering_reverse o) ≡ false → is_le o ≡ true
le_from_not_lt_back Less fails = refl
le_from_not_lt_back Equal fails = refl
le_from_not_lt_back Greater fails = absurd (false≢true (sym fails))

not_lt_back : (o : Ordering) → is_le o ≡ true → is_lt (ordering_reverse o) ≡ false
not_lt_back Less le = refl
not_lt_back Equal le = refl
not_lt_back Greater le = absurd (false≢true le)

both_tied : (o p : Ordering) → ordering_then o p ≡ Equal → (o ≡ Equal) × (p ≡ Equal)
both_tied Less p is = absurd (false≢true (ap is_eq is))
both_tied Equal p is = (refl, is)
both_tied Greater p is = absurd (false≢true (ap is_eq is))

-- ---- the order of pairs

tied_pairs : (p q : Pair) → pair_cmp p q ≡ Equal → p ≡ q
tied_pairs p q is =
    let both = both_tied (bytes_cmp p.0 q.0) (bytes_cmp p.1 q.1) is in
    ap (λ (key : List ℕ). let r : Pair = (key, p.1) in r) (exact_bytes p.0 q.0 both.0) ∙ ap (λ (value : List ℕ). let r : Pair = (q.0, value) in r) (exact_bytes p.1 q.1 both.1)

pub pair_order : IsOrder pair_before
pair_order = record {
  total = λ p q fails. ap is_le (pair_cmp_total.antisymm q p) ∙ le_back (pair_cmp p q) fails;
  same = λ p q one other. tied_pairs p q (tied (pair_cmp p q) one (ap is_le (sym (pair_cmp_total.antisymm q p)) ∙ other));
  further = λ p q r one other. le_from_not_gt (pair_cmp p r) (upto pair_cmp_total p q r (not_gt (pair_cmp p q) one) (not_gt (pair_cmp q r) other));
}

-- ---- std's word for sorted lists

in_order_rest : (p : Pair) (ps : List Pair) → IsInOrder (p ∷ ps) → IsInOrder ps
in_order_rest p ps ordered k d low below =
    let next : suc k + 1 ≡ suc (k + 1) = omega arith in
    subst (λ (m : ℕ). is_lt (pair_cmp (get_or (p ∷ ps) m d) (get_or ps k d)) ≡ false) next (ordered (suc k) d (omega arith) (omega arith))

pub rises_from_in_order : (ps : List Pair) → IsInOrder ps → Rises pair_before ps
rises_from_in_order [] ordered = RisesNone
rises_from_in_order (p ∷ []) ordered = RisesOne p
rises_from_in_order (p ∷ q ∷ ps) ordered =
    RisesMore p q ps (le_from_not_lt_back (pair_cmp p q) (ap is_lt (sym (pair_cmp_total.antisymm q p)) ∙ ordered 0 p (omega arith) (omega arith))) (rises_from_in_order (q ∷ ps) (in_order_rest p (q ∷ ps) ordered))

pub in_order_from_rises : (ps : List Pair) → Rises pair_before ps → IsInOrder ps
in_order_from_rises [] rises k d low below = absurd (omega arith)
in_order_from_rises (p ∷ []) rises k d low below = absurd (omega arith)
in_order_from_rises (p ∷ q ∷ ps) (RisesMore a b cs pq rest) zero d low below =
    ap is_lt (pair_cmp_total.antisymm q p) ∙ not_lt_back (pair_cmp p q) pq
in_order_from_rises (p ∷ q ∷ ps) (RisesMore a b cs pq rest) (suc k) d low below =
    let next : suc (k + 1) ≡ suc k + 1 = omega arith in
    subst (λ (m : ℕ). is_lt (pair_cmp (get_or (p ∷ q ∷ ps) m d) (get_or (q ∷ ps) k d)) ≡ false) next (in_order_from_rises (q ∷ ps) rest k d (omega arith) (omega arith))

-- ---- the laws

pub sorted_is_in_order : SortedIsInOrder
sorted_is_in_order ps = in_order_from_rises (sorted_pairs ps) (in_order_rises pair_before pair_order ps)

pub sorted_is_permutation : SortedIsPermutation
sorted_is_permutation = IsPermutation-in_order pair_before pair_order

pub permutations_sort_alike : PermutationsSortAlike
permutations_sort_alike = in_order-IsPermutation pair_before pair_order

pub in_order_is_sorted : InOrderIsSorted
in_order_is_sorted ps found same ordered = in_order-unique pair_before pair_order ps found same (rises_from_in_order found ordered)

pub least_comes_first : LeastComesFirst
least_comes_first least others first =
    inserted_first pair_before pair_order least (sorted_pairs others) (All-permutation (λ (p : Pair). pair_before least p ≡ true) others (sorted_pairs others) (sorted_is_permutation others) first)

-- ---- texts

record_of_pair : (p : Pair) (rest : List ℕ) → IsPlain p → records_of (pair_line p.0 p.1 ++ rest) ≡ pair_text p.0 p.1 ∷ records_of rest
record_of_pair p rest plain =
    ap records_of (append_assoc (pair_text p.0 p.1) (10 ∷ []) rest) ∙ records_of-line (pair_text p.0 p.1) rest (All-append (λ b. b ≢ 10) p.0 (9 ∷ p.1) plain.key_lf (All-cons (λ b. b ≢ 10) 9 p.1 (λ is. absurd (omega (arith, is))) plain.value_lf))

pair_back : (p : Pair) → IsPlain p → pair_of (pair_text p.0 p.1) ≡ p
pair_back p plain =
    let back = pairs_split_back p.0 p.1 plain.key_tab in
    ap (λ (key : List ℕ). let r : Pair = (key, value_of (pair_text p.0 p.1)) in r) back.0 ∙ ap (λ (value : List ℕ). let r : Pair = (p.0, value) in r) back.1

pub pairs_read_back : PairsReadBack
pairs_read_back [] plain = refl
pairs_read_back (p ∷ ps) plain =
    let one = All-head IsPlain p ps plain in
    ap (map pair_of) (record_of_pair p (pairs_text ps) one) ∙ ap (λ (q : Pair). q ∷ pairs_in (pairs_text ps)) (pair_back p one) ∙ ap (λ (qs : List Pair). p ∷ qs) (pairs_read_back ps (All-tail IsPlain p ps plain))

pub texts_follow : TextsFollow
texts_follow front back = flat_map-append (λ (p : Pair). pair_line p.0 p.1) front back
