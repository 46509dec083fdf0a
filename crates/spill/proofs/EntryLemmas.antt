-- Entries in the order of pairs.
use Rattle.std.proofs.Common.{◌≡◌, ◌∙◌, ◌+◌, ◌*◌, ◌/◌, ◌%◌, ◌<◌, ◌≤◌, ℕ, zero, suc, Bool, true, false, ⊎_elim, if◌then◌else◌, List, [], ◌∷◌, length, get_or, min, Less, Equal, Greater, ap, sym, refl, arith}
use Rattle.std.specs.Prelude.{nat_lt}
use Rattle.std.specs.Cmp.{IsTotalOrder}
use Rattle.std.specs.List.{All}
use Rattle.std.specs.List.Sorted.{IsPermutation, IsSortedBy}
use Rattle.std.specs.declared.cmp.Ordering.{Ordering}
use Rattle.std.specs.Ordering.{nat_cmp, ordering_then, ordering_reverse, is_lt}
use Rattle.std.proofs.lemmas.Bool.{cases_eq, cases_lt, ltb-true}
use Rattle.std.proofs.lemmas.Cmp.{nat_cmp_total, nat_list_cmp_total, on_total, then_total, tied_itself, ranked, by_ranked}
use Rattle.std.proofs.lemmas.List.{get_or_past, get_or-map, length-map}
use Rattle.std.proofs.lemmas.List.Elements.{All-get_or, All-take}
use Rattle.std.proofs.lemmas.List.Sorted.{IsPermutation-map}
use Rattle.peg_text.specs.Pairs.{is_tab, key_of, value_of, pair_text}
use Rattle.std.specs.List.{position_or_len}
use Rattle.pairs.specs.Pairs.{Pair, bytes_cmp, pair_of, pair_cmp, sorted_pairs}
use Rattle.pairs.specs.Prefixes.{AreBytes, front_number, prefix_of}
use Rattle.pairs.proofs.PairLemmas.{in_order_is_sorted, pair_cmp_total}
use Rattle.pairs.proofs.PrefixLemmas.{lesser_prefix_comes_first}
use Rattle.spill.specs.declared.entry.Entry.{Entry}
use Rattle.spill.specs.Lines.{IsEntry, behind_rank, entry_cmp, pair_of_entry, entry_pairs, line_of_entry, rank_of}

key_bytes : (text : List ℕ) → AreBytes text → AreBytes (key_of text)
key_bytes text bytes = All-take (λ b. b < 256) (position_or_len is_tab text) text bytes

-- ---- ranks

digit_below : (text : List ℕ) (k : ℕ) → AreBytes text → get_or text k 0 < 256
digit_below text k bytes =
    ⊎_elim (λ (inside : k < length text). All-get_or (λ b. b < 256) text k 0 inside bytes) (λ (past : length text ≤ k). let is : get_or text k 0 ≡ 0 = get_or_past text k 0 past in omega (arith, is)) (cases_lt k (length text))

-- texts with the same number have the same first bytes
same_digits : (count : ℕ) (one other : List ℕ) → AreBytes one → AreBytes other → front_number count one ≡ front_number count other → (k : ℕ) → k < count → get_or one k 0 ≡ get_or other k 0
same_digits zero one other b c same k below = absurd (omega arith)
same_digits (suc count) one other b c same k below =
    let a = digit_below one count b in
    let d = digit_below other count c in
    ⊎_elim (λ (is : k ≡ count). let last : get_or one count 0 ≡ get_or other count 0 = omega arith in ap (λ (n : ℕ). get_or one n 0) is ∙ last ∙ ap (λ (n : ℕ). get_or other n 0) (sym is)) (λ (not : k ≡ count → ⊥). same_digits count one other b c (omega arith) k (omega (arith, not))) (cases_eq k count)

-- of two texts whose first bytes are the same, the shorter one comes first
shorter_first : (count : ℕ) (one other : List ℕ) → ((k : ℕ) → k < count → get_or one k 0 ≡ get_or other k 0) → length one ≤ count → length one < length other → bytes_cmp one other ≡ Less
shorter_first count [] [] same few less = absurd (omega arith)
shorter_first count [] (y ∷ ys) same few less = refl
shorter_first count (x ∷ xs) [] same few less = absurd (omega arith)
shorter_first zero (x ∷ xs) (y ∷ ys) same few less = absurd (omega arith)
shorter_first (suc count) (x ∷ xs) (y ∷ ys) same few less =
    ap (λ (z : ℕ). ordering_then (nat_cmp z y) (bytes_cmp xs ys)) (same 0 (omega arith)) ∙ ap (λ (o : Ordering). ordering_then o (bytes_cmp xs ys)) (tied_itself nat_cmp_total y) ∙ shorter_first count xs ys (λ k below. same (suc k) (omega arith)) (omega arith) (omega arith)

lesser_rank : (one other : List ℕ) → AreBytes one → AreBytes other → rank_of one < rank_of other → bytes_cmp one other ≡ Less
lesser_rank one other b c less =
    let a = digit_below one 7 b in
    let d = digit_below other 7 c in
    let of_one : prefix_of one ≡ front_number 7 one * 256 + get_or one 7 0 = refl in
    let of_other : prefix_of other ≡ front_number 7 other * 256 + get_or other 7 0 = refl in
    ⊎_elim (λ (before : front_number 7 one < front_number 7 other). lesser_prefix_comes_first one other b c (omega (arith, before, a, d, of_one, of_other))) (λ (not : front_number 7 other ≤ front_number 7 one). let same : front_number 7 one ≡ front_number 7 other = omega (arith, not, less) in shorter_first 7 one other (same_digits 7 one other b c same) (omega (arith, same, less)) (omega (arith, same, less))) (cases_lt (front_number 7 one) (front_number 7 other))

lesser_rank_less : (p q : Pair) → AreBytes p.0 → AreBytes q.0 → rank_of p.0 < rank_of q.0 → pair_cmp p q ≡ Less
lesser_rank_less p q b c less =
    ap (λ (o : Ordering). ordering_then o (bytes_cmp p.1 q.1)) (lesser_rank p.0 q.0 b c less)

greater_rank_greater : (p q : Pair) → AreBytes p.0 → AreBytes q.0 → rank_of q.0 < rank_of p.0 → pair_cmp p q ≡ Greater
greater_rank_greater p q b c less =
    ap (λ (o : Ordering). ordering_then o (bytes_cmp p.1 q.1)) (nat_list_cmp_total.antisymm p.0 q.0 ∙ ap ordering_reverse (lesser_rank q.0 p.0 c b less))

-- the rank is reckoned from the prefix
pub rank_from_prefix : (key : List ℕ) (prefix size rank : ℕ) → AreBytes key → prefix ≡ prefix_of key → size ≡ length key → rank ≡ prefix / 256 * 256 + min size 8 → rank ≡ rank_of key
rank_from_prefix key prefix size rank bytes is_prefix is_size is =
    let last = digit_below key 7 bytes in
    let digits : prefix_of key ≡ front_number 7 key * 256 + get_or key 7 0 = refl in
    omega (arith, last, digits, is_prefix, is_size, is)

-- ---- texts in order

then_again : (a b c : Ordering) → ordering_then a (ordering_then b c) ≡ ordering_then (ordering_then a b) c
then_again Less b c = refl
then_again Equal b c = refl
then_again Greater b c = refl

-- where the keys have the same length, the texts are in the order of the pairs
texts_cmp : (one other v w : List ℕ) → length one ≡ length other → bytes_cmp (pair_text one v) (pair_text other w) ≡ ordering_then (bytes_cmp one other) (bytes_cmp v w)
texts_cmp [] [] v w same = refl
texts_cmp [] (y ∷ ys) v w same = absurd (omega (arith, same))
texts_cmp (x ∷ xs) [] v w same = absurd (omega (arith, same))
texts_cmp (x ∷ xs) (y ∷ ys) v w same =
    ap (ordering_then (nat_cmp x y)) (texts_cmp xs ys v w (omega (arith, same))) ∙ then_again (nat_cmp x y) (bytes_cmp xs ys) (bytes_cmp v w)

then_equal : (order : Ordering) → ordering_then order Equal ≡ order
then_equal Less = refl
then_equal Equal = refl
then_equal Greater = refl

-- ---- which of two entries comes first

-- lines with short keys of one length are in the order of their pairs
behind_cmp : (short : Bool) (one other : List ℕ) → (short ≡ true → length (key_of one) ≡ length (key_of other)) → pair_text (key_of one) (value_of one) ≡ one → pair_text (key_of other) (value_of other) ≡ other → pair_cmp (if short then (one, []) else pair_of one) (if short then (other, []) else pair_of other) ≡ pair_cmp (pair_of one) (pair_of other)
behind_cmp false one other long is also = refl
behind_cmp true one other long is also =
    then_equal (bytes_cmp one other) ∙ ap (λ (t : List ℕ). bytes_cmp t other) (sym is) ∙ ap (bytes_cmp (pair_text (key_of one) (value_of one))) (sym also) ∙ texts_cmp (key_of one) (key_of other) (value_of one) (value_of other) (long refl)

-- the entries of a text are in the order of their pairs
pub entries_cmp : (text : List ℕ) (e f : Entry) → IsEntry text e → IsEntry text f → entry_cmp text e f ≡ pair_cmp (pair_of_entry text e) (pair_of_entry text f)
entries_cmp text e f has also =
    by_ranked (e.rank < f.rank) (e.rank ≡ f.rank) (f.rank < e.rank) (nat_cmp e.rank f.rank) (ranked e.rank f.rank (nat_cmp e.rank f.rank) refl) (λ less before. ap (λ (o : Ordering). ordering_then o more) less ∙ sym (lesser_rank_less p q b c (omega (arith, before, is_e, is_f)))) (λ tie same. ap (λ (o : Ordering). ordering_then o more) tie ∙ tails same) (λ greater after. ap (λ (o : Ordering). ordering_then o more) greater ∙ sym (greater_rank_greater p q b c (omega (arith, after, is_e, is_f))))
  where
    p : Pair
    p = pair_of_entry text e

    q : Pair
    q = pair_of_entry text f

    more : Ordering
    more = pair_cmp (behind_rank text e) (behind_rank text f)

    b : AreBytes p.0
    b = key_bytes (line_of_entry text e) has.has.bytes

    c : AreBytes q.0
    c = key_bytes (line_of_entry text f) also.has.bytes

    is_e : e.rank ≡ rank_of p.0
    is_e = has.has.is

    is_f : f.rank ≡ rank_of q.0
    is_f = also.has.is

    tails : e.rank ≡ f.rank → more ≡ pair_cmp p q
    tails same =
        ap (λ (n : ℕ). pair_cmp (behind_rank text e) (let r : Pair = if nat_lt (n % 256) 8 then (line_of_entry text f, []) else pair_of_entry text f in r)) (sym same) ∙ behind_cmp (nat_lt (e.rank % 256) 8) (line_of_entry text e) (line_of_entry text f) (λ short. let few = ltb-true (e.rank % 256) 8 short in omega (arith, few, same, is_e, is_f)) has.has.whole also.has.whole

-- ---- sorting entries

-- the order of entries is that of their ranks and what is behind these
abbrev pub sort_key : List ℕ → Entry → ℕ × Pair
sort_key text e = (e.rank, behind_rank text e)

abbrev pub key_cmp : ℕ × Pair → ℕ × Pair → Ordering
key_cmp a b = ordering_then (nat_cmp a.0 b.0) (pair_cmp a.1 b.1)

pub key_cmp_total : IsTotalOrder key_cmp
key_cmp_total = then_total (on_total (λ (a : ℕ × Pair). a.0) nat_cmp_total) (on_total (λ (a : ℕ × Pair). a.1) pair_cmp_total)

-- entries that are sorted have their pairs sorted
pub entries_sorted : (text : List ℕ) (before after : List Entry) → All (IsEntry text) after → IsPermutation before after → IsSortedBy (λ x y. is_lt (entry_cmp text x y)) after → entry_pairs text after ≡ sorted_pairs (entry_pairs text before)
entries_sorted text before after are same ordered =
    in_order_is_sorted (entry_pairs text before) (entry_pairs text after) (IsPermutation-map (pair_of_entry text) before after same) in_order
  where
    none : Entry
    none = record { rank = 0; start = 0; size = 0 }

    in_order : (k : ℕ) (d : Pair) → 0 ≤ k → k + 1 < length (entry_pairs text after) → is_lt (pair_cmp (get_or (entry_pairs text after) (k + 1) d) (get_or (entry_pairs text after) k d)) ≡ false
    in_order k d low inside =
        let many = length-map after (pair_of_entry text) in
        let next : k + 1 < length after = omega (arith, inside, many) in
        let here : k < length after = omega (arith, inside, many) in
        let x : Entry = get_or after (k + 1) none in
        let y : Entry = get_or after k none in
        let is_x : get_or (entry_pairs text after) (k + 1) d ≡ pair_of_entry text x = get_or-map (pair_of_entry text) after (k + 1) none d next in
        let is_y : get_or (entry_pairs text after) k d ≡ pair_of_entry text y = get_or-map (pair_of_entry text) after k none d here in
        ap (λ (p : Pair). is_lt (pair_cmp p (get_or (entry_pairs text after) k d))) is_x ∙ ap (λ (p : Pair). is_lt (pair_cmp (pair_of_entry text x) p)) is_y ∙ ap is_lt (sym (entries_cmp text x y (All-get_or (IsEntry text) after (k + 1) none next are) (All-get_or (IsEntry text) after k none here are))) ∙ ordered k none low next
