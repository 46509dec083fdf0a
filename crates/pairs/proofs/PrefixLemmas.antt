-- The order of texts by their prefixes.
use Rattle.std.proofs.Common.{◌≡◌, ◌∙◌, ap, sym, refl, subst, ℕ, zero, suc, ◌+◌, ◌*◌, ◌^◌, ◌<◌, ◌≤◌, Bool, not, true, false, ⊎_elim, List, [], ◌∷◌, length, get_or, min, arith}
use Rattle.std.specs.declared.cmp.Ordering.{Ordering}
use Rattle.std.specs.declared.cmp.Ordering.TheVariants.{Less, Equal, Greater}
use Rattle.std.specs.Ordering.{nat_cmp, ordering_then, ordering_reverse}
use Rattle.std.proofs.Math.Nat.{pow-le-pow_right, pow-suc}
use Rattle.std.proofs.lemmas.Bool.{false≢true, cases_Bool, cases_eq, cases_lt, eq-eqb, eqb-true}
use Rattle.std.proofs.lemmas.Cmp.{nat_cmp_total, nat_list_cmp_total, tied_itself, ranked, by_ranked}
use Rattle.std.specs.List.{position_or_len, prefix_len}
use Rattle.std.proofs.lemmas.List.{get_or_past, get_or-take, length-take-le}
use Rattle.std.proofs.lemmas.List.Sums.{fails_before_first, passes_at_first}
use Rattle.peg_text.specs.Pairs.{is_tab, key_of}
use Rattle.std.proofs.lemmas.List.Elements.{All-get_or}
use Rattle.pairs.specs.Pairs.{Pair, bytes_cmp, pair_cmp}
use Rattle.pairs.specs.Prefixes.{front_number, prefix_of, AreBytes, LesserPrefixComesFirst}

-- a byte that stands past the end is zero
digit_below : (text : List ℕ) (k : ℕ) → AreBytes text → get_or text k 0 < 256
digit_below text k bytes =
    ⊎_elim (λ (inside : k < length text). All-get_or (λ b. b < 256) text k 0 inside bytes) (λ (past : length text ≤ k). let is : get_or text k 0 ≡ 0 = get_or_past text k 0 past in omega (arith, is)) (cases_lt k (length text))

-- texts with the same number have the same first bytes
same_digits : (count : ℕ) (one other : List ℕ) → AreBytes one → AreBytes other → front_number count one ≡ front_number count other → (k : ℕ) → k < count → get_or one k 0 ≡ get_or other k 0
same_digits zero one other b c same k below = absurd (omega arith)
same_digits (suc count) one other b c same k below =
    let a = digit_below one count b in
    let d = digit_below other count c in
    ⊎_elim (λ (is : k ≡ count). let last : get_or one count 0 ≡ get_or other count 0 = omega arith in ap (λ (n : ℕ). get_or one n 0) is ∙ last ∙ ap (λ (n : ℕ). get_or other n 0) (sym is)) (λ (not : k ≡ count → ⊥). same_digits count one other b c (omega arith) k (omega (arith, not))) (cases_eq k count)

nat_less : (x y : ℕ) → x < y → nat_cmp x y ≡ Less
nat_less x y below = grind (arith)

-- the first byte in which two texts differ decides
first_difference : (count : ℕ) (one other : List ℕ) → ((k : ℕ) → k < count → get_or one k 0 ≡ get_or other k 0) → get_or one count 0 < get_or other count 0 → bytes_cmp one other ≡ Less
first_difference count [] [] same less = absurd (omega arith)
first_difference count [] (y ∷ ys) same less = refl
first_difference count (x ∷ xs) [] same less = absurd (omega arith)
first_difference zero (x ∷ xs) (y ∷ ys) same less =
    ap (λ (o : Ordering). ordering_then o (bytes_cmp xs ys)) (nat_less x y less)
first_difference (suc count) (x ∷ xs) (y ∷ ys) same less =
    ap (λ (z : ℕ). ordering_then (nat_cmp z y) (bytes_cmp xs ys)) (same 0 (omega arith)) ∙ ap (λ (o : Ordering). ordering_then o (bytes_cmp xs ys)) (tied_itself nat_cmp_total y) ∙ first_difference count xs ys (λ k below. same (suc k) (omega arith)) less

lesser_front : (count : ℕ) (one other : List ℕ) → AreBytes one → AreBytes other → front_number count one < front_number count other → bytes_cmp one other ≡ Less
lesser_front zero one other b c less = absurd (omega arith)
lesser_front (suc count) one other b c less =
    let a = digit_below one count b in
    let d = digit_below other count c in
    ⊎_elim (λ (before : front_number count one < front_number count other). lesser_front count one other b c before) (λ (not : front_number count other ≤ front_number count one). let same : front_number count one ≡ front_number count other = omega arith in first_difference count one other (same_digits count one other b c same) (omega arith)) (cases_lt (front_number count one) (front_number count other))

pub lesser_prefix_comes_first : LesserPrefixComesFirst
lesser_prefix_comes_first = lesser_front 8

-- a byte more fits, as long as there are seven at most
pub room : (count number : ℕ) → count < 8 → number < 256 ^ count → number < 256 ^ 7
room count number few below =
    let some : 0 < 256 = omega arith in
    let up : count ≤ 7 = omega arith in
    let most : 256 ^ count ≤ 256 ^ 7 = pow-le-pow_right some up in
    omega (arith, below, most)

-- ---- pairs

lesser_prefix_less : (p q : Pair) → AreBytes p.0 → AreBytes q.0 → prefix_of p.0 < prefix_of q.0 → pair_cmp p q ≡ Less
lesser_prefix_less p q b c less =
    ap (λ (o : Ordering). ordering_then o (bytes_cmp p.1 q.1)) (lesser_prefix_comes_first p.0 q.0 b c less)

greater_prefix_greater : (p q : Pair) → AreBytes p.0 → AreBytes q.0 → prefix_of q.0 < prefix_of p.0 → pair_cmp p q ≡ Greater
greater_prefix_greater p q b c less =
    ap (λ (o : Ordering). ordering_then o (bytes_cmp p.1 q.1)) (nat_list_cmp_total.antisymm p.0 q.0 ∙ ap ordering_reverse (lesser_prefix_comes_first q.0 p.0 c b less))

-- where the prefixes differ they decide
pub decided : (p q : Pair) (order : Ordering) → AreBytes p.0 → AreBytes q.0 → order ≡ nat_cmp (prefix_of p.0) (prefix_of q.0) → (order ≡ Equal → ⊥) → order ≡ pair_cmp p q
decided p q order b c is differ =
    by_ranked (prefix_of p.0 < prefix_of q.0) (prefix_of p.0 ≡ prefix_of q.0) (prefix_of q.0 < prefix_of p.0) order (ranked (prefix_of p.0) (prefix_of q.0) order is) (λ less before. less ∙ sym (lesser_prefix_less p q b c before)) (λ same tied. absurd (differ same)) (λ greater after. greater ∙ sym (greater_prefix_greater p q b c after))

-- ---- the key of a line, byte by byte

prefix_len_inside : (p : ℕ → Bool) (xs : List ℕ) → prefix_len p xs ≤ length xs
prefix_len_inside p [] = omega arith
prefix_len_inside p (x ∷ xs) =
    let more = prefix_len_inside p xs in
    ⊎_elim (λ (yes : p x ≡ true). rw yes (omega (arith, more))) (λ (no : p x ≡ false). rw no (omega arith)) (cases_Bool (p x))

first_tab_inside : (line : List ℕ) → position_or_len is_tab line ≤ length line
first_tab_inside line = prefix_len_inside (λ b. not (is_tab b)) line

pub key_length : (line : List ℕ) → length (key_of line) ≡ position_or_len is_tab line
key_length line = length-take-le (position_or_len is_tab line) line (first_tab_inside line)

same_default : (xs : List ℕ) (k a b : ℕ) → k < length xs → get_or xs k a ≡ get_or xs k b
same_default [] k a b inside = absurd (omega arith)
same_default (x ∷ xs) zero a b inside = refl
same_default (x ∷ xs) (suc k) a b inside = same_default xs k a b (omega arith)

-- where the key ends a TAB stands, or the line ends
tab_at_end : (line : List ℕ) → get_or line (position_or_len is_tab line) 9 ≡ 9
tab_at_end line =
    let n : ℕ = position_or_len is_tab line in
    ⊎_elim (λ (inside : n < length line). eqb-true (get_or line n 9) 9 (passes_at_first is_tab line 9 inside)) (λ (past : length line ≤ n). get_or_past line n 9 past) (cases_lt n (length line))

-- a byte of the key
pub key_goes_on : (line : List ℕ) (at count byte : ℕ) → count ≡ min at (length (key_of line)) → count ≡ at → byte ≡ get_or line at 9 → (byte ≡ 9 → ⊥) → (get_or (key_of line) at 0 ≡ byte) × (count + 1 ≡ min (at + 1) (length (key_of line)))
key_goes_on line at count byte is same is_byte other =
    let n : ℕ = position_or_len is_tab line in
    let long : length (key_of line) ≡ n = key_length line in
    let upto : n ≤ length line = first_tab_inside line in
    let inside : at < n = ⊎_elim (λ (yes : at < n). yes) (λ (no : n ≤ at). let last : at ≡ n = omega (arith, is, same, long, no) in absurd (other (is_byte ∙ ap (λ (k : ℕ). get_or line k 9) last ∙ tab_at_end line))) (cases_lt at n) in
    (get_or-take n line at 0 inside ∙ same_default line at 0 9 (omega (arith, upto, inside)) ∙ sym is_byte, omega (arith, is, same, long, inside))

-- the key has ended
pub key_is_over : (line : List ℕ) (at count byte : ℕ) → count ≡ min at (length (key_of line)) → byte ≡ get_or line at 9 → (count ≡ at → byte ≡ 9) → (get_or (key_of line) at 0 ≡ 0) × (count ≡ min (at + 1) (length (key_of line)))
key_is_over line at count byte is is_byte over =
    let n : ℕ = position_or_len is_tab line in
    let long : length (key_of line) ≡ n = key_length line in
    let past : n ≤ at = ⊎_elim (λ (no : at < n). let all : count ≡ at = omega (arith, is, long, no) in absurd (false≢true (sym (fails_before_first is_tab line at 9 no) ∙ eq-eqb (get_or line at 9) 9 (sym is_byte ∙ over all)))) (λ (yes : n ≤ at). yes) (cases_lt at n) in
    (get_or_past (key_of line) at 0 (omega (arith, long, past)), omega (arith, is, long, past))

-- ---- the number, byte by byte

module _ (text : List ℕ) (at number byte next : ℕ) (so_far : number ≡ front_number at text) (fits : number < 256 ^ at) (digit : get_or text at 0 ≡ byte) (below : byte < 256) (is : next ≡ number * 256 + byte) where
  pub number_more : next ≡ front_number (at + 1) text
  number_more =
      let step : front_number (suc at) text ≡ front_number at text * 256 + get_or text at 0 = refl in
      let same : suc at ≡ at + 1 = omega arith in
      let here : next ≡ front_number (suc at) text = omega (arith, is, so_far, digit, step) in
      here ∙ ap (λ (k : ℕ). front_number k text) same

  pub fits_more : next < 256 ^ (at + 1)
  fits_more =
      let same : suc at ≡ at + 1 = omega arith in
      let power : 256 ^ suc at ≡ 256 ^ at * 256 = pow-suc 256 at in
      let here : next < 256 ^ suc at = omega (arith, is, fits, below, power) in
      subst (λ (k : ℕ). next < 256 ^ k) same here
