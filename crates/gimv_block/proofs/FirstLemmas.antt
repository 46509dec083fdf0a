-- The first values of a block, from its places in any order.
use Rattle.std.proofs.Common.{◌≡◌, ◌≢◌, refl, sym, ap, ◌∙◌, subst, Bool, cond, ℕ, zero, suc, ◌+◌, ◌-◌, ◌*◌, ◌<◌, ◌≤◌, ◌^◌, eqb, List, [], ◌∷◌, map, length, get_or, set, replicate, sum_by, Option, Some, None, is_some, option_map, option_and_then, All, inl, inr, arith}
use Rattle.std.specs.List.{range_with_len}
use Rattle.std.specs.List.Sorted.{IsPermutation}
use Rattle.std.proofs.Math.Nat.{div-le_self}
use Rattle.std.proofs.lemmas.Bool.{cases_Bool, eq-eqb, eqb-true, eqb-false, ne_eqb}
use Rattle.std.proofs.lemmas.List.FromFn.{length-map-range_with_len, get_or-map-range_with_len}
use Rattle.std.proofs.lemmas.List.Elements.{All-head, All-tail, All-weaker}
use Rattle.std.proofs.lemmas.List.Sums.{sum_by-cons}
use Rattle.std.proofs.lemmas.List.Sorted.{sum_by-IsPermutation, All-permutation}
use Rattle.peg_text.specs.Pairs.{key_of}
use Rattle.gimv_core.specs.Algebras.{Algebra}
use Rattle.gimv_base.specs.Fields.{number_below}
use Rattle.gimv_base.specs.Parts.{written, after}
use Rattle.gimv_block.specs.Blocks.{block_count, block_size, block_of, offset_of, node_at, nodes_of_block}
use Rattle.gimv_block.specs.Items.{all_some}
use Rattle.gimv_block.specs.BlockRecords.{seat_record_of}
use Rattle.gimv_block.specs.BlockLines.{values_line, seat_text}
use Rattle.gimv_block.specs.BlockRules.{seat_taken, first_values_part, unless_refused, seated_part, first_block_part, firstb_part}
use Rattle.gimv_block.specs.BlockValues.{FirstsByOffsets}
use Rattle.gimv_block.proofs.BlockLemmas.{same_place}
use Rattle.gimv_block.proofs.BlockNodes.{block_placed, count_low, nodes_in_block, all_in_range}
use Rattle.gimv_block.proofs.BackLemmas.{number_below-decimal}
use Rattle.gimv_block.proofs.SeatBackLemmas.{seats_read_back, seat_key}

-- the list with one more element known
set_in_range : {A : Type 0} (f g : ℕ → A) (s c o : ℕ) → o < c → ((k : ℕ) → k ≢ s + o → f k ≡ g k) → set (map f (range_with_len s c)) o (g (s + o)) ≡ map g (range_with_len s c)
set_in_range f g s zero o low other = absurd (omega arith)
set_in_range {A} f g s (suc c) zero low other =
    let same : s + 0 ≡ s = omega arith in
    ap (λ (k : ℕ). g k ∷ map f (range_with_len (s + 1) c)) same ∙ ap (λ (l : List A). g s ∷ l) (later (s + 1) c (omega arith))
  where
    later : (a d : ℕ) → s < a → map f (range_with_len a d) ≡ map g (range_with_len a d)
    later a zero past = refl
    later a (suc d) past = ap (λ (x : A). x ∷ map f (range_with_len (a + 1) d)) (other a (λ e. omega (arith, e))) ∙ ap (λ (l : List A). g a ∷ l) (later (a + 1) d (omega arith))
set_in_range {A} f g s (suc c) (suc o) low other =
    let same : s + suc o ≡ (s + 1) + o = omega arith in
    ap (λ (k : ℕ). f s ∷ set (map f (range_with_len (s + 1) c)) o (g k)) same
    ∙ ap (λ (l : List A). f s ∷ l) (set_in_range f g (s + 1) c o (omega arith) (λ k apart. other k (λ e. apart (omega (arith, e)))))
    ∙ ap (λ (x : A). x ∷ map g (range_with_len (s + 1) c)) (other s (λ e. omega (arith, e)))

-- how often a number is there
abbrev one_if : ℕ → ℕ → ℕ
one_if k i = cond (eqb k i) 1 0

abbrev times : ℕ → List ℕ → ℕ
times k xs = sum_by (one_if k) xs

one_if_same : (k i : ℕ) → k ≡ i → one_if k i ≡ 1
one_if_same k i is = ap (λ (b : Bool). cond b 1 0) (eq-eqb k i is)

one_if_other : (k i : ℕ) → k ≢ i → one_if k i ≡ 0
one_if_other k i apart = ap (λ (b : Bool). cond b 1 0) (ne_eqb k i apart)

none_in_range : (k a c : ℕ) → k < a → times k (range_with_len a c) ≡ 0
none_in_range k a zero past = refl
none_in_range k a (suc c) past =
    let here = one_if_other k a (λ e. omega (arith, e)) in
    let later = none_in_range k (a + 1) c (omega arith) in sum_by-cons (one_if k) a (range_with_len (a + 1) c) ∙ omega (arith, here, later)

once_in_range : (k a c : ℕ) → a ≤ k → k < a + c → times k (range_with_len a c) ≡ 1
once_in_range k a zero low high = absurd (omega arith)
once_in_range k a (suc c) low high =
    elim (cases_Bool (eqb k a)) [
      | inl is ↦
          let same = eqb-true k a is in
          let here = one_if_same k a same in
          let later = none_in_range k (a + 1) c (omega (arith, same)) in sum_by-cons (one_if k) a (range_with_len (a + 1) c) ∙ omega (arith, here, later)
      | inr isnt ↦
          let apart = eqb-false k a isnt in
          let here = one_if_other k a apart in
          let later = once_in_range k (a + 1) c (omega (arith, low, apart)) (omega arith) in sum_by-cons (one_if k) a (range_with_len (a + 1) c) ∙ omega (arith, here, later)
    ]

-- the node at a place, where these places have come
abbrev seat : (ℕ → ℕ) → List ℕ → ℕ → Option ℕ
seat id ts k = cond (eqb (times k ts) 0) None (Some (id k))

no_seats : (id : ℕ → ℕ) (s c : ℕ) → replicate c None ≡ map (seat id []) (range_with_len s c)
no_seats id s zero = refl
no_seats id s (suc c) = ap (λ (l : List (Option ℕ)). None ∷ l) (no_seats id (s + 1) c)

module _ {Val Msg Weight : Type 0} (a : Algebra Val Msg Weight) (len n j : ℕ) (some : 1 ≤ len) (few : n ≤ 2 ^ 32) (low : j < block_count len n) (id : ℕ → ℕ) (id_low : (p : ℕ) → p < n → id p < n) where
  abbrev start : ℕ
  start = j * len

  abbrev size : ℕ
  size = block_size len n j

  abbrev seats : List ℕ → List (Option ℕ)
  seats ts = map (seat id ts) (range_with_len start size)

  abbrev texts : List ℕ → List (List ℕ)
  texts ps = map (λ p. seat_text len p (id p)) ps

  -- a place of the block
  record IsMine (p : ℕ) : Type 0 where
    from : start ≤ p
    to : p < start + size

  inside : (p : ℕ) → IsMine p → p < n
  inside p mine = let placed = block_placed len n j some low in let to = mine.to in omega (arith, to, placed.end)

  place_is : (p : ℕ) → IsMine p → (block_of len p ≡ j) × (start + offset_of len p ≡ p)
  place_is p mine =
      let placed = block_placed len n j some low in
      let from = mine.from in
      let to = mine.to in
      let at : node_at len j (p - start) ≡ p = omega (arith, from) in
      let same = same_place len j (p - start) p (omega (arith, to, placed.short)) at in (same.0, omega (arith, from, same.1))

  offset_in : (p : ℕ) → IsMine p → offset_of len p < size
  offset_in p mine = let is = (place_is p mine).1 in let to = mine.to in omega (arith, is, to)

  seat_back : (p : ℕ) → IsMine p → seat_record_of size n (seat_text len p (id p)) ≡ Some (offset_of len p, id p)
  seat_back p mine =
      let within = inside p mine in
      let size_low : size ≤ 2 ^ 32 = let placed = block_placed len n j some low in omega (arith, placed.end, few) in
      (seats_read_back len size n p (id p) (omega (arith, within, few)) (offset_in p mine) size_low (id_low p within) few).is

  one_seat : (p : ℕ) (ts : List ℕ) → IsMine p → times p ts ≡ 0 → option_and_then (seat_taken (seats ts)) (seat_record_of (length (seats ts)) n (seat_text len p (id p))) ≡ Some (seats (p ∷ ts))
  one_seat p ts mine none =
      let o = offset_of len p in
      let there = offset_in p mine in
      let is = (place_is p mine).1 in
      let empty : get_or (seats ts) o None ≡ None = get_or-map-range_with_len (seat id ts) start size o p None there is ∙ ap (λ (k : ℕ). cond (eqb k 0) None (Some (id p))) none in
      let own : times p (p ∷ ts) ≡ 1 = let here = one_if_same p p refl in sum_by-cons (one_if p) p ts ∙ omega (arith, here, none) in
      let taken : seat id (p ∷ ts) p ≡ Some (id p) = ap (λ (k : ℕ). cond (eqb k 0) None (Some (id p))) own in
      let filled : Some (id p) ≡ seat id (p ∷ ts) (start + o) = sym (ap (seat id (p ∷ ts)) is ∙ taken) in
      let others : (k : ℕ) → k ≢ start + o → seat id ts k ≡ seat id (p ∷ ts) k = λ k apart.
      let here = one_if_other k p (λ e. apart (e ∙ sym is)) in
      let same : times k ts ≡ times k (p ∷ ts) = sym (sum_by-cons (one_if k) p ts ∙ omega (arith, here)) in ap (λ (m : ℕ). cond (eqb m 0) None (Some (id k))) same in
      ap (λ (k : ℕ). option_and_then (seat_taken (seats ts)) (seat_record_of k n (seat_text len p (id p)))) (length-map-range_with_len (seat id ts) start size)
      ∙ ap (option_and_then (seat_taken (seats ts))) (seat_back p mine)
      ∙ ap (λ (found : Option ℕ). cond (is_some found) None (Some (set (seats ts) o (Some (id p))))) empty
      ∙ ap Some (ap (set (seats ts) o) filled ∙ set_in_range (seat id ts) (seat id (p ∷ ts)) start size o there others)

  all_seats : (ts : List ℕ) (s c : ℕ) → ((k : ℕ) → s ≤ k → k < s + c → times k ts ≡ 1) → all_some (map (seat id ts) (range_with_len s c)) ≡ Some (map id (range_with_len s c))
  all_seats ts s zero once = refl
  all_seats ts s (suc c) once =
      let here : seat id ts s ≡ Some (id s) = ap (λ (k : ℕ). cond (eqb k 0) None (Some (id s))) (once s (omega arith) (omega arith)) in
      ap (option_and_then (λ (x : ℕ). option_map (λ (xs : List ℕ). x ∷ xs) (all_some (map (seat id ts) (range_with_len (s + 1) c))))) here
      ∙ ap (option_map (λ (xs : List ℕ). id s ∷ xs)) (all_seats ts (s + 1) c (λ k from to. once k (omega arith) (omega arith)))

  moved_over : (k p : ℕ) (ts ps : List ℕ) → times k (p ∷ ts) + times k ps ≡ times k ts + times k (p ∷ ps)
  moved_over k p ts ps = let one = sum_by-cons (one_if k) p ts in let other = sum_by-cons (one_if k) p ps in omega (arith, one, other)

  -- where each place of the block comes once, the block has all first values
  seated : (ps ts : List ℕ) → All IsMine ps → ((k : ℕ) → start ≤ k → k < start + size → times k ts + times k ps ≡ 1)
      → seated_part a n j (texts ps) (seats ts) ≡ written (values_line a j size (map a.algorithm.first (map id (nodes_of_block len n j))))
  seated [] ts mine once =
      ap (first_values_part a j) (all_seats ts start size (λ k from to. let is = once k from to in omega (arith, is)))
      ∙ ap (λ (c : ℕ). written (values_line a j c (map a.algorithm.first (map id (nodes_of_block len n j))))) (length-map-range_with_len id start size)
  seated (p ∷ ps) ts mine once =
      let first = All-head IsMine p ps mine in
      let own = one_if_same p p refl in
      let cons = sum_by-cons (one_if p) p ps in
      let sum = once p first.from first.to in
      ap (λ found. unless_refused found (seated_part a n j (texts ps))) (one_seat p ts first (omega (arith, own, cons, sum)))
      ∙ ap (after [] 1) (seated ps (p ∷ ts) (All-tail IsMine p ps mine) (λ k from to. moved_over k p ts ps ∙ once k from to))

  module _ (places : List ℕ) (moved : IsPermutation (nodes_of_block len n j) places) where
    all_mine : All IsMine places
    all_mine =
        All-permutation IsMine (nodes_of_block len n j) places moved
        (All-weaker (λ i. (start ≤ i) × (i < start + size)) IsMine (λ i h. record { from = h.0; to = h.1 }) (nodes_of_block len n j) (all_in_range start size))

    once_each : (k : ℕ) → start ≤ k → k < start + size → times k places ≡ 1
    once_each k from to = sum_by-IsPermutation (one_if k) (nodes_of_block len n j) places moved ∙ once_in_range k start size from to

    pub first_values_written : firstb_part a len n (texts places) ≡ written (values_line a j size (map a.algorithm.first (map id (nodes_of_block len n j))))
    first_values_written = begun places all_mine once_each
      where
        begun : (ps : List ℕ) → All IsMine ps → ((k : ℕ) → start ≤ k → k < start + size → times k ps ≡ 1)
            → firstb_part a len n (texts ps) ≡ written (values_line a j size (map a.algorithm.first (map id (nodes_of_block len n j))))
        begun [] mine once = let placed = block_placed len n j some low in let none = once start (omega arith) (omega (arith, placed.some)) in absurd (omega (arith, none))
        begun (p ∷ ps) mine once =
            let first = All-head IsMine p ps mine in
            let within = inside p first in
            let most = count_low len n some in
            let rs = texts (p ∷ ps) in
            ap (λ (key : List ℕ). first_block_part a len n rs (number_below (block_count len n) key)) (seat_key len p (id p) (omega (arith, within, few)) j (place_is p first).0)
            ∙ ap (first_block_part a len n rs) (number_below-decimal (block_count len n) j low (omega (arith, most, few)))
            ∙ ap (seated_part a n j rs) (no_seats id start size)
            ∙ seated (p ∷ ps) [] mine (λ k from to. omega (arith, once k from to))

pub firsts_by_offsets : {Val Msg Weight : Type 0} → FirstsByOffsets Val Msg Weight
firsts_by_offsets {Val} {Msg} {Weight} a len n j id places some few low id_low moved = first_values_written a len n j some few low id id_low places moved
