-- The rows of a block, message by message, and their parts, row by row.
use Rattle.std.proofs.Common.{◌≡◌, ℕ, zero, suc, ◌+◌, ◌<◌, ◌≤◌, replicate, inl, inr, eqb-true, subst, Bool, true, false, eqb, List, [], ◌∷◌, ◌++◌, length, get_or, set, map, fold, All, Option, Some, None, IfSome, option_map, if◌then◌else◌, refl, sym, ap, ◌∙◌, append_assoc, arith}
use Rattle.std.specs.List.{flat_map, range_with_len, join_with_byte}
use Rattle.std.proofs.lemmas.Bool.{cases_Bool, eqb-false}
use Rattle.std.proofs.lemmas.List.{append-nil, map-append, get_or-set_same, get_or-set_other, get_or-replicate, length-replicate}
use Rattle.std.proofs.lemmas.List.Elements.{All-nil, All-cons, All-head, All-tail}
use Rattle.std.proofs.lemmas.List.Concat.{flat_map-append}
use Rattle.std.proofs.Math.ListN.{length-set}
use Rattle.gimv_core.specs.Algebras.{Algebra, FitsMsg}
use Rattle.gimv_core.specs.Laws.{IsLawful}
use Rattle.graph.specs.Steps.{all_of}
use Rattle.gimv_block.specs.BlockSteps.{of_some}
use Rattle.gimv_block.specs.BlockLines.{part_text, part_of_row, parts_of, messages_in}
use Rattle.gimv_block.specs.BlockRecords.{item_of}
use Rattle.gimv_block.specs.Items.{all_some, pieces_of, items_of}
use Rattle.gimv_block.specs.Rows.{with_one, take_in, RowsFit, part_from, part_at}

abbrev pub is_nil : {A : Type 0} → List A → Bool
is_nil [] = true
is_nil (x ∷ xs) = false

pub join_more : (c : ℕ) (xs : List (List ℕ)) (x : List ℕ) → join_with_byte c (xs ++ x ∷ []) ≡ join_with_byte c xs ++ ((if is_nil xs then [] else c ∷ []) ++ x)
join_more c [] x = refl
join_more c (y ∷ []) x = refl
join_more c (y ∷ z ∷ xs) x = ap (λ l. y ++ (c ∷ l)) (join_more c (z ∷ xs) x) ∙ sym (append_assoc y (c ∷ join_with_byte c (z ∷ xs)) (c ∷ x))

range_more : (a n : ℕ) → range_with_len a (suc n) ≡ range_with_len a n ++ (a + n) ∷ []
range_more a zero = let e : a ≡ a + 0 = omega arith in ap (λ (k : ℕ). k ∷ []) e
range_more a (suc n) =
    let e : (a + 1) + n ≡ a + suc n = omega arith in
    ap (λ (l : List ℕ). a ∷ l) (range_more (a + 1) n ∙ ap (λ (k : ℕ). range_with_len (a + 1) n ++ k ∷ []) e)

-- the parts of the rows before this one
abbrev pub parts_before : {Msg : Type 0} → List (Option Msg) → ℕ → List (ℕ × Msg)
parts_before rows row = flat_map (part_at rows) (range_with_len 0 row)

map-is_nil : {A B : Type 0} (f : A → B) (xs : List A) → is_nil (map f xs) ≡ is_nil xs
map-is_nil f [] = refl
map-is_nil f (x ∷ xs) = refl

module _ {Val Msg Weight : Type 0} (a : Algebra Val Msg Weight) where
  -- the parts of the rows before this one are written, and whether there are none
  pub record AreWritten (rows : List (Option Msg)) (row : ℕ) (first : Bool) (old new : List ℕ) : Type 0 where
    pub written : new ≡ old ++ join_with_byte 44 (map (part_text a) (parts_before rows row))
    pub none : first ≡ is_nil (parts_before rows row)

  -- what the messages of a text do to rows
  abbrev pub taken : (List ℕ → Option (ℕ × Msg)) → List (Option Msg) → Option (List ℕ) → Option (List (Option Msg))
  taken kind rows left = option_map (fold (take_in a) rows) (all_some (map kind (pieces_of left)))

  -- messages were taken in by these rows, and this text is left
  pub record AreTaken (kind : List ℕ → Option (ℕ × Msg)) (size : ℕ) (items : List ℕ) (old now : List (Option Msg)) (left : Option (List ℕ)) : Type 0 where
    pub on : taken kind now left ≡ taken kind old (Some items)
    pub fit : RowsFit a now
    pub long : length now ≡ size
    pub size_is : size ≡ length old

  before_more : (rows : List (Option Msg)) (row : ℕ) (all : Option Msg) → get_or rows row None ≡ all → parts_before rows (row + 1) ≡ parts_before rows row ++ part_from row all
  before_more rows row all is =
      let e : row + 1 ≡ suc row = omega arith in
      let z : 0 + row ≡ row = omega arith in
      ap (parts_before rows) e
      ∙ ap (flat_map (part_at rows)) (range_more 0 row ∙ ap (λ (k : ℕ). range_with_len 0 row ++ k ∷ []) z)
      ∙ flat_map-append (part_at rows) (range_with_len 0 row) (row ∷ [])
      ∙ ap (λ (l : List (ℕ × Msg)). parts_before rows row ++ l) (append-nil (part_at rows row) ∙ ap (part_from row) is)

  not_nil : {A : Type 0} (xs : List A) (x : A) → is_nil (xs ++ x ∷ []) ≡ false
  not_nil [] x = refl
  not_nil (y ∷ xs) x = refl

  pub one_written : (rows : List (Option Msg)) (row : ℕ) (first : Bool) (old mid new : List ℕ) (m : Msg) → get_or rows row None ≡ Some m
      → AreWritten rows row first old mid → new ≡ mid ++ ((if first then [] else 44 ∷ []) ++ part_text a (row, m)) → AreWritten rows (row + 1) false old new
  one_written rows row first old mid new m is so_far more =
      let parts = parts_before rows row in
      let texts = map (part_text a) parts in
      let part = part_text a (row, m) in
      let next : parts_before rows (row + 1) ≡ parts ++ (row, m) ∷ [] = before_more rows row (Some m) is in
      let lead : Bool → List ℕ = λ b. (if b then [] else 44 ∷ []) ++ part in record {
        written =
            more ∙ ap (λ (b : Bool). mid ++ lead b) (so_far.none ∙ sym (map-is_nil (part_text a) parts))
            ∙ ap (λ (l : List ℕ). l ++ lead (is_nil texts)) so_far.written
            ∙ append_assoc old (join_with_byte 44 texts) (lead (is_nil texts))
            ∙ ap (λ (l : List ℕ). old ++ l) (sym (join_more 44 texts part))
            ∙ ap (λ (ts : List (List ℕ)). old ++ join_with_byte 44 ts) (sym (ap (map (part_text a)) next ∙ map-append (part_text a) parts ((row, m) ∷ [])));
        none = sym (ap (λ (ps : List (ℕ × Msg)). is_nil ps) next ∙ not_nil parts (row, m));
      }

  pub none_written : (rows : List (Option Msg)) (row : ℕ) (first : Bool) (old mid : List ℕ) → get_or rows row None ≡ None → AreWritten rows row first old mid → AreWritten rows (row + 1) first old mid
  none_written rows row first old mid is so_far =
      let next = before_more rows row None is ∙ append-nil (parts_before rows row) in record {
        written = so_far.written ∙ ap (λ (ps : List (ℕ × Msg)). old ++ join_with_byte 44 (map (part_text a) ps)) (sym next);
        none = so_far.none ∙ ap (λ (ps : List (ℕ × Msg)). is_nil ps) (sym next);
      }

  -- what a row has after more messages to it
  abbrev pub extended : Option Msg → List Msg → Option Msg
  extended row [] = row
  extended row (m ∷ ms) = extended (Some (with_one a row m)) ms

  pub row_after : (r : ℕ) (rows : List (Option Msg)) (sent : List (ℕ × Msg)) → r < length rows → get_or (fold (take_in a) rows sent) r None ≡ extended (get_or rows r None) (messages_in r sent)
  row_after r rows [] low = refl
  row_after r rows (p ∷ ps) low =
      let next = take_in a rows p in
      let low' : r < length next = omega (arith, length-set rows p.0 (Some (with_one a (get_or rows p.0 None) p.1))) in
      elim (cases_Bool (eqb p.0 r)) [
        | inl is ↦
            let same = eqb-true p.0 r is in
            rw is
            (row_after r next ps low'
            ∙ ap (λ (row : Option Msg). extended row (messages_in r ps))
            (subst (λ (k : ℕ). get_or (set rows k (Some (with_one a (get_or rows k None) p.1))) r None ≡ Some (with_one a (get_or rows r None) p.1)) (sym same)
            (get_or-set_same rows r (Some (with_one a (get_or rows r None) p.1)) None low)))
        | inr isnt ↦
            rw isnt
            (row_after r next ps low'
            ∙ ap (λ (row : Option Msg). extended row (messages_in r ps)) (get_or-set_other rows p.0 r (Some (with_one a (get_or rows p.0 None) p.1)) None (λ same. eqb-false p.0 r isnt (sym same))))
      ]

  pub extended_all : (all : Msg) (ms : List Msg) → extended (Some all) ms ≡ Some (fold a.algorithm.combine all ms)
  extended_all all [] = refl
  extended_all all (m ∷ ms) = extended_all (a.algorithm.combine all m) ms

  extended_none : IsLawful a → (row : ℕ) (ms : List Msg) → All (FitsMsg a) ms → part_from row (extended None ms) ≡ of_some (λ (ms : List Msg). (row, all_of a.algorithm ms)) ms
  extended_none laws row [] all = refl
  extended_none laws row (m ∷ ms) all =
      ap (part_from row) (extended_all m ms)
      ∙ ap (λ (x : Msg). (row, fold a.algorithm.combine x ms) ∷ []) (sym (laws.in_any_order.neutral m (All-head (FitsMsg a) m ms all)))

  pub messages_in_fit : (r : ℕ) (sent : List (ℕ × Msg)) → All (λ (p : ℕ × Msg). FitsMsg a p.1) sent → All (FitsMsg a) (messages_in r sent)
  messages_in_fit r [] all = All-nil (FitsMsg a)
  messages_in_fit r (p ∷ ps) all =
      let P : ℕ × Msg → Type 0 = λ p. FitsMsg a p.1 in
      let rest = messages_in_fit r ps (All-tail P p ps all) in
      elim (cases_Bool (eqb p.0 r)) [
        | inl is ↦ rw is (All-cons (FitsMsg a) p.1 (messages_in r ps) (All-head P p ps all) rest)
        | inr isnt ↦ rw isnt rest
      ]

  -- the rows that took in messages, from none on, have the parts of these messages
  pub rows_are_parts : IsLawful a → (size : ℕ) (sent : List (ℕ × Msg)) → All (λ (p : ℕ × Msg). FitsMsg a p.1) sent
      → flat_map (part_at (fold (take_in a) (replicate size None) sent)) (range_with_len 0 size) ≡ parts_of a.algorithm size sent
  rows_are_parts laws size sent all = each 0 size (omega arith)
    where
      each : (start n : ℕ) → start + n ≤ size → flat_map (part_at (fold (take_in a) (replicate size None) sent)) (range_with_len start n) ≡ flat_map (part_of_row a.algorithm sent) (range_with_len start n)
      each start zero low = refl
      each start (suc n) low =
          let lt : start < size = omega arith in
          let inside : start < length (replicate {A = Option Msg} size None) = omega (arith, length-replicate {A = Option Msg} size None) in
          let here : part_at (fold (take_in a) (replicate size None) sent) start ≡ part_of_row a.algorithm sent start =
          ap (part_from start) (row_after start (replicate size None) sent inside ∙ ap (λ (row : Option Msg). extended row (messages_in start sent)) (get_or-replicate size start None None lt))
          ∙ extended_none laws start (messages_in start sent) (messages_in_fit start sent all) in
          ap (λ (l : List (ℕ × Msg)). l ++ flat_map (part_at (fold (take_in a) (replicate size None) sent)) (range_with_len (start + 1) n)) here
          ∙ ap (λ (l : List (ℕ × Msg)). part_of_row a.algorithm sent start ++ l) (each (start + 1) n (omega arith))
