-- Messages to the rows of a block, taken in on top of those before.
use Rattle.std.proofs.Common.{◌≡◌, ℕ, zero, suc, ◌+◌, ◌<◌, ◌≤◌, Bool, true, false, ◌&&◌, IsTrue, eqb, ltb, List, [], ◌∷◌, ◌++◌, length, get_or, map, filter, fold, All, Option, Some, None, IfSome, option_map, option_and_then, is_some, replicate, refl, sym, ap, subst, ◌∙◌, arith, inl, inr, append_assoc}
use Rattle.std.specs.List.{flat_map, list_all}
use Rattle.std.proofs.lemmas.Bool.{and_from, and_parts, cases_lt}
use Rattle.std.proofs.lemmas.List.{append-nil, map-append, get_or-replicate, get_or_past, length-replicate}
use Rattle.std.proofs.lemmas.List.Elements.{All-nil, All-cons, All-head, All-tail, filter-append}
use Rattle.std.proofs.lemmas.List.Sums.{fold-append}
use Rattle.peg_text.specs.Pairs.{value_of}
use Rattle.gimv_core.specs.Algebras.{Algebra, FitsMsg}
use Rattle.gimv_core.specs.Laws.{IsLawful}
use Rattle.gimv_base.specs.Fields.{tagged, number_below}
use Rattle.gimv_base.specs.Parts.{Part, after}
use Rattle.gimv_base.specs.Answers.{Takes}
use Rattle.gimv_base.specs.BaseRules.{Reading, read_first, read_all, unless_bad, head_part, headed, no_text}
use Rattle.gimv_block.specs.Items.{items_of, around_colon}
use Rattle.gimv_block.specs.BlockRecords.{part_of, part_fields, parts_record_of, block_record_of}
use Rattle.gimv_block.specs.BlockLines.{messages_in}
use Rattle.gimv_block.specs.BlockRules.{new_values, new_values_line, with_messages, renewed_part, or_unit, all_at}
use Rattle.gimv_block.specs.Rows.{take_in, RowsFit, row_fits, rows_fit}
use Rattle.gimv_block.proofs.RowLemmas.{extended, extended_all, row_after, messages_in_fit}
use Rattle.gimv_block.proofs.SendLemmas.{and_then_has, map_has, items_have}

pub unless_bad-more : (bad : Option ℕ) (out : List ℕ) → unless_bad (option_map (λ k. 1 + k) bad) out ≡ after [] 1 (unless_bad bad out)
unless_bad-more None out = refl
unless_bad-more (Some k) out = refl

pub messages_in-append : {M : Type 0} (place : ℕ) (sent more : List (ℕ × M)) → messages_in place (sent ++ more) ≡ messages_in place sent ++ messages_in place more
messages_in-append {M} place sent more =
    let here : ℕ × M → Bool = λ p. eqb p.0 place in
    ap (map (λ (p : ℕ × M). p.1)) (filter-append here sent more) ∙ map-append (λ (p : ℕ × M). p.1) (filter here sent) (filter here more)

module _ {Val Msg Weight : Type 0} (a : Algebra Val Msg Weight) (laws : IsLawful a) where
  abbrev Fits : ℕ × Msg → Type 0
  Fits sent = FitsMsg a sent.1

  part_has : (rows : ℕ) (text : List ℕ) → IfSome (part_of a rows text) Fits
  part_has rows text =
      and_then_has Fits (part_fields a rows) (around_colon text)
      (λ fields is. and_then_has Fits (λ r. option_map (λ m. (r, m)) (a.msg_of fields.1)) (number_below rows fields.0)
      (λ r low. map_has Fits (λ m. (r, m)) (a.msg_of fields.1) (laws.msg_of_fits fields.1)))

  -- what a row has after more messages, where nothing is the unit
  all_extended : (row : Option Msg) (ms : List Msg) → All (FitsMsg a) ms → or_unit a (extended a row ms) ≡ fold a.algorithm.combine (or_unit a row) ms
  all_extended None [] all = refl
  all_extended None (m ∷ ms) all =
      ap (or_unit a) (extended_all a m ms) ∙ ap (λ (x : Msg). fold a.algorithm.combine x ms) (sym (laws.in_any_order.neutral m (All-head (FitsMsg a) m ms all)))
  all_extended (Some x) ms all = ap (or_unit a) (extended_all a x ms)

  pub all_after : (rows : List (Option Msg)) (sent : List (ℕ × Msg)) (place : ℕ) → place < length rows → All Fits sent
      → all_at a (fold (take_in a) rows sent) place ≡ fold a.algorithm.combine (all_at a rows place) (messages_in place sent)
  all_after rows sent place low all =
      ap (or_unit a) (row_after a place rows sent low) ∙ all_extended (get_or rows place None) (messages_in place sent) (messages_in_fit a place sent all)

  -- the same messages by row give the same values
  pub new_values_of_same : (f g : ℕ → Msg) (start : ℕ) (vs : List Val) → ((place : ℕ) → start ≤ place → place < start + length vs → f place ≡ g place) → new_values a f start vs ≡ new_values a g start vs
  new_values_of_same f g start [] same = refl
  new_values_of_same f g start (v ∷ vs) same =
      ap (λ (m : Msg). a.algorithm.assign v m ∷ new_values a f (start + 1) vs) (same start (omega arith) (omega arith))
      ∙ ap (λ (ws : List Val). a.algorithm.assign v (g start) ∷ ws) (new_values_of_same f g (start + 1) vs (λ place le lt. same place (omega arith) (omega arith)))

  module _ (j : ℕ) (vs : List Val) where
    renewed_of_same : (f g : ℕ → Msg) → ((place : ℕ) → place < length vs → f place ≡ g place) → (rs : List (List ℕ)) → renewed_part a j vs f rs ≡ renewed_part a j vs g rs
    renewed_of_same f g same rs =
        let read = read_all (parts_record_of a (length vs)) rs in
        let sent = flat_map (λ sent. sent) read.items in
        ap (λ (ws : List Val). unless_bad read.bad (new_values_line a j vs ws))
        (new_values_of_same (with_messages a f sent) (with_messages a g sent) 0 vs
        (λ place le lt. ap (λ (m : Msg). fold a.algorithm.combine m (messages_in place sent)) (same place (omega arith))))

    renewed_more : (rows : List (Option Msg)) (sent : List (ℕ × Msg)) (r : List ℕ) → length rows ≡ length vs → All Fits sent → parts_record_of a (length vs) r ≡ Some sent
        → (later : List (List ℕ)) → renewed_part a j vs (all_at a rows) (r ∷ later) ≡ after [] 1 (renewed_part a j vs (all_at a (fold (take_in a) rows sent)) later)
    renewed_more rows sent r as_many all is later =
        let read = read_all (parts_record_of a (length vs)) later in
        let rest = flat_map (λ sent. sent) read.items in
        let line : Reading (List (ℕ × Msg)) → List ℕ = λ first. new_values_line a j vs (new_values a (with_messages a (all_at a rows) (flat_map (λ sent. sent) first.items)) 0 vs) in
        ap (λ (found : Option (List (ℕ × Msg))). unless_bad (read_first found read).bad (line (read_first found read))) is
        ∙ unless_bad-more read.bad (line (read_first (Some sent) read))
        ∙ ap (λ (ws : List Val). after [] 1 (unless_bad read.bad (new_values_line a j vs ws)))
        (new_values_of_same (with_messages a (all_at a rows) (sent ++ rest)) (with_messages a (all_at a (fold (take_in a) rows sent)) rest) 0 vs
        (λ place le lt.
        ap (fold a.algorithm.combine (all_at a rows place)) (messages_in-append place sent rest)
        ∙ fold-append a.algorithm.combine (all_at a rows place) (messages_in place sent) (messages_in place rest)
        ∙ ap (λ (m : Msg). fold a.algorithm.combine m (messages_in place rest)) (sym (all_after rows sent place (omega arith) all))))

    -- a record of parts is taken in
    pub parts_taken : (rows new : List (Option Msg)) (r parts out : List ℕ) (result : Option (Unit {0})) → length rows ≡ length vs → is_some result ≡ true → Some parts ≡ tagged 89 (value_of r)
        → option_map (λ _. new) result ≡ option_map (fold (take_in a) rows) (items_of (part_of a (length rows)) parts)
        → Takes (renewed_part a j vs (all_at a rows)) (renewed_part a j vs (all_at a new)) r out out
    parts_taken rows new r parts out result as_many some tag is =
        read (items_of (part_of a (length vs)) parts) (items_have Fits (part_of a (length vs)) (part_has (length vs)) parts) result some
        (ap (option_and_then (items_of (part_of a (length vs)))) (sym tag))
        (is ∙ ap (λ (k : ℕ). option_map (fold (take_in a) rows) (items_of (part_of a k) parts)) as_many)
      where
        read : (found : Option (List (ℕ × Msg))) → IfSome found (All Fits) → (result : Option (Unit {0})) → is_some result ≡ true → parts_record_of a (length vs) r ≡ found
            → option_map (λ _. new) result ≡ option_map (fold (take_in a) rows) found → Takes (renewed_part a j vs (all_at a rows)) (renewed_part a j vs (all_at a new)) r out out
        read found all None some there is = cc
        read None all (Some u) some there is = cc
        read (Some sent) all (Some u) some there is =
            let new_is : new ≡ fold (take_in a) rows sent = cc in record {
              added = [];
              grown = sym (append-nil out);
              on = λ later. renewed_more rows sent r as_many all there later ∙ ap (λ (rs : List (Option Msg)). after [] 1 (renewed_part a j vs (all_at a rs) later)) (sym new_is);
            }

    -- before the first message
    pub none_taken : (size : ℕ) (rs : List (List ℕ)) → renewed_part a j vs (λ place. a.algorithm.unit) rs ≡ renewed_part a j vs (all_at a (replicate size None)) rs
    none_taken size rs = renewed_of_same (λ place. a.algorithm.unit) (all_at a (replicate size None)) (λ place lt. ap (or_unit a) (sym (none_there place))) rs
      where
        none_there : (place : ℕ) → get_or (replicate {A = Option Msg} size None) place None ≡ None
        none_there place = elim (cases_lt place size) [
          | inl low ↦ get_or-replicate size place None None low
          | inr past ↦ get_or_past (replicate size None) place None (omega (arith, length-replicate {A = Option Msg} size None))
        ]

  -- a block's record begins with its values and no message
  pub block_begun : (len n size : ℕ) (r out : List ℕ) (block : ℕ × List Val) → block_record_of a len n r ≡ Some block
      → Takes (headed (block_record_of a len n) no_text (λ block. renewed_part a block.0 block.1 (λ place. a.algorithm.unit))) (renewed_part a block.0 block.1 (all_at a (replicate size None))) r out out
  block_begun len n size r out block is = record {
    added = [];
    grown = sym (append-nil out);
    on = λ later.
        ap (λ (found : Option (ℕ × List Val)). head_part found [] (λ block. renewed_part a block.0 block.1 (λ place. a.algorithm.unit)) later) is
        ∙ ap (after [] 1) (none_taken block.0 block.1 size later);
  }

  -- rows that fit, as a test
  pub rows_fit-from : (rows : List (Option Msg)) → RowsFit a rows → IsTrue (rows_fit a rows)
  rows_fit-from [] all = refl
  rows_fit-from (row ∷ rows) all =
      let Row : Option Msg → Type 0 = λ row. IfSome row (FitsMsg a) in
      and_from (row_fits a row) (rows_fit a rows) (one row (All-head Row row rows all)) (rows_fit-from rows (All-tail Row row rows all))
    where
      one : (row : Option Msg) → IfSome row (FitsMsg a) → IsTrue (row_fits a row)
      one None fits = refl
      one (Some m) fits = fits

  pub none_fit : (size : ℕ) → IsTrue (rows_fit a (replicate size None))
  none_fit zero = refl
  none_fit (suc size) = none_fit size
