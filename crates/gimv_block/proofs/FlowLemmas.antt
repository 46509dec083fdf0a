-- The parts that come to a row, line by line.
use Rattle.std.proofs.Common.{◌≡◌, ◌≢◌, ℕ, zero, suc, ◌+◌, ◌<◌, ◌≤◌, Bool, true, false, cond, eqb, List, [], ◌∷◌, ◌++◌, map, filter, All, refl, sym, ap, ◌∙◌, inl, inr, arith, eqb-true, eq-eqb}
use Rattle.std.specs.List.{flat_map, range_with_len}
use Rattle.std.proofs.lemmas.Bool.{cases_Bool, cases_lt, eqb-false, ne_eqb, cond-true, cond-false}
use Rattle.std.proofs.lemmas.Nat.{div-mul-add}
use Rattle.std.proofs.lemmas.List.{append-nil}
use Rattle.std.proofs.lemmas.List.Elements.{All-head, All-tail}
use Rattle.graph.specs.Entries.{Entry}
use Rattle.graph.specs.Steps.{Algorithm, Vector, messages_to, all_of}
use Rattle.gimv_block.specs.Blocks.{block_of, offset_of, node_at, entry_at}
use Rattle.gimv_block.specs.BlockLines.{messages_in, part_of_row, parts_of}
use Rattle.gimv_block.specs.BlockSteps.{of_some, sent_to}
use Rattle.gimv_block.specs.BlockFlow.{BlockLine, entries_of_line, passed_by, parts_to}
use Rattle.gimv_block.proofs.BlockLemmas.{lines_by_offsets, same_place}
use Rattle.gimv_block.proofs.SettleLemmas.{messages_in-append}

module _ {Val Msg Weight : Type 0} (a : Algorithm Val Msg Weight) where
  one_part : (row : ℕ) (ms : List Msg) → messages_in row (of_some (λ (ms : List Msg). (row, all_of a ms)) ms) ≡ of_some (all_of a) ms
  one_part row [] = refl
  one_part row (m ∷ ms) = rw (eq-eqb row row refl) refl

  other_part : (row other : ℕ) → other ≢ row → (ms : List Msg) → messages_in row (of_some (λ (ms : List Msg). (other, all_of a ms)) ms) ≡ []
  other_part row other apart [] = refl
  other_part row other apart (m ∷ ms) = rw (ne_eqb other row apart) refl

  none_past : (sent : List (ℕ × Msg)) (row start n : ℕ) → row < start → messages_in row (flat_map (part_of_row a sent) (range_with_len start n)) ≡ []
  none_past sent row start zero past = refl
  none_past sent row start (suc n) past =
      messages_in-append row (part_of_row a sent start) (flat_map (part_of_row a sent) (range_with_len (start + 1) n))
      ∙ ap (λ (ms : List Msg). ms ++ messages_in row (flat_map (part_of_row a sent) (range_with_len (start + 1) n))) (other_part row start (λ e. omega arith) (messages_in start sent))
      ∙ none_past sent row (start + 1) n (omega arith)

  one_inside : (sent : List (ℕ × Msg)) (row start n : ℕ) → start ≤ row → row < start + n → messages_in row (flat_map (part_of_row a sent) (range_with_len start n)) ≡ of_some (all_of a) (messages_in row sent)
  one_inside sent row start zero low high = absurd (omega arith)
  one_inside sent row start (suc n) low high =
      let later = flat_map (part_of_row a sent) (range_with_len (start + 1) n) in
      messages_in-append row (part_of_row a sent start) later
      ∙ elim (cases_Bool (eqb start row)) [
        | inl is ↦
            let same = eqb-true start row is in
            ap (λ (ms : List Msg). messages_in row (part_of_row a sent start) ++ ms) (none_past sent row (start + 1) n (omega arith))
            ∙ append-nil (messages_in row (part_of_row a sent start))
            ∙ ap (λ (k : ℕ). messages_in row (part_of_row a sent k)) same
            ∙ one_part row (messages_in row sent)
        | inr isnt ↦
            let apart = eqb-false start row isnt in
            ap (λ (ms : List Msg). ms ++ messages_in row later) (other_part row start apart (messages_in start sent))
            ∙ one_inside sent row (start + 1) n (omega arith) (omega arith)
      ]

  passed_in : (len : ℕ) (v : Vector Val) (column_block row : ℕ) (items : List (Entry Weight))
      → messages_in row (map (λ (e : Entry Weight). (e.row, a.combine2 e.weight (v (node_at len column_block e.column)))) items) ≡ messages_to a items (λ c. v (node_at len column_block c)) row
  passed_in len v column_block row [] = refl
  passed_in len v column_block row (e ∷ es) =
      elim (cases_Bool (eqb e.row row)) [
        | inl is ↦ rw is (ap (λ (ms : List Msg). a.combine2 e.weight (v (node_at len column_block e.column)) ∷ ms) (passed_in len v column_block row es))
        | inr isnt ↦ rw isnt (passed_in len v column_block row es)
      ]

  module _ (len block rows row : ℕ) (v : Vector Val) (fit : rows ≤ len) (low : row < rows) where
    one_line : (line : BlockLine Weight) → All (λ (e : Entry Weight). e.row < len) line.items
        → messages_in row (parts_to a len v block rows line) ≡ sent_to a (entries_of_line len line) v (node_at len block row)
    one_line line small =
        let place = same_place len block row (node_at len block row) (omega arith) refl in
        let by = lines_by_offsets a len line.row_block line.column_block v (node_at len block row) (omega arith) line.items small in
        let here : Vector Val = λ c. v (node_at len line.column_block c) in
        elim (cases_Bool (eqb line.row_block block)) [
          | inl is ↦
              let same = eqb-true line.row_block block is in
              ap (messages_in row) (cond-true _ (parts_of a rows (passed_by a len v line)) [] is)
              ∙ one_inside (passed_by a len v line) row 0 rows (omega arith) (omega arith)
              ∙ ap (of_some (all_of a)) (passed_in len v line.column_block row line.items)
              ∙ ap (λ (o : ℕ). of_some (all_of a) (messages_to a line.items here o)) (sym place.1)
              ∙ ap (of_some (all_of a)) (sym (by ∙ cond-true _ _ _ (eq-eqb (block_of len (node_at len block row)) line.row_block (place.0 ∙ sym same))))
          | inr isnt ↦
              let apart = eqb-false line.row_block block isnt in
              ap (messages_in row) (cond-false _ (parts_of a rows (passed_by a len v line)) [] isnt)
              ∙ ap (of_some (all_of a)) (sym (by ∙ cond-false _ _ _ (ne_eqb (block_of len (node_at len block row)) line.row_block (λ same. apart (sym same ∙ place.0)))))
        ]

    pub parts_are_sent : (lines : List (BlockLine Weight)) → All (λ (line : BlockLine Weight). All (λ (e : Entry Weight). e.row < len) line.items) lines
        → messages_in row (flat_map (parts_to a len v block rows) lines) ≡ flat_map (λ (line : BlockLine Weight). sent_to a (entries_of_line len line) v (node_at len block row)) lines
    parts_are_sent [] all = refl
    parts_are_sent (line ∷ lines) all =
        let Small : BlockLine Weight → Type 0 = λ line. All (λ (e : Entry Weight). e.row < len) line.items in
        messages_in-append row (parts_to a len v block rows line) (flat_map (parts_to a len v block rows) lines)
        ∙ ap (λ (ms : List Msg). ms ++ messages_in row (flat_map (parts_to a len v block rows) lines)) (one_line line (All-head Small line lines all))
        ∙ ap (λ (ms : List Msg). sent_to a (entries_of_line len line) v (node_at len block row) ++ ms) (parts_are_sent lines (All-tail Small line lines all))
