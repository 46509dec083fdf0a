-- The new values of a block from what comes to it after closing.
use Rattle.std.proofs.Common.{◌≡◌, refl, sym, ap, ◌∙◌, subst, cond, eqb, ℕ, zero, suc, ◌+◌, ◌-◌, ◌*◌, ◌<◌, ◌≤◌, ◌^◌, List, [], ◌∷◌, ◌++◌, map, decimal, inl, inr, arith}
use Rattle.std.specs.List.{All, flat_map, range_with_len}
use Rattle.std.specs.List.Sorted.{IsPermutation}
use Rattle.std.proofs.lemmas.Bool.{cases_Bool, eqb-true, eqb-false, ne_eqb, lt-ltb}
use Rattle.std.proofs.lemmas.List.{append-nil}
use Rattle.std.proofs.lemmas.List.Elements.{All-weaker}
use Rattle.std.proofs.lemmas.List.Folds.{flat_map-map}
use Rattle.std.proofs.lemmas.List.Sorted.{IsPermutation-append, IsPermutation-sym, IsPermutation-trans}
use Rattle.peg_text.specs.Pairs.{pair_line}
use Rattle.graph.specs.Entries.{Entry}
use Rattle.graph.specs.Steps.{Vector, all_of, step}
use Rattle.gimv_core.specs.Algebras.{Algebra, EntriesFit, VectorFits}
use Rattle.gimv_core.specs.Closings.{IsClosing}
use Rattle.gimv_core.specs.Consequences.{first_nodes}
use Rattle.gimv_core.specs.Laws.{IsLawful}
use Rattle.gimv_block.specs.Blocks.{block_count, block_size, node_at, nodes_of_block, all_blocks}
use Rattle.gimv_block.specs.BlockFlow.{BlockLine, entries_of_line, passed_by, parts_to}
use Rattle.gimv_block.specs.BlockLines.{messages_in, parts_of, values_pair}
use Rattle.gimv_block.specs.BlockReadBack.{IsGoodItem, IsGoodLine}
use Rattle.gimv_block.specs.BlockRules.{new_values, new_values_line, with_messages}
use Rattle.gimv_block.specs.BlockSteps.{AreCut, sent_to}
use Rattle.gimv_block.specs.BlockValues.{differs}
use Rattle.gimv_block.proofs.BlockNodes.{block_placed}
use Rattle.gimv_block.proofs.FlowLemmas.{parts_are_sent}
use Rattle.gimv_block.proofs.NewValueLemmas.{new_values_are_made}
use Rattle.gimv_diag.specs.DiagonalRules.{own_parts}
use Rattle.gimv_diag.specs.Rounds.{ListRoundsAreRounds}
use Rattle.gimv_diag.specs.Sending.{SentClosedIsStep}
use Rattle.pairs.specs.Pairs.{Pair, pair_before}
use Rattle.list_laws.specs.Classes.{IsOnce}
use Rattle.list_laws.proofs.Alls.{all_each}
use Rattle.list_laws.proofs.Classes.{made_by_class}
use Rattle.list_laws.proofs.Filters.{filter_agree_on}
use Rattle.list_laws.proofs.Images.{flat_map_agree, flat_map-flat_map}
use Rattle.list_laws.proofs.Orders.{in_order_flat}
use Rattle.list_laws.proofs.Permutations.{permuted_apart, permuted_each, same_items}
use Rattle.list_laws.proofs.Ranges.{once_in_range}
use Rattle.flow_core.proofs.Items.{items_of, sorted_of}
use Rattle.flow_block.specs.BlockFolders.{line_pair}
use Rattle.flow_block.proofs.BlockFirsts.{flat_map_where, turned}
use Rattle.flow_block.proofs.BlockJoins.{vector_pair}
use Rattle.flow_block.proofs.BlockMakes.{messages_in-flat}
use Rattle.flow_diag.specs.Closing.{closed}
use Rattle.flow_diag.proofs.ClosedValues.{closed_falls, mine}
use Rattle.flow_diag.proofs.DiagonalSends.{all_sent, as_pair, block_of_sent, closed_vector_fits, own_of, parts_in, sent_by, sent_of}

-- of a list's own parts one comes to each row
none_before : {Val Msg : Type 0} (as_msg : Val → Msg) (w : ℕ → Val) (o row i count : ℕ) → o < row → messages_in o (own_parts as_msg row (map w (range_with_len i count))) ≡ []
none_before as_msg w o row i zero before = refl
none_before as_msg w o row i (suc count) before =
    let no = ne_eqb row o (λ e. omega (arith, e)) in rw no (none_before as_msg w o (row + 1) (i + 1) count (omega arith))

one_own : {Val Msg : Type 0} (as_msg : Val → Msg) (w : ℕ → Val) (o row i count : ℕ) → row ≤ o → o < row + count → messages_in o (own_parts as_msg row (map w (range_with_len i count))) ≡ as_msg (w (i + (o - row))) ∷ []
one_own as_msg w o row i zero low high = absurd (omega arith)
one_own {Val} {Msg} as_msg w o row i (suc count) low high =
    elim (cases_Bool (eqb row o)) [
      | inl is ↦
          let same = eqb-true row o is in
          let here : i ≡ i + (o - row) = omega (arith, same) in
          rw is (ap (λ (ms : List Msg). as_msg (w i) ∷ ms) (none_before as_msg w o (row + 1) (i + 1) count (omega (arith, same))) ∙ ap (λ (k : ℕ). as_msg (w k) ∷ []) here)
      | inr isnt ↦
          let apart = eqb-false row o isnt in
          let next : (i + 1) + (o - (row + 1)) ≡ i + (o - row) = omega (arith, apart, low) in
          rw isnt (one_own as_msg w o (row + 1) (i + 1) count (omega (arith, apart, low)) (omega arith) ∙ ap (λ (k : ℕ). as_msg (w k) ∷ []) next)
    ]

module _ {Val Msg Weight : Type 0} (a : Algebra Val Msg Weight) (as_msg : Val → Msg) (laws : IsLawful a) (closing : IsClosing a as_msg) (list_rounds : ListRoundsAreRounds Val Msg Weight) (sent_closed : SentClosedIsStep Val Msg Weight)
    (len n : ℕ) (some : 1 ≤ len) (short : len ≤ 256) (few : n ≤ 2 ^ 32) (number : Weight → ℕ) (entries : List (Entry Weight)) (fits : EntriesFit a (first_nodes n) entries)
    (lines : List (BlockLine Weight)) (good : All (IsGoodLine a number len n) lines) (are_cut : AreCut entries (map (entries_of_line len) lines))
    (counts : ℕ → ℕ) (most : (i : ℕ) → counts i ≤ 1) (v : Vector Val) (vector : VectorFits a (first_nodes n) v) where
  abbrev In : ℕ → Type 0
  In j = j < block_count len n

  abbrev Sent : Type 0
  Sent = ℕ × List (ℕ × Msg)

  abbrev closed_vector : Vector Val
  closed_vector = closed a.algorithm len entries v

  abbrev next : Vector Val
  next = step a.algorithm entries closed_vector

  abbrev lines_at : ℕ → List (BlockLine Weight)
  lines_at = mine a as_msg laws closing list_rounds len n some number entries fits lines good are_cut

  abbrev own : ℕ → Sent
  own = own_of a as_msg laws closing list_rounds len n some short few number entries fits lines good are_cut counts most v vector

  abbrev passed : BlockLine Weight → Sent
  passed = sent_of a as_msg laws closing list_rounds len n some short few number entries fits lines good are_cut counts most v vector

  abbrev sends : ℕ → List Sent
  sends = sent_by a as_msg laws closing list_rounds len n some short few number entries fits lines good are_cut counts most v vector

  abbrev everything : List Sent
  everything = all_sent a as_msg laws closing list_rounds len n some short few number entries fits lines good are_cut counts most v vector

  abbrev pair : Sent → Pair
  pair = as_pair a as_msg laws closing list_rounds len n some short few number entries fits lines good are_cut counts most v vector

  abbrev to : Sent → ℕ
  to = block_of_sent a as_msg laws closing list_rounds len n some short few number entries fits lines good are_cut counts most v vector

  abbrev parts : Sent → List (ℕ × Msg)
  parts = parts_in a as_msg laws closing list_rounds len n some short few number entries fits lines good are_cut counts most v vector

  abbrev came : ℕ → List Sent
  came j = sorted_of decimal eqb pair to everything j

  small_items : All (λ (line : BlockLine Weight). All (λ (e : Entry Weight). e.row < len) line.items) lines
  small_items =
      All-weaker (IsGoodLine a number len n) (λ (line : BlockLine Weight). All (λ (e : Entry Weight). e.row < len) line.items) (λ line h.
      let placed = block_placed len n line.row_block some h.row_low in
      All-weaker (IsGoodItem a number (block_size len n line.row_block) (block_size len n line.column_block)) (λ (e : Entry Weight). e.row < len) (λ e g. omega (arith, g.row, placed.short)) line.items h.each) lines good

  module _ (j o : ℕ) (low : In j) (inside : o < block_size len n j) where
    abbrev node : ℕ
    node = node_at len j o

    -- what comes to the row of something that is sent
    abbrev here : Sent → List Msg
    here sent = messages_in o (parts sent)

    abbrev there : Sent → List Msg
    there sent = cond (eqb (to sent) j) (here sent) []

    abbrev lines_sent : List Msg
    lines_sent = flat_map (λ line. sent_to a.algorithm line closed_vector node) (map (entries_of_line len) lines)

    abbrev arrived : List Msg
    arrived = messages_in o (flat_map (λ sent. sent) (map parts (came j)))

    node_low : node < n
    node_low = let placed = block_placed len n j some low in omega (arith, inside, placed.end)

    own_message : here (own j) ≡ as_msg (closed_vector node) ∷ []
    own_message = one_own as_msg closed_vector o 0 (j * len) (block_size len n j) (omega arith) (omega (arith, inside)) ∙ (let at : j * len + (o - 0) ≡ node = omega arith in ap (λ (k : ℕ). as_msg (closed_vector k) ∷ []) at)

    line_parts : (line : BlockLine Weight) → there (passed line) ≡ messages_in o (parts_to a.algorithm len closed_vector j (block_size len n j) line)
    line_parts line =
        elim (cases_Bool (eqb line.row_block j)) [
          | inl is ↦ let same = eqb-true line.row_block j is in rw is (ap (λ (k : ℕ). messages_in o (parts_of a.algorithm (block_size len n k) (passed_by a.algorithm len closed_vector line))) same)
          | inr isnt ↦ rw isnt refl
        ]

    lines_are : flat_map (λ line. there (passed line)) lines ≡ lines_sent
    lines_are =
        let placed = block_placed len n j some low in
        let part : BlockLine Weight → List (ℕ × Msg) = parts_to a.algorithm len closed_vector j (block_size len n j) in
        flat_map_agree (λ line. there (passed line)) (λ line. messages_in o (part line)) lines (all_each (λ line. there (passed line) ≡ messages_in o (part line)) line_parts lines)
        ∙ sym (messages_in-flat o part lines)
        ∙ parts_are_sent a.algorithm len j (block_size len n j) o closed_vector placed.short inside lines small_items
        ∙ sym (flat_map-map (λ line. sent_to a.algorithm line closed_vector node) (entries_of_line len) lines)

    abbrev all : List ℕ
    all = all_blocks len n

    abbrev mine_there : ℕ → List Msg
    mine_there i = there (own i)

    abbrev theirs : ℕ → List Msg
    theirs i = flat_map there (map passed (lines_at i))

    firsts : flat_map mine_there all ≡ as_msg (closed_vector node) ∷ []
    firsts =
        flat_map_where (λ i. eqb i j) (λ i. here (own i)) all
        ∙ ap (flat_map (λ i. here (own i))) (filter_agree_on (λ i. eqb i j) (λ i. eqb j i) all (all_each (λ i. eqb i j ≡ eqb j i) (λ i. turned i j) all) ∙ once_in_range j 0 (block_count len n) (omega arith) (omega (arith, low)))
        ∙ append-nil (here (own j)) ∙ own_message

    seconds : IsPermutation (flat_map theirs all) lines_sent
    seconds =
        let column : BlockLine Weight → ℕ = λ line. line.column_block in
        let group : ℕ → List (BlockLine Weight) = items_of decimal eqb (line_pair number) column lines in
        let by_line : BlockLine Weight → List Msg = λ line. there (passed line) in
        subst (λ zs. IsPermutation (flat_map theirs all) zs) lines_are
        (IsPermutation-sym (flat_map by_line lines) (flat_map theirs all)
        (IsPermutation-trans (flat_map by_line lines) (flat_map (λ i. flat_map by_line (group i)) all) (flat_map theirs all)
        (made_by_class (λ line i. eqb (column line) i) by_line all lines (All-weaker (IsGoodLine a number len n) (λ line. IsOnce (λ i. eqb (column line) i) all) (λ line h. record { one = line.column_block; is = let inside' = h.column_low in once_in_range line.column_block 0 (block_count len n) (omega arith) (omega (arith, inside')) }) lines good))
        (permuted_each (λ i. flat_map by_line (group i)) theirs all (all_each (λ i. IsPermutation (flat_map by_line (group i)) (theirs i)) (λ i.
        subst (λ zs. IsPermutation (flat_map by_line (group i)) zs) (sym (flat_map-map there passed (lines_at i))) (in_order_flat (λ d e. pair_before (line_pair number d) (line_pair number e)) by_line (group i))) all))))

    -- of all that was sent
    all_there : IsPermutation (flat_map there everything) (as_msg (closed_vector node) ∷ lines_sent)
    all_there =
        let one : flat_map there everything ≡ flat_map (λ i. mine_there i ++ theirs i) all = flat_map-flat_map there sends all in
        subst (λ zs. IsPermutation zs (as_msg (closed_vector node) ∷ lines_sent)) (sym one)
        (IsPermutation-trans (flat_map (λ i. mine_there i ++ theirs i) all) (flat_map mine_there all ++ flat_map theirs all) (as_msg (closed_vector node) ∷ lines_sent) (permuted_apart mine_there theirs all)
        (IsPermutation-append (flat_map mine_there all) (as_msg (closed_vector node) ∷ []) (flat_map theirs all) lines_sent (same_items (flat_map mine_there all) (as_msg (closed_vector node) ∷ []) firsts) seconds))

    -- so the messages to the row
    moved : IsPermutation (as_msg (closed_vector node) ∷ lines_sent) arrived
    moved =
        let found = items_of decimal eqb pair to everything j in
        let back : flat_map here (came j) ≡ arrived = sym (messages_in-flat o parts (came j)) ∙ ap (messages_in o) (sym (flat_map-map (λ (sent : List (ℕ × Msg)). sent) parts (came j))) in
        let same : flat_map there everything ≡ flat_map here found = flat_map_where (λ sent. eqb (to sent) j) here everything in
        subst (λ zs. IsPermutation (as_msg (closed_vector node) ∷ lines_sent) zs) back
        (IsPermutation-trans (as_msg (closed_vector node) ∷ lines_sent) (flat_map here found) (flat_map here (came j))
        (subst (λ zs. IsPermutation (as_msg (closed_vector node) ∷ lines_sent) zs) same (IsPermutation-sym (flat_map there everything) (as_msg (closed_vector node) ∷ lines_sent) all_there))
        (in_order_flat (λ d e. pair_before (pair d) (pair e)) here found))

    new_value : a.algorithm.assign (v node) (all_of a.algorithm arrived) ≡ next node
    new_value =
        let is_node = lt-ltb node n node_low in
        sent_closed a as_msg laws closing (first_nodes n) entries (map (entries_of_line len) lines) v closed_vector fits vector
        (closed_vector_fits a as_msg laws closing list_rounds len n some short few number entries fits lines good are_cut counts most v vector) are_cut node is_node
        (closed_falls a as_msg laws closing list_rounds len n some number entries fits lines good are_cut v vector node is_node) arrived moved

  pub makes : (j : ℕ) → In j
      → new_values_line a j (map v (nodes_of_block len n j)) (new_values a (with_messages a (λ row. a.algorithm.unit) (flat_map (λ sent. sent) (map parts (came j)))) 0 (map v (nodes_of_block len n j)))
      ≡ pair_line (vector_pair a len n (differs a.algorithm v next) next j).0 (vector_pair a len n (differs a.algorithm v next) next j).1
  makes j low =
      let nodes = nodes_of_block len n j in
      let sent = flat_map (λ s. s) (map parts (came j)) in
      let renewed = new_values_are_made a (with_messages a (λ row. a.algorithm.unit) sent) v next (j * len) (block_size len n j) (λ o inside. new_value j o low inside) in
      ap (new_values_line a j (map v nodes)) renewed.values
      ∙ ap (λ (k : ℕ). pair_line (values_pair a j k (map next nodes)).0 (values_pair a j k (map next nodes)).1) renewed.changed
