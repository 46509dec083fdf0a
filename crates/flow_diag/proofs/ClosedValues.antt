-- The values that a child closes within a block are those of the closed vector.
use Rattle.std.proofs.Common.{◌≡◌, refl, sym, ap, ◌∙◌, subst, cond, eqb, leb, ltb, ℕ, zero, suc, ◌+◌, ◌-◌, ◌*◌, ◌<◌, ◌≤◌, IsTrue, List, [], ◌∷◌, ◌++◌, map, filter, decimal, inl, inr, arith}
use Rattle.std.specs.List.{All, flat_map}
use Rattle.std.specs.List.Sorted.{IsPermutation}
use Rattle.std.proofs.lemmas.Bool.{and_from, and_parts, cases_Bool, eqb-true, le-leb, lt-ltb, ltb-true}
use Rattle.std.proofs.lemmas.List.Elements.{All-nil, All-weaker, All-map, All-filter}
use Rattle.std.proofs.lemmas.List.FromFn.{length-map-range_with_len}
use Rattle.std.proofs.lemmas.List.Folds.{flat_map-map}
use Rattle.std.proofs.lemmas.List.Sorted.{IsPermutation-sym}
use Rattle.graph.specs.Entries.{Entry}
use Rattle.graph.specs.Steps.{Vector, messages_to, all_of, step}
use Rattle.graph.proofs.GatherLemmas.{messages_in_any_order}
use Rattle.gimv_core.specs.Algebras.{Algebra, EntryFits, EntriesFit, FitsMsg, FitsWeight, VectorFits}
use Rattle.gimv_core.specs.Closings.{IsClosing, IsNotAbove}
use Rattle.gimv_core.specs.Consequences.{block_nodes, first_nodes, rounds}
use Rattle.gimv_core.specs.Laws.{IsLawful}
use Rattle.gimv_core.proofs.Falling.{at_most_both, step_falls}
use Rattle.gimv_core.proofs.Fitting.{messages_fit, step_fits}
use Rattle.gimv_core.proofs.Rounds.{rounds_end}
use Rattle.gimv_block.specs.Blocks.{block_count, block_of, block_size, node_at, nodes_of_block}
use Rattle.gimv_block.specs.BlockFlow.{BlockLine, entries_of_line}
use Rattle.gimv_block.specs.BlockReadBack.{IsGoodItem, IsGoodLine}
use Rattle.gimv_block.specs.BlockSteps.{AreCut}
use Rattle.gimv_block.proofs.BlockLemmas.{same_place}
use Rattle.gimv_block.proofs.BlockNodes.{block_placed}
use Rattle.gimv_block.proofs.SendLemmas.{if_some_is}
use Rattle.gimv_diag.specs.declared.items.Item.{Item}
use Rattle.gimv_diag.specs.DiagonalRules.{closed_values, inner_items, inner_of, values_after}
use Rattle.gimv_diag.specs.Rounds.{IsInside, ListRoundsAreRounds, inner_entry}
use Rattle.pairs.specs.Pairs.{pair_before}
use Rattle.list_laws.proofs.Alls.{all_flat_map}
use Rattle.list_laws.proofs.Images.{flat_map_agree, map-flat_map, map-map, map_agree}
use Rattle.list_laws.proofs.Orders.{in_order_flat}
use Rattle.list_laws.proofs.Ranges.{all_in_range}
use Rattle.flow_core.proofs.Items.{items_of, sorted_of, sorted_of_all}
use Rattle.flow_block.specs.BlockFolders.{line_pair}
use Rattle.flow_diag.specs.Closing.{closed, inner_entries}
use Rattle.flow_diag.proofs.InnerSteps.{inner_steps, lines_messages, messages-flat, messages_agree, within}

-- an entry by its offsets, as an item
abbrev pub as_item : {Weight : Type 0} → Entry Weight → Item Weight
as_item e = record { row = e.row; column = e.column; weight = e.weight }

-- what a line of items is read as
abbrev pub raw : {Weight : Type 0} → BlockLine Weight → ℕ × List (Item Weight)
raw line = (line.row_block, map as_item line.items)

module _ {Val Msg Weight : Type 0} (a : Algebra Val Msg Weight) (as_msg : Val → Msg) (laws : IsLawful a) (closing : IsClosing a as_msg) (list_rounds : ListRoundsAreRounds Val Msg Weight)
    (len n : ℕ) (some : 1 ≤ len) (number : Weight → ℕ) (entries : List (Entry Weight)) (fits : EntriesFit a (first_nodes n) entries)
    (lines : List (BlockLine Weight)) (good : All (IsGoodLine a number len n) lines) (are_cut : AreCut entries (map (entries_of_line len) lines)) where
  abbrev inner : List (Entry Weight)
  inner = inner_entries len entries

  inner_fits : EntriesFit a (first_nodes n) inner
  inner_fits = All-filter (λ (e : Entry Weight). eqb (block_of len e.row) (block_of len e.column)) (EntryFits a (first_nodes n)) entries fits

  -- ---- closed vectors

  module _ (v : Vector Val) (vector : VectorFits a (first_nodes n) v) where
    rounds_fit : (k : ℕ) → VectorFits a (first_nodes n) (rounds a.algorithm inner k v)
    rounds_fit zero = vector
    rounds_fit (suc k) = step_fits a laws (first_nodes n) inner (rounds a.algorithm inner k v) inner_fits (rounds_fit k)

    rounds_fall : (k i : ℕ) → IsTrue (first_nodes n i) → IsNotAbove a as_msg (rounds a.algorithm inner k v i) (v i)
    rounds_fall zero i inside = closing.idempotent (as_msg (v i)) (closing.as_msg_fits (v i) (vector i inside))
    rounds_fall (suc k) i inside =
        let u = rounds a.algorithm inner k v in
        at_most_both a as_msg laws closing (as_msg (step a.algorithm inner u i)) (as_msg (u i)) (as_msg (v i))
        (closing.as_msg_fits (step a.algorithm inner u i) (rounds_fit (suc k) i inside)) (closing.as_msg_fits (u i) (rounds_fit k i inside)) (closing.as_msg_fits (v i) (vector i inside))
        (step_falls a as_msg laws closing (first_nodes n) inner inner_fits u i (rounds_fit k) inside) (rounds_fall k i inside)

    pub closed_fits : VectorFits a (first_nodes n) (closed a.algorithm len entries v)
    closed_fits = rounds_fit len

    pub closed_falls : (i : ℕ) → IsTrue (first_nodes n i) → IsNotAbove a as_msg (closed a.algorithm len entries v i) (v i)
    closed_falls = rounds_fall len

  -- ---- the items of a block

  abbrev column_of : BlockLine Weight → ℕ
  column_of line = line.column_block

  -- the lines of a column's block, in the order of their pairs
  abbrev pub mine : ℕ → List (BlockLine Weight)
  mine j = sorted_of decimal eqb (line_pair number) column_of lines j

  pub mine_good : (j : ℕ) → All (λ line. (line.column_block ≡ j) × IsGoodLine a number len n line) (mine j)
  mine_good j = sorted_of_all decimal eqb (line_pair number) column_of (λ x y. eqb-true x y) (IsGoodLine a number len n) lines j good

  abbrev pub items_in : ℕ → List (Item Weight)
  items_in j = inner_items j (map raw (mine j))

  module _ (j : ℕ) (low : j < block_count len n) where
    abbrev start : ℕ
    start = j * len

    abbrev size : ℕ
    size = block_size len n j

    abbrev own : List (Entry Weight)
    own = map (inner_entry start) (items_in j)

    node_low : (o : ℕ) → o < size → node_at len j o < n
    node_low o inside = let placed = block_placed len n j some low in omega (arith, inside, placed.end)

    node_block : (o : ℕ) → o < size → block_of len (node_at len j o) ≡ j
    node_block o inside = let placed = block_placed len n j some low in (same_place len j o (node_at len j o) (omega (arith, inside, placed.short)) refl).0

    line_inside : (line : BlockLine Weight) → line.column_block ≡ j → IsGoodLine a number len n line → All (IsInside a size) (inner_of j (raw line))
    line_inside line here h =
        elim (cases_Bool (eqb line.row_block j)) [
          | inl is ↦
              let there = eqb-true line.row_block j is in
              rw is (All-map (IsInside a size) as_item line.items (All-weaker (IsGoodItem a number (block_size len n line.row_block) (block_size len n line.column_block)) (λ e. IsInside a size (as_item e)) (λ e g. record {
                row = subst (λ (b : ℕ). e.row < block_size len n b) there g.row;
                column = subst (λ (b : ℕ). e.column < block_size len n b) here g.column;
                weight = if_some_is (FitsWeight a) (a.weight_of (decimal (number e.weight))) e.weight g.weighs (laws.weight_of_fits (decimal (number e.weight)));
              }) line.items h.each))
          | inr isnt ↦ rw isnt (All-nil (IsInside a size))
        ]

    items_inside : All (IsInside a size) (items_in j)
    items_inside =
        subst (All (IsInside a size)) (sym (flat_map-map (inner_of j) raw (mine j)))
        (all_flat_map (IsInside a size) (λ line. inner_of j (raw line)) (mine j) (All-weaker (λ line. (line.column_block ≡ j) × IsGoodLine a number len n line) (λ line. All (IsInside a size) (inner_of j (raw line))) (λ line h. line_inside line h.0 h.1) (mine j) (mine_good j)))

    own_fits : EntriesFit a (block_nodes start size) own
    own_fits =
        All-map (EntryFits a (block_nodes start size)) (inner_entry start) (items_in j) (All-weaker (IsInside a size) (λ item. EntryFits a (block_nodes start size) (inner_entry start item)) (λ item h. record {
          row_in = and_from _ _ (le-leb start (start + item.row) (omega arith)) (lt-ltb (start + item.row) (start + size) (omega (arith, h.row)));
          column_in = and_from _ _ (le-leb start (start + item.column) (omega arith)) (lt-ltb (start + item.column) (start + size) (omega (arith, h.column)));
          weight_fits = h.weight;
        }) (items_in j) items_inside)

    in_nodes : (w : Vector Val) → VectorFits a (first_nodes n) w → VectorFits a (block_nodes start size) w
    in_nodes w fit i inside =
        let placed = block_placed len n j some low in
        let high = ltb-true i (start + size) (and_parts (leb start i) (ltb i (start + size)) inside).1 in
        fit i (lt-ltb i n (omega (arith, high, placed.end)))

    -- ---- what they pass on

    abbrev row_entries : BlockLine Weight → List (Entry Weight)
    row_entries line = cond (eqb line.row_block j) (entries_of_line len line) []

    line_own : (line : BlockLine Weight) → line.column_block ≡ j → map (inner_entry start) (inner_of j (raw line)) ≡ row_entries line
    line_own line here =
        elim (cases_Bool (eqb line.row_block j)) [
          | inl is ↦
              let there = eqb-true line.row_block j is in
              rw is (map-map (inner_entry start) as_item line.items
              ∙ ap (λ (r : ℕ). map (λ (e : Entry Weight). record { row = node_at len r e.row; column = node_at len j e.column; weight = e.weight }) line.items) (sym there)
              ∙ ap (λ (c : ℕ). map (λ (e : Entry Weight). record { row = node_at len line.row_block e.row; column = node_at len c e.column; weight = e.weight }) line.items) (sym here))
          | inr isnt ↦ rw isnt refl
        ]

    own_are : own ≡ flat_map row_entries (mine j)
    own_are =
        ap (map (inner_entry start)) (flat_map-map (inner_of j) raw (mine j))
        ∙ map-flat_map (inner_entry start) (λ line. inner_of j (raw line)) (mine j)
        ∙ flat_map_agree (λ line. map (inner_entry start) (inner_of j (raw line))) row_entries (mine j) (All-weaker (λ line. (line.column_block ≡ j) × IsGoodLine a number len n line) (λ line. map (inner_entry start) (inner_of j (raw line)) ≡ row_entries line) (λ line h. line_own line h.0) (mine j) (mine_good j))

    small_items : All (λ (line : BlockLine Weight). All (λ (e : Entry Weight). (e.row < len) × (e.column < len)) line.items) lines
    small_items =
        All-weaker (IsGoodLine a number len n) (λ (line : BlockLine Weight). All (λ (e : Entry Weight). (e.row < len) × (e.column < len)) line.items) (λ line h.
        let of_row = block_placed len n line.row_block some h.row_low in
        let of_column = block_placed len n line.column_block some h.column_low in
        All-weaker (IsGoodItem a number (block_size len n line.row_block) (block_size len n line.column_block)) (λ (e : Entry Weight). (e.row < len) × (e.column < len)) (λ e g. (omega (arith, g.row, of_row.short), omega (arith, g.column, of_column.short))) line.items h.each) lines good

    module _ (w : Vector Val) (fit : VectorFits a (first_nodes n) w) (o : ℕ) (inside : o < size) where
      abbrev i : ℕ
      i = node_at len j o

      -- what a line passes on to the node, if it is within the block
      abbrev sent : BlockLine Weight → List Msg
      sent line = cond (within j line) (messages_to a.algorithm (entries_of_line len line) w i) []

      abbrev row_sent : BlockLine Weight → List Msg
      row_sent line = messages_to a.algorithm (row_entries line) w i

      by_column : (ls : List (BlockLine Weight)) → flat_map row_sent (filter (λ line. eqb (column_of line) j) ls) ≡ flat_map sent ls
      by_column [] = refl
      by_column (line ∷ ls) =
          let later = by_column ls in
          elim (cases_Bool (eqb line.column_block j)) [
            | inl is ↦ elim (cases_Bool (eqb line.row_block j)) [
              | inl too ↦ rw (is, too) (ap (λ (ms : List Msg). messages_to a.algorithm (entries_of_line len line) w i ++ ms) later)
              | inr apart ↦ rw (is, apart) later
            ]
            | inr isnt ↦ rw isnt later
          ]

      moved : IsPermutation (messages_to a.algorithm own w i) (flat_map sent lines)
      moved =
          let found = items_of decimal eqb (line_pair number) column_of lines j in
          let is : messages_to a.algorithm own w i ≡ flat_map row_sent (mine j) = ap (λ (es : List (Entry Weight)). messages_to a.algorithm es w i) own_are ∙ messages-flat a.algorithm row_entries (mine j) w i in
          subst (λ zs. IsPermutation zs (flat_map sent lines)) (sym is)
          (IsPermutation-sym (flat_map sent lines) (flat_map row_sent (mine j)) (subst (λ zs. IsPermutation zs (flat_map row_sent (mine j))) (by_column lines) (in_order_flat (λ d e. pair_before (line_pair number d) (line_pair number e)) row_sent found)))

      passes : All (λ (e : Entry Weight). FitsMsg a (a.algorithm.combine2 e.weight (w e.column))) entries
      passes = All-weaker (EntryFits a (first_nodes n)) (λ (e : Entry Weight). FitsMsg a (a.algorithm.combine2 e.weight (w e.column))) (λ e h. laws.combine2_fits e.weight (w e.column) h.weight_fits (fit e.column h.column_in)) entries fits

      -- a step along the block's own items is one along all entries within blocks
      own_step : step a.algorithm own w i ≡ step a.algorithm inner w i
      own_step =
          let all = flat_map (entries_of_line len) lines in
          let cut : IsPermutation entries all = subst (IsPermutation entries) (flat_map-map (λ (l : List (Entry Weight)). l) (entries_of_line len) lines) are_cut in
          ap (a.algorithm.assign (w i)) (messages_in_any_order a.algorithm a.fits_msg laws.in_any_order (messages_to a.algorithm own w i) (flat_map sent lines) (messages_fit a laws (block_nodes start size) own w i own_fits (in_nodes w fit)) moved)
          ∙ ap (λ (ms : List Msg). a.algorithm.assign (w i) (all_of a.algorithm ms)) (sym (lines_messages a.algorithm len j some w i (node_block o inside) lines small_items))
          ∙ sym (inner_steps len n a laws w entries all passes cut i (node_low o inside))

    -- ---- rounds

    module _ (v : Vector Val) (vector : VectorFits a (first_nodes n) v) where
      own_rounds : (k o : ℕ) → o < size → rounds a.algorithm own k v (node_at len j o) ≡ rounds a.algorithm inner k v (node_at len j o)
      own_rounds zero o inside = refl
      own_rounds (suc k) o inside =
          let u = rounds a.algorithm own k v in
          let w = rounds a.algorithm inner k v in
          let node = node_at len j o in
          let agree : All (λ (e : Entry Weight). u e.column ≡ w e.column) own =
          All-map (λ (e : Entry Weight). u e.column ≡ w e.column) (inner_entry start) (items_in j) (All-weaker (IsInside a size) (λ item. u (start + item.column) ≡ w (start + item.column)) (λ item h. own_rounds k item.column h.column) (items_in j) items_inside) in
          ap (λ (x : Val). a.algorithm.assign x (all_of a.algorithm (messages_to a.algorithm own u node))) (own_rounds k o inside)
          ∙ ap (λ (ms : List Msg). a.algorithm.assign (w node) (all_of a.algorithm ms)) (messages_agree a.algorithm u w node own agree)
          ∙ own_step w (rounds_fit v vector k) o inside

      later_rounds : (d o : ℕ) → o < size → rounds a.algorithm own (size + d) v (node_at len j o) ≡ rounds a.algorithm own size v (node_at len j o)
      later_rounds zero o inside = let same : size + 0 ≡ size = omega arith in ap (λ (k : ℕ). rounds a.algorithm own k v (node_at len j o)) same
      later_rounds (suc d) o inside =
          let next : size + suc d ≡ suc (size + d) = omega arith in
          let in_block = and_from _ _ (le-leb start (node_at len j o) (omega arith)) (lt-ltb (node_at len j o) (start + size) (omega (arith, inside))) in
          ap (λ (k : ℕ). rounds a.algorithm own k v (node_at len j o)) next
          ∙ rounds_end a as_msg laws closing start size own v own_fits (in_nodes v vector) (size + d) (omega arith) (node_at len j o) in_block
          ∙ later_rounds d o inside

      closed_at : (o : ℕ) → o < size → rounds a.algorithm own size v (node_at len j o) ≡ closed a.algorithm len entries v (node_at len j o)
      closed_at o inside =
          let placed = block_placed len n j some low in
          let all : size + (len - size) ≡ len = omega (arith, placed.short) in
          sym (later_rounds (len - size) o inside) ∙ ap (λ (k : ℕ). rounds a.algorithm own k v (node_at len j o)) all ∙ own_rounds len o inside

      -- so the values that a child closes are the closed vector's
      pub closed_here : closed_values a (items_in j) (map v (nodes_of_block len n j)) ≡ map (closed a.algorithm len entries v) (nodes_of_block len n j)
      closed_here =
          let nodes = nodes_of_block len n j in
          let mine' = rounds a.algorithm own size v in
          let theirs = closed a.algorithm len entries v in
          ap (values_after a (items_in j) (map v nodes)) (length-map-range_with_len v start size)
          ∙ list_rounds a start size (items_in j) v items_inside size
          ∙ map_agree mine' theirs nodes (All-weaker (λ x. (start ≤ x) × (x < start + size)) (λ x. mine' x ≡ theirs x) (λ x h.
          let at : node_at len j (x - start) ≡ x = omega (arith, h.0) in
          subst (λ (y : ℕ). mine' y ≡ theirs y) at (closed_at (x - start) (omega (arith, h.0, h.1)))) nodes (all_in_range start size))
