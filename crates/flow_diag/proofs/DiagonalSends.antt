-- What a block sends after its values were closed, and what comes to a block.
use Rattle.std.proofs.Common.{◌≡◌, ◌≢◌, refl, sym, ap, ◌∙◌, subst, eqb, ℕ, ◌+◌, ◌*◌, ◌<◌, ◌≤◌, ◌^◌, List, [], ◌∷◌, ◌++◌, map, length, decimal, Option, Some, option_map, option_and_then, arith}
use Rattle.std.specs.List.{All, flat_map, join_with_byte}
use Rattle.std.proofs.lemmas.Bool.{lt-ltb}
use Rattle.std.proofs.lemmas.List.Concat.{flat_map_single}
use Rattle.std.proofs.lemmas.List.Elements.{All-nil, All-cons, All-head, All-tail, All-weaker, All-map}
use Rattle.std.proofs.lemmas.List.Folds.{flat_map-map}
use Rattle.std.proofs.lemmas.List.FromFn.{length-map-range_with_len}
use Rattle.peg_text.specs.Pairs.{pair_line}
use Rattle.graph.specs.Entries.{Entry}
use Rattle.graph.specs.Steps.{Vector}
use Rattle.gimv_core.specs.Algebras.{Algebra, EntriesFit, FitsMsg, VectorFits}
use Rattle.gimv_core.specs.Closings.{IsClosing}
use Rattle.gimv_core.specs.Consequences.{first_nodes}
use Rattle.gimv_core.specs.Laws.{IsLawful}
use Rattle.gimv_core.proofs.DecimalTexts.{decimal_plain}
use Rattle.gimv_base.specs.ReadBack.{ReadsAs}
use Rattle.gimv_block.specs.Blocks.{block_count, block_size, node_at, nodes_of_block, all_blocks}
use Rattle.gimv_block.specs.BlockFlow.{BlockLine, entries_of_line, passed_by}
use Rattle.gimv_block.specs.BlockLines.{item_text, parts_line, parts_of, parts_pair}
use Rattle.gimv_block.specs.BlockReadBack.{IsGoodItem, IsGoodLine, numbered_entry}
use Rattle.gimv_block.specs.BlockRecords.{parts_record_of, sent_record_of}
use Rattle.gimv_block.specs.BlockSteps.{AreCut}
use Rattle.gimv_block.specs.Items.{around_colon, items_of}
use Rattle.gimv_block.proofs.BackLemmas.{IsItem, around-is, get_mapped, item_plain, items_back, line_back, number_below-decimal, parts_read_back}
use Rattle.gimv_block.proofs.BlockNodes.{block_placed, nodes_in_block}
use Rattle.gimv_diag.specs.declared.items.Item.{Item}
use Rattle.gimv_diag.specs.DiagonalRules.{closed_lines, own_line, own_parts, passed_from, passed_line, passed_value, raw_fields, raw_item_of, raw_line_of, raw_record_of, sent_lines, weighed_of}
use Rattle.gimv_diag.specs.Rounds.{ListRoundsAreRounds}
use Rattle.pairs.specs.Pairs.{Pair, IsPlain, pairs_text}
use Rattle.list_laws.proofs.Alls.{all_both, all_flat_map}
use Rattle.list_laws.proofs.Images.{flat_map_agree, map-map}
use Rattle.list_laws.proofs.Ranges.{all_below}
use Rattle.flow_core.specs.Holding.{record_of}
use Rattle.flow_core.proofs.Joins.{Joins}
use Rattle.flow_core.proofs.Records.{pairs_text-map}
use Rattle.flow_base.proofs.Stages.{before_by_values, plain_from}
use Rattle.flow_block.specs.BlockFolders.{line_pair}
use Rattle.flow_block.proofs.BlockJoins.{blocks_few, joins1, parts_back, size_few, values_long, vector_pair, columns_of, passed}
use Rattle.flow_block.proofs.PartsSent.{IsGoodPart}
use Rattle.flow_diag.specs.Closing.{closed}
use Rattle.flow_diag.proofs.ClosedValues.{as_item, closed_fits, closed_here, mine, mine_good, raw}

-- a list's parts of its own, from a row on
own_good : {Val Msg Weight : Type 0} (a : Algebra Val Msg Weight) (as_msg : Val → Msg) (row rows : ℕ) (vs : List Val) → row + length vs ≤ rows → All (λ v. FitsMsg a (as_msg v)) vs → All (IsGoodPart a rows) (own_parts as_msg row vs)
own_good a as_msg row rows [] few all = All-nil (IsGoodPart a rows)
own_good a as_msg row rows (v ∷ vs) few all =
    All-cons (IsGoodPart a rows) (row, as_msg v) (own_parts as_msg (row + 1) vs) (omega arith, All-head (λ w. FitsMsg a (as_msg w)) v vs all) (own_good a as_msg (row + 1) rows vs (omega arith) (All-tail (λ w. FitsMsg a (as_msg w)) v vs all))

own_some : {Val Msg : Type 0} (as_msg : Val → Msg) (vs : List Val) → 1 ≤ length vs → own_parts as_msg 0 vs ≢ []
own_some as_msg [] some = absurd (omega arith)
own_some as_msg (v ∷ vs) some = λ none. cc

module _ {Val Msg Weight : Type 0} (a : Algebra Val Msg Weight) (as_msg : Val → Msg) (laws : IsLawful a) (closing : IsClosing a as_msg) (list_rounds : ListRoundsAreRounds Val Msg Weight)
    (len n : ℕ) (some : 1 ≤ len) (short : len ≤ 256) (few : n ≤ 2 ^ 32) (number : Weight → ℕ) (entries : List (Entry Weight)) (fits : EntriesFit a (first_nodes n) entries)
    (lines : List (BlockLine Weight)) (good : All (IsGoodLine a number len n) lines) (are_cut : AreCut entries (map (entries_of_line len) lines))
    (counts : ℕ → ℕ) (most : (i : ℕ) → counts i ≤ 1) (v : Vector Val) (vector : VectorFits a (first_nodes n) v) where
  abbrev In : ℕ → Type 0
  In j = j < block_count len n

  abbrev GoodLine : BlockLine Weight → Type 0
  GoodLine line = IsGoodLine a number len n line

  abbrev heads : ℕ → Pair
  heads = vector_pair a len n counts v

  abbrev values_at : ℕ → ℕ × List Val
  values_at j = (j, map v (nodes_of_block len n j))

  abbrev pub line_kind : ℕ × List Val → List ℕ → Option (ℕ × List (Item Weight))
  line_kind block = raw_record_of a len n block.0 (length block.1)

  abbrev columns : BlockLine Weight → ℕ
  columns line = line.column_block

  abbrev lines_at : ℕ → List (BlockLine Weight)
  lines_at = mine a as_msg laws closing list_rounds len n some number entries fits lines good are_cut

  -- ---- lines of items are read

  item_back : (rows columns' : ℕ) → rows ≤ 256 → columns' ≤ 256 → (e : Entry Weight) → IsGoodItem a number rows columns' e → raw_item_of a rows columns' (item_text (numbered_entry number e)) ≡ Some (as_item e)
  item_back rows columns' few_rows few_columns e g =
      let row = g.row in
      let column = g.column in
      let of_row = decimal_plain e.row (omega (arith, row)) in
      let of_column = decimal_plain e.column (omega (arith, column)) in
      let weight = decimal (number e.weight) in
      let rest = decimal e.column ++ (58 ∷ weight) in
      ap (option_and_then (raw_fields a rows columns')) (around-is 58 (decimal e.row) rest of_row.no_colon)
      ∙ ap (option_and_then (λ (r : ℕ). option_and_then (weighed_of a r columns') (around_colon rest))) (number_below-decimal rows e.row row (omega arith))
      ∙ ap (option_and_then (weighed_of a e.row columns')) (around-is 58 (decimal e.column) weight of_column.no_colon)
      ∙ ap (option_and_then (λ (k : ℕ). option_map (λ (w : Weight). record { row = e.row; column = k; weight = w }) (a.weight_of weight))) (number_below-decimal columns' e.column column (omega arith))
      ∙ ap (option_map (λ (w : Weight). record { row = e.row; column = e.column; weight = w })) g.weighs

  raw_back : (line : BlockLine Weight) → GoodLine line → line_kind (values_at line.column_block) (record_of (line_pair number line)) ≡ Some (raw line)
  raw_back line h =
      let j = line.column_block in
      let i = line.row_block in
      let rows = block_size len n i in
      let size = block_size len n j in
      let kind = raw_item_of a rows size in
      let text : Entry Weight → List ℕ = λ e. item_text (numbered_entry number e) in
      let back : items_of kind (join_with_byte 44 (map text line.items)) ≡ Some (map as_item line.items) =
      items_back kind text as_item line.items h.items_some (All-weaker (IsGoodItem a number rows size) (IsItem kind text as_item) (λ e g. record {
        is = item_back rows size (size_few a laws len n some short few i) (size_few a laws len n some short few j) e g;
        plain = item_plain a number len n line some few h e g;
      }) line.items h.each) in
      ap (λ (count : ℕ). raw_record_of a len n j count (record_of (line_pair number line))) (length-map-range_with_len v (j * len) size)
      ∙ ap (option_and_then (raw_line_of a len n size)) (line_back a number len n line some few h).is
      ∙ ap (λ (ts : List (List ℕ)). option_map (λ (es : List (Item Weight)). (i, es)) (items_of kind (join_with_byte 44 ts))) (map-map item_text (numbered_entry number) line.items)
      ∙ ap (option_map (λ (es : List (Item Weight)). (i, es))) back

  abbrev pub JoinsRaw : BlockLine Weight → Type 0
  JoinsRaw = Joins decimal eqb In heads values_at (line_pair number) columns raw line_kind

  pub joins_raw : All JoinsRaw lines
  joins_raw =
      let Before : BlockLine Weight → Type 0 = Joins decimal eqb In heads values_at (line_pair number) (columns_of a laws len n some short few counts most v vector number) (passed a laws len n some short few counts most v vector number) (λ (block : ℕ × List Val). sent_record_of a len n block.0 block.1) in
      All-weaker (λ line. Before line × GoodLine line) JoinsRaw (λ line h. record { behind = h.0.behind; plain = h.0.plain; reads = raw_back line h.1 }) lines
      (all_both Before GoodLine lines (joins1 a laws len n some short few counts most v vector number lines good) good)

  -- ---- what is sent

  abbrev pub closed_vector : Vector Val
  closed_vector = closed a.algorithm len entries v

  pub closed_vector_fits : VectorFits a (first_nodes n) closed_vector
  closed_vector_fits = closed_fits a as_msg laws closing list_rounds len n some number entries fits lines good are_cut v vector

  abbrev closed_of : ℕ → List Val
  closed_of j = map closed_vector (nodes_of_block len n j)

  -- a block, and messages to its rows
  abbrev pub as_pair : ℕ × List (ℕ × Msg) → Pair
  as_pair sent = parts_pair a sent.0 sent.1

  abbrev pub own_of : ℕ → ℕ × List (ℕ × Msg)
  own_of j = (j, own_parts as_msg 0 (closed_of j))

  abbrev pub sent_of : BlockLine Weight → ℕ × List (ℕ × Msg)
  sent_of line = (line.row_block, parts_of a.algorithm (block_size len n line.row_block) (passed_by a.algorithm len closed_vector line))

  abbrev pub sent_by : ℕ → List (ℕ × List (ℕ × Msg))
  sent_by j = own_of j ∷ map sent_of (lines_at j)

  passed_is : (j : ℕ) (line : BlockLine Weight) → line.column_block ≡ j → GoodLine line → flat_map (passed_from a (closed_of j)) (map as_item line.items) ≡ passed_by a.algorithm len closed_vector line
  passed_is j line here h =
      let size = block_size len n j in
      let theirs : Entry Weight → ℕ × Msg = λ e. (e.row, a.algorithm.combine2 e.weight (closed_vector (node_at len line.column_block e.column))) in
      flat_map-map (passed_from a (closed_of j)) as_item line.items
      ∙ flat_map_agree (λ e. passed_from a (closed_of j) (as_item e)) (λ e. theirs e ∷ []) line.items (All-weaker (IsGoodItem a number (block_size len n line.row_block) (block_size len n line.column_block)) (λ e. passed_from a (closed_of j) (as_item e) ≡ theirs e ∷ []) (λ e g.
      ap (passed_value a (as_item e)) (get_mapped closed_vector (j * len) size e.column (subst (λ (b : ℕ). e.column < block_size len n b) here g.column))
      ∙ ap (λ (b : ℕ). (e.row, a.algorithm.combine2 e.weight (closed_vector (node_at len b e.column))) ∷ []) (sym here)) line.items h.each)
      ∙ flat_map_single theirs line.items

  line_is : (j : ℕ) (line : BlockLine Weight) → line.column_block ≡ j → GoodLine line → passed_line a len n (closed_of j) (raw line) ≡ pair_line (as_pair (sent_of line)).0 (as_pair (sent_of line)).1
  line_is j line here h = ap (λ (sent : List (ℕ × Msg)). parts_line a len n (line.row_block, sent)) (passed_is j line here h)

  lines_are : (j : ℕ) → flat_map (passed_line a len n (closed_of j)) (map raw (lines_at j)) ≡ pairs_text (map as_pair (map sent_of (lines_at j)))
  lines_are j =
      let good_here = mine_good a as_msg laws closing list_rounds len n some number entries fits lines good are_cut j in
      flat_map-map (passed_line a len n (closed_of j)) raw (lines_at j)
      ∙ flat_map_agree (λ line. passed_line a len n (closed_of j) (raw line)) (λ line. pair_line (as_pair (sent_of line)).0 (as_pair (sent_of line)).1) (lines_at j) (All-weaker (λ line. (line.column_block ≡ j) × GoodLine line) (λ line. passed_line a len n (closed_of j) (raw line) ≡ pair_line (as_pair (sent_of line)).0 (as_pair (sent_of line)).1) (λ line h. line_is j line h.0 h.1) (lines_at j) good_here)
      ∙ pairs_text-map (λ line. as_pair (sent_of line)) (lines_at j)
      ∙ ap pairs_text (sym (map-map as_pair sent_of (lines_at j)))

  abbrev pub closing_out : ℕ × List Val → List (ℕ × List (Item Weight)) → List ℕ
  closing_out block ys = closed_lines a as_msg len n block.0 ys block.1

  pub writes_is : (j : ℕ) → In j → closing_out (values_at j) (map raw (lines_at j)) ≡ pairs_text (map as_pair (sent_by j))
  writes_is j low =
      let vs = map v (nodes_of_block len n j) in
      let ls = map raw (lines_at j) in
      ap (sent_lines a as_msg len n j ls) (closed_here a as_msg laws closing list_rounds len n some number entries fits lines good are_cut j low v vector)
      ∙ ap (λ (t : List ℕ). own_line a as_msg j (closed_of j) ++ t) (lines_are j)

  -- ---- what comes to a block

  record IsSound (sent : ℕ × List (ℕ × Msg)) : Type 0 where
    low : In sent.0
    back : ReadsAs (parts_record_of a (block_size len n sent.0)) (record_of (as_pair sent)) (Some sent.1)

  own_sound : (j : ℕ) → In j → IsSound (own_of j)
  own_sound j low =
      let size = block_size len n j in
      let placed = block_placed len n j some low in
      let long : length (closed_of j) ≡ size = length-map-range_with_len closed_vector (j * len) size in
      let each : All (λ w. FitsMsg a (as_msg w)) (closed_of j) =
      All-map (λ w. FitsMsg a (as_msg w)) closed_vector (nodes_of_block len n j) (All-weaker (λ i. (j * len ≤ i) × (i < n)) (λ i. FitsMsg a (as_msg (closed_vector i))) (λ i h. closing.as_msg_fits (closed_vector i) (closed_vector_fits i (lt-ltb i n h.1))) (nodes_of_block len n j) (nodes_in_block len n j some low)) in record {
        low = low;
        back = parts_read_back a laws j size (own_parts as_msg 0 (closed_of j)) (omega (arith, low, blocks_few a laws len n some short few)) (omega (arith, size_few a laws len n some short few j))
            (own_some as_msg (closed_of j) (omega (arith, long, placed.some))) (own_good a as_msg 0 size (closed_of j) (omega (arith, long)) each);
      }

  line_sound : (line : BlockLine Weight) → GoodLine line → IsSound (sent_of line)
  line_sound line h = record { low = h.row_low; back = parts_back a laws len n some short few counts most closed_vector closed_vector_fits number line h }

  abbrev pub all_sent : List (ℕ × List (ℕ × Msg))
  all_sent = flat_map sent_by (all_blocks len n)

  block_sound : (j : ℕ) → In j → All IsSound (sent_by j)
  block_sound j low =
      let good_here = mine_good a as_msg laws closing list_rounds len n some number entries fits lines good are_cut j in
      All-cons IsSound (own_of j) (map sent_of (lines_at j)) (own_sound j low) (All-map IsSound sent_of (lines_at j) (All-weaker (λ line. (line.column_block ≡ j) × GoodLine line) (λ line. IsSound (sent_of line)) (λ line h. line_sound line h.1) (lines_at j) good_here))

  sound_plain : (sent : ℕ × List (ℕ × Msg)) → IsSound sent → IsPlain (as_pair sent)
  sound_plain sent h = let low = h.low in plain_from (as_pair sent) sent.0 refl (omega (arith, low, blocks_few a laws len n some short few)) h.back.one_record

  pub passes_on : (j : ℕ) → In j → (closing_out (values_at j) (map raw (lines_at j)) ≡ pairs_text (map as_pair (sent_by j))) × All IsPlain (map as_pair (sent_by j))
  passes_on j low = (writes_is j low, All-map IsPlain as_pair (sent_by j) (All-weaker IsSound (λ sent. IsPlain (as_pair sent)) sound_plain (sent_by j) (block_sound j low)))

  abbrev pub block_of_sent : ℕ × List (ℕ × Msg) → ℕ
  block_of_sent sent = sent.0

  abbrev pub parts_in : ℕ × List (ℕ × Msg) → List (ℕ × Msg)
  parts_in sent = sent.1

  abbrev pub JoinsSent : ℕ × List (ℕ × Msg) → Type 0
  JoinsSent = Joins decimal eqb In heads values_at as_pair block_of_sent parts_in (λ (block : ℕ × List Val). parts_record_of a (length block.1))

  pub joins_sent : All JoinsSent all_sent
  joins_sent =
      All-weaker IsSound JoinsSent (λ sent h. record {
        behind = record { is_at = record { has_key = refl; inside = h.low }; behind = before_by_values (heads sent.0) (as_pair sent) refl refl };
        plain = sound_plain sent h;
        reads = ap (λ (rows : ℕ). parts_record_of a rows (record_of (as_pair sent))) (values_long a laws len n some short few counts most v vector sent.0) ∙ h.back.is;
      }) all_sent (all_flat_map IsSound sent_by (all_blocks len n) (all_below (block_count len n) (λ j. All IsSound (sent_by j)) block_sound))
