-- The two joins of a step in blocks: the premises of one step of any form.
use Rattle.std.proofs.Common.{◌≡◌, ◌≢◌, refl, sym, ap, ◌∙◌, true, ℕ, ◌*◌, ◌<◌, ◌≤◌, ◌^◌, eqb, List, [], ◌∷◌, ◌++◌, map, length, sum_by, decimal, Some, inl, inr, arith}
use Rattle.std.specs.List.{All, join_with_byte}
use Rattle.std.specs.Ordering.{is_le}
use Rattle.std.proofs.lemmas.Bool.{cases_Bool, lt-ltb}
use Rattle.std.proofs.lemmas.List.{append-nil}
use Rattle.std.proofs.lemmas.List.Elements.{All-nil, All-cons, All-head, All-weaker, All-map}
use Rattle.std.proofs.lemmas.List.FromFn.{length-range_with_len, length-map-range_with_len}
use Rattle.std.proofs.lemmas.List.Sums.{sum_by-cons}
use Rattle.peg_text.specs.Pairs.{pair_line}
use Rattle.graph.specs.Entries.{Entry}
use Rattle.graph.specs.Steps.{Vector}
use Rattle.gimv_core.specs.Algebras.{Algebra, FitsVal, FitsMsg, FitsWeight, VectorFits}
use Rattle.gimv_core.specs.Consequences.{first_nodes}
use Rattle.gimv_core.specs.Laws.{IsLawful}
use Rattle.gimv_base.specs.ReadBack.{ReadsAs}
use Rattle.gimv_block.specs.Blocks.{block_count, block_size, node_at, nodes_of_block}
use Rattle.gimv_block.specs.BlockFlow.{BlockLine, passed_by}
use Rattle.gimv_block.specs.BlockLines.{item_text, parts_line, parts_of, parts_pair, values_pair}
use Rattle.gimv_block.specs.BlockReadBack.{IsGoodItem, IsGoodLine, numbered_entry}
use Rattle.gimv_block.specs.BlockRecords.{block_record_of, link_tag, parts_record_of, sent_record_of}
use Rattle.gimv_block.proofs.BackLemmas.{blocks_read_back, lines_read_back, parts_read_back}
use Rattle.gimv_block.proofs.BlockNodes.{block_placed, count_low, nodes_in_block}
use Rattle.gimv_block.proofs.SendLemmas.{if_some_is}
use Rattle.pairs.specs.Pairs.{Pair, IsPlain, bytes_cmp, pairs_text}
use Rattle.flow_core.specs.Holding.{record_of}
use Rattle.flow_core.proofs.Joins.{Joins}
use Rattle.flow_base.proofs.Stages.{plain_from, before_by_values}
use Rattle.flow_block.specs.BlockFolders.{line_pair}
use Rattle.flow_block.proofs.Listing.{line_plain}
use Rattle.flow_block.proofs.PartsSent.{parts_fit, parts_some}

pub sum_most : (counts : ℕ → ℕ) → ((i : ℕ) → counts i ≤ 1) → (is : List ℕ) → sum_by counts is ≤ length is
sum_most counts most [] = omega arith
sum_most counts most (i ∷ is) = omega (arith, sum_by-cons counts i is, most i, sum_most counts most is)

-- a block's values in a vector, and how many of them count as changed
abbrev pub vector_pair : {Val Msg Weight : Type 0} → Algebra Val Msg Weight → ℕ → ℕ → (ℕ → ℕ) → Vector Val → ℕ → Pair
vector_pair a len n counts v block = values_pair a block (sum_by counts (nodes_of_block len n block)) (map v (nodes_of_block len n block))

module _ {Val Msg Weight : Type 0} (a : Algebra Val Msg Weight) (laws : IsLawful a) (len n : ℕ) (some : 1 ≤ len) (short : len ≤ 256) (few : n ≤ 2 ^ 32) where
  abbrev pub IsBlock : ℕ → Type 0
  IsBlock j = j < block_count len n

  pub blocks_few : block_count len n ≤ 2 ^ 32
  blocks_few = omega (arith, count_low len n some)

  pub size_few : (j : ℕ) → block_size len n j ≤ 256
  size_few j = omega arith

  module _ (counts : ℕ → ℕ) (most : (i : ℕ) → counts i ≤ 1) (v : Vector Val) (vector : VectorFits a (first_nodes n) v) where
    abbrev values : ℕ → List Val
    values j = map v (nodes_of_block len n j)

    abbrev pub block_at : ℕ → ℕ × List Val
    block_at j = (j, values j)

    abbrev pub head : ℕ → Pair
    head j = vector_pair a len n counts v j

    pub values_long : (j : ℕ) → length (values j) ≡ block_size len n j
    values_long j = length-map-range_with_len v (j * len) (block_size len n j)

    pub changes_few : (j : ℕ) → sum_by counts (nodes_of_block len n j) ≤ 256
    changes_few j =
        let sum = sum_most counts most (nodes_of_block len n j) in
        let long = length-range_with_len (j * len) (block_size len n j) in
        omega (arith, sum, long, size_few j)

    block_back : (j : ℕ) → IsBlock j → ReadsAs (block_record_of a len n) (record_of (head j)) (Some (block_at j))
    block_back j low =
        let placed = block_placed len n j some low in
        let nodes = nodes_of_block len n j in
        blocks_read_back a laws len n j (sum_by counts nodes) (values j) low few blocks_few (changes_few j)
        (λ none. let gone = ap length none in omega (arith, gone, values_long j, placed.some)) (values_long j)
        (All-map (FitsVal a) v nodes (All-weaker (λ i. (j * len ≤ i) × (i < n)) (λ i. FitsVal a (v i)) (λ i h. vector i (lt-ltb i n h.1)) nodes (nodes_in_block len n j some low)))

    pub heads_good : (j : ℕ) → IsBlock j → IsPlain (head j) × (block_record_of a len n (record_of (head j)) ≡ Some (block_at j))
    heads_good j low = let back = block_back j low in (plain_from (head j) j refl (omega (arith, blocks_few)) back.one_record, back.is)

    -- ---- lines of items

    module _ (number : Weight → ℕ) where
      abbrev GoodLine : BlockLine Weight → Type 0
      GoodLine line = IsGoodLine a number len n line

      abbrev GoodItem : BlockLine Weight → Entry Weight → Type 0
      GoodItem line e = IsGoodItem a number (block_size len n line.row_block) (block_size len n line.column_block) e

      abbrev pub passed : BlockLine Weight → ℕ × List (ℕ × Msg)
      passed line = (line.row_block, passed_by a.algorithm len v line)

      abbrev pub columns_of : BlockLine Weight → ℕ
      columns_of line = line.column_block

      abbrev pub rows_of : BlockLine Weight → ℕ
      rows_of line = line.row_block

      tag_behind : (j i : ℕ) (count rest : List ℕ) → is_le (bytes_cmp (86 ∷ 32 ∷ count) (link_tag j i ∷ 32 ∷ rest)) ≡ true
      tag_behind j i count rest = elim (cases_Bool (eqb i j)) [ inl is ↦ rw is refl | inr isnt ↦ rw isnt refl ]

      abbrev Joins1 : BlockLine Weight → Type 0
      Joins1 = Joins decimal eqb IsBlock head block_at (line_pair number) columns_of passed (λ block. sent_record_of a len n block.0 block.1)

      pub joins1 : (xs : List (BlockLine Weight)) → All GoodLine xs → All Joins1 xs
      joins1 xs good =
          All-weaker GoodLine Joins1 (λ line h.
          let j = line.column_block in
          let count = decimal (sum_by counts (nodes_of_block len n j)) ++ (32 ∷ join_with_byte 44 (map a.val_text (values j))) in
          let rest = decimal line.row_block ++ (32 ∷ join_with_byte 44 (map item_text (map (numbered_entry number) line.items))) in record {
            behind = record { is_at = record { has_key = refl; inside = h.column_low }; behind = before_by_values (head j) (line_pair number line) refl (tag_behind j line.row_block count rest) };
            plain = line_plain a number len n some few line h;
            reads = (lines_read_back a number len n line some few h v).is;
          }) xs good

      -- ---- what they pass on

      abbrev rows_in : BlockLine Weight → ℕ
      rows_in line = block_size len n line.row_block

      abbrev pub parts_sent : BlockLine Weight → List (ℕ × Msg)
      parts_sent line = parts_of a.algorithm (rows_in line) (passed_by a.algorithm len v line)

      abbrev pub sent_pair : BlockLine Weight → Pair
      sent_pair line = parts_pair a line.row_block (parts_sent line)

      abbrev item_message : BlockLine Weight → Entry Weight → ℕ × Msg
      item_message line e = (e.row, a.algorithm.combine2 e.weight (v (node_at len line.column_block e.column)))

      passed_fit : (line : BlockLine Weight) → GoodLine line → All (λ (p : ℕ × Msg). FitsMsg a p.1) (passed_by a.algorithm len v line)
      passed_fit line good =
          let j = line.column_block in
          let placed = block_placed len n j some good.column_low in
          All-map (λ (p : ℕ × Msg). FitsMsg a p.1) (item_message line) line.items (All-weaker (GoodItem line) (λ e. FitsMsg a (item_message line e).1) (λ e h.
          let weight : FitsWeight a e.weight = if_some_is (FitsWeight a) (a.weight_of (decimal (number e.weight))) e.weight h.weighs (laws.weight_of_fits (decimal (number e.weight))) in
          laws.combine2_fits e.weight (v (node_at len j e.column)) weight (vector (node_at len j e.column) (lt-ltb (node_at len j e.column) n (omega (arith, h.column, placed.end))))) line.items good.each)

      sent_some : (line : BlockLine Weight) → GoodLine line → parts_sent line ≢ []
      sent_some line good = first (rows_in line) line.items good.items_some (All-weaker (GoodItem line) (λ e. e.row < rows_in line) (λ e h. h.row) line.items good.each)
        where
          first : (rows : ℕ) (items : List (Entry Weight)) → items ≢ [] → All (λ (e : Entry Weight). e.row < rows) items → parts_of a.algorithm rows (map (item_message line) items) ≢ []
          first rows [] some' all = absurd (some' refl)
          first rows (e ∷ es) some' all = parts_some a rows (item_message line e) (map (item_message line) es) (All-head (λ (d : Entry Weight). d.row < rows) e es all)

      pub parts_back : (line : BlockLine Weight) → GoodLine line → ReadsAs (parts_record_of a (rows_in line)) (record_of (sent_pair line)) (Some (parts_sent line))
      parts_back line good =
          let low = good.row_low in
          parts_read_back a laws line.row_block (rows_in line) (parts_sent line) (omega (arith, low, blocks_few)) (omega (arith, size_few line.row_block)) (sent_some line good) (parts_fit a laws (rows_in line) (passed_by a.algorithm len v line) (passed_fit line good))

      sent_plain : (line : BlockLine Weight) → GoodLine line → IsPlain (sent_pair line)
      sent_plain line good = let low = good.row_low in plain_from (sent_pair line) line.row_block refl (omega (arith, low, blocks_few)) (parts_back line good).one_record

      abbrev pub sent_for : BlockLine Weight → List Pair
      sent_for line = sent_pair line ∷ []

      pub passes1 : (xs : List (BlockLine Weight)) → All GoodLine xs → All (λ line. (parts_line a len n (passed line) ≡ pairs_text (sent_for line)) × All IsPlain (sent_for line)) xs
      passes1 xs good =
          All-weaker GoodLine (λ line. (parts_line a len n (passed line) ≡ pairs_text (sent_for line)) × All IsPlain (sent_for line)) (λ line h. (sym (append-nil (pair_line (sent_pair line).0 (sent_pair line).1)), All-cons IsPlain (sent_pair line) [] (sent_plain line h) (All-nil IsPlain))) xs good

      abbrev Joins2 : BlockLine Weight → Type 0
      Joins2 = Joins decimal eqb IsBlock head block_at sent_pair rows_of parts_sent (λ (block : ℕ × List Val). parts_record_of a (length block.1))

      pub joins2 : (xs : List (BlockLine Weight)) → All GoodLine xs → All Joins2 xs
      joins2 xs good =
          All-weaker GoodLine Joins2 (λ line h. record {
            behind = record { is_at = record { has_key = refl; inside = h.row_low }; behind = before_by_values (head line.row_block) (sent_pair line) refl refl };
            plain = sent_plain line h;
            reads = ap (λ (rows : ℕ). parts_record_of a rows (record_of (sent_pair line))) (values_long line.row_block) ∙ (parts_back line h).is;
          }) xs good
