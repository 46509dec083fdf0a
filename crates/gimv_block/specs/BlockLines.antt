-- The lines of blocks: as pairs of a key and a value, as texts without their LF, and as lines.
use Rattle.std.specs.Prelude.{ℕ, ◌+◌, ◌==◌, List, [], ◌∷◌, ◌++◌, map, filter, decimal}
use Rattle.std.specs.List.{flat_map, range_with_len, join_with_byte}
use Rattle.peg_text.specs.Pairs.{pair_text}
use Rattle.gimv_core.specs.Algebras.{Algebra}
use Rattle.graph.specs.Entries.{Entry}
use Rattle.graph.specs.Steps.{Algorithm, all_of}
use Rattle.gimv_base.specs.Lines.{with_lf, number_line}
use Rattle.gimv_block.specs.Blocks.{block_size, block_of, offset_of}
use Rattle.gimv_block.specs.BlockRecords.{link_tag}
use Rattle.gimv_block.specs.BlockSteps.{of_some}

abbrev pub text_of_pair : List ℕ × List ℕ → List ℕ
text_of_pair pair = pair_text pair.0 pair.1

-- ---- values

-- `J TAB V SP c SP values`
abbrev pub values_pair : {Val Msg Weight : Type 0} → Algebra Val Msg Weight → ℕ → ℕ → List Val → List ℕ × List ℕ
values_pair a j c vs = (decimal j, 86 ∷ 32 ∷ (decimal c ++ (32 ∷ join_with_byte 44 (map a.val_text vs))))

abbrev pub values_text : {Val Msg Weight : Type 0} → Algebra Val Msg Weight → ℕ → ℕ → List Val → List ℕ
values_text a j c vs = text_of_pair (values_pair a j c vs)

abbrev pub values_line : {Val Msg Weight : Type 0} → Algebra Val Msg Weight → ℕ → ℕ → List Val → List ℕ
values_line a j c vs = with_lf (values_text a j c vs)

-- the number of each node of a block, from its first one on
abbrev pub number_lines : {Val Msg Weight : Type 0} → Algebra Val Msg Weight → ℕ → List Val → List ℕ
number_lines a node [] = []
number_lines a node (v ∷ vs) = number_line node (a.algorithm.number v) ++ number_lines a (node + 1) vs

-- ---- messages to the rows of a block, each with the offset of its row

-- the messages to the row at an offset
abbrev pub messages_in : {Msg : Type 0} → ℕ → List (ℕ × Msg) → List Msg
messages_in {Msg} row sent = map (λ (p : ℕ × Msg). p.1) (filter (λ (p : ℕ × Msg). p.0 == row) sent)

-- what is put together for each of so many rows, where there are messages to it
abbrev pub part_of_row : {Val Msg Weight : Type 0} → Algorithm Val Msg Weight → List (ℕ × Msg) → ℕ → List (ℕ × Msg)
part_of_row a sent row = of_some (λ ms. (row, all_of a ms)) (messages_in row sent)

abbrev pub parts_of : {Val Msg Weight : Type 0} → Algorithm Val Msg Weight → ℕ → List (ℕ × Msg) → List (ℕ × Msg)
parts_of a rows sent = flat_map (part_of_row a sent) (range_with_len 0 rows)

-- `r:msg`
abbrev pub part_text : {Val Msg Weight : Type 0} → Algebra Val Msg Weight → (ℕ × Msg) → List ℕ
part_text a part = decimal part.0 ++ (58 ∷ a.msg_text part.1)

-- `I TAB Y SP parts`
abbrev pub parts_pair : {Val Msg Weight : Type 0} → Algebra Val Msg Weight → ℕ → List (ℕ × Msg) → List ℕ × List ℕ
parts_pair a i parts = (decimal i, 89 ∷ 32 ∷ join_with_byte 44 (map (part_text a) parts))

abbrev pub parts_text : {Val Msg Weight : Type 0} → Algebra Val Msg Weight → ℕ → List (ℕ × Msg) → List ℕ
parts_text a i parts = text_of_pair (parts_pair a i parts)

-- what a line of items passes on to a block
abbrev pub parts_line : {Val Msg Weight : Type 0} → Algebra Val Msg Weight → ℕ → ℕ → (ℕ × List (ℕ × Msg)) → List ℕ
parts_line a len n line = with_lf (parts_text a line.0 (parts_of a.algorithm (block_size len n line.0) line.1))

-- ---- nodes and entries by their blocks

-- `J TAB P SP o SP i`: the node at a place, by the place's block
abbrev pub seat_pair : ℕ → ℕ → ℕ → List ℕ × List ℕ
seat_pair len place node = (decimal (block_of len place), 80 ∷ 32 ∷ (decimal (offset_of len place) ++ (32 ∷ decimal node)))

abbrev pub seat_text : ℕ → ℕ → ℕ → List ℕ
seat_text len place node = text_of_pair (seat_pair len place node)

-- `J.I TAB r SP c SP m`: an entry by the blocks of its column and its row
abbrev pub block_key : ℕ → ℕ → List ℕ
block_key column_block row_block = decimal column_block ++ (46 ∷ decimal row_block)

abbrev pub cut_pair : ℕ → Entry ℕ → List ℕ × List ℕ
cut_pair len e =
    let row = decimal (offset_of len e.row) in
    let column = decimal (offset_of len e.column) in
    (block_key (block_of len e.column) (block_of len e.row), row ++ (32 ∷ (column ++ (32 ∷ decimal e.weight))))

abbrev pub cut_text : ℕ → Entry ℕ → List ℕ
cut_text len e = text_of_pair (cut_pair len e)

-- ---- lines of items

-- `r:c:m`
abbrev pub item_text : Entry ℕ → List ℕ
item_text e = decimal e.row ++ (58 ∷ (decimal e.column ++ (58 ∷ decimal e.weight)))

-- `J TAB W SP I SP items` or `J TAB X SP I SP items`
abbrev pub link_pair : ℕ → ℕ → List (Entry ℕ) → List ℕ × List ℕ
link_pair j i es = (decimal j, link_tag j i ∷ 32 ∷ (decimal i ++ (32 ∷ join_with_byte 44 (map item_text es))))

abbrev pub link_text : ℕ → ℕ → List (Entry ℕ) → List ℕ
link_text j i es = text_of_pair (link_pair j i es)

-- what stands before the items
abbrev pub link_head : ℕ → ℕ → List ℕ
link_head j i = pair_text (decimal j) (link_tag j i ∷ 32 ∷ (decimal i ++ (32 ∷ [])))
