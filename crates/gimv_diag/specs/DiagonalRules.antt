-- What `diag1` reads and writes: a block's values are closed along the block's own items before they are passed on.
use Rattle.std.specs.Prelude.{ℕ, zero, suc, ◌+◌, ◌==◌, List, [], ◌∷◌, ◌++◌, length, slice_get, Option, Some, None, option_map, option_and_then, if◌then◌else◌}
use Rattle.std.specs.List.{flat_map}
use Rattle.gimv_core.specs.Algebras.{Algebra}
use Rattle.gimv_base.specs.Fields.{number_below}
use Rattle.gimv_base.specs.Lines.{with_lf}
use Rattle.gimv_base.specs.Parts.{Part}
use Rattle.gimv_base.specs.Rules.{Rule, ByGroup}
use Rattle.gimv_base.specs.BaseRules.{read_all, headed, unless_bad}
use Rattle.gimv_block.specs.Blocks.{block_count, block_size}
use Rattle.gimv_block.specs.Items.{items_of, around_colon}
use Rattle.gimv_block.specs.BlockRecords.{block_record_of, link_record_of}
use Rattle.gimv_block.specs.BlockLines.{parts_text, parts_line}
use Rattle.gimv_block.specs.BlockRules.{new_values, with_messages}
use Rattle.gimv_diag.specs.declared.items.Item.{Item}

-- ---- items

-- an item `r:c:m`, by the offsets of its row and its column in blocks of these sizes
abbrev pub weighed_of : {Val Msg Weight : Type 0} → Algebra Val Msg Weight → ℕ → ℕ → (List ℕ × List ℕ) → Option (Item Weight)
weighed_of a row columns fields =
    option_and_then (λ c. option_map (λ w. record { row = row; column = c; weight = w }) (a.weight_of fields.1)) (number_below columns fields.0)

abbrev pub raw_fields : {Val Msg Weight : Type 0} → Algebra Val Msg Weight → ℕ → ℕ → (List ℕ × List ℕ) → Option (Item Weight)
raw_fields a rows columns fields = option_and_then (λ r. option_and_then (weighed_of a r columns) (around_colon fields.1)) (number_below rows fields.0)

abbrev pub raw_item_of : {Val Msg Weight : Type 0} → Algebra Val Msg Weight → ℕ → ℕ → List ℕ → Option (Item Weight)
raw_item_of a rows columns text = option_and_then (raw_fields a rows columns) (around_colon text)

-- a line of items of a column's block: the row's block, and the items
abbrev pub raw_line_of : {Val Msg Weight : Type 0} → Algebra Val Msg Weight → ℕ → ℕ → ℕ → (ℕ × List ℕ) → Option (ℕ × List (Item Weight))
raw_line_of a len n columns link = option_map (λ items. (link.0, items)) (items_of (raw_item_of a (block_size len n link.0) columns) link.1)

abbrev pub raw_record_of : {Val Msg Weight : Type 0} → Algebra Val Msg Weight → ℕ → ℕ → ℕ → ℕ → List ℕ → Option (ℕ × List (Item Weight))
raw_record_of a len n j columns r = option_and_then (raw_line_of a len n columns) (link_record_of (block_count len n) j r)

-- ---- closing

-- what an item passes on of a block's values, with the offset of its row
abbrev pub passed_value : {Val Msg Weight : Type 0} → Algebra Val Msg Weight → Item Weight → Option Val → List (ℕ × Msg)
passed_value a item None = []
passed_value a item (Some v) = (item.row, a.algorithm.combine2 item.weight v) ∷ []

abbrev pub passed_from : {Val Msg Weight : Type 0} → Algebra Val Msg Weight → List Val → Item Weight → List (ℕ × Msg)
passed_from a vs item = passed_value a item (slice_get vs item.column)

-- the items within the block itself
abbrev pub inner_of : {Weight : Type 0} → ℕ → (ℕ × List (Item Weight)) → List (Item Weight)
inner_of j line = if line.0 == j then line.1 else []

abbrev pub inner_items : {Weight : Type 0} → ℕ → List (ℕ × List (Item Weight)) → List (Item Weight)
inner_items j lines = flat_map (inner_of j) lines

-- a step of the block's values along its own items
abbrev pub round_values : {Val Msg Weight : Type 0} → Algebra Val Msg Weight → List (Item Weight) → List Val → List Val
round_values a items vs = new_values a (with_messages a (λ row. a.algorithm.unit) (flat_map (passed_from a vs) items)) 0 vs

abbrev pub values_after : {Val Msg Weight : Type 0} → Algebra Val Msg Weight → List (Item Weight) → List Val → ℕ → List Val
values_after a items vs zero = vs
values_after a items vs (suc k) = round_values a items (values_after a items vs k)

-- as many steps as the block has nodes; one more changes nothing, by `ClosedListsAreClosed`
abbrev pub closed_values : {Val Msg Weight : Type 0} → Algebra Val Msg Weight → List (Item Weight) → List Val → List Val
closed_values a items vs = values_after a items vs (length vs)

-- ---- lines

-- each value as a message to its own row, from this row on
abbrev pub own_parts : {Val Msg : Type 0} → (Val → Msg) → ℕ → List Val → List (ℕ × Msg)
own_parts as_msg row [] = []
own_parts as_msg row (v ∷ vs) = (row, as_msg v) ∷ own_parts as_msg (row + 1) vs

abbrev pub own_line : {Val Msg Weight : Type 0} → Algebra Val Msg Weight → (Val → Msg) → ℕ → List Val → List ℕ
own_line a as_msg j vs = with_lf (parts_text a j (own_parts as_msg 0 vs))

-- what a line of items passes on
abbrev pub passed_line : {Val Msg Weight : Type 0} → Algebra Val Msg Weight → ℕ → ℕ → List Val → (ℕ × List (Item Weight)) → List ℕ
passed_line a len n vs line = parts_line a len n (line.0, flat_map (passed_from a vs) line.1)

abbrev pub sent_lines : {Val Msg Weight : Type 0} → Algebra Val Msg Weight → (Val → Msg) → ℕ → ℕ → ℕ → List (ℕ × List (Item Weight)) → List Val → List ℕ
sent_lines a as_msg len n j lines vs = own_line a as_msg j vs ++ flat_map (passed_line a len n vs) lines

abbrev pub closed_lines : {Val Msg Weight : Type 0} → Algebra Val Msg Weight → (Val → Msg) → ℕ → ℕ → ℕ → List (ℕ × List (Item Weight)) → List Val → List ℕ
closed_lines a as_msg len n j lines vs = sent_lines a as_msg len n j lines (closed_values a (inner_items j lines) vs)

-- `diag1`: a block's values, then the closed ones to the block itself, and then what these pass on along each line of items;
-- here where these lines came before
abbrev pub closed_part : {Val Msg Weight : Type 0} → Algebra Val Msg Weight → (Val → Msg) → ℕ → ℕ → ℕ → List Val → List (ℕ × List (Item Weight)) → List (List ℕ) → Part
closed_part a as_msg len n j vs before rs =
    let read = read_all (raw_record_of a len n j (length vs)) rs in unless_bad read.bad (closed_lines a as_msg len n j (before ++ read.items) vs)

abbrev pub diag1_rule : {Val Msg Weight : Type 0} → Algebra Val Msg Weight → (Val → Msg) → ℕ → ℕ → Rule
diag1_rule a as_msg len n = ByGroup (headed (block_record_of a len n) with_lf (λ block. closed_part a as_msg len n block.0 block.1 []))
