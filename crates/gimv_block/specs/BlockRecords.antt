-- What a record of a block says, where it is of its kind. Tags go by their codes: P is 80, V 86, W 87, X 88 and Y 89.
use Rattle.std.specs.Prelude.{ℕ, ◌==◌, Bool, List, [], ◌∷◌, length, position, Option, Some, None, option_map, option_and_then, slice_get, if◌then◌else◌}
use Rattle.peg_text.specs.Decimal.{decimal_of}
use Rattle.peg_text.specs.Pairs.{key_of, value_of}
use Rattle.gimv_core.specs.Algebras.{Algebra}
use Rattle.graph.specs.Entries.{Entry}
use Rattle.gimv_base.specs.Fields.{number_below, tagged, around_blank, parts_at}
use Rattle.gimv_base.specs.Records.{id_of, value_text_of}
use Rattle.gimv_block.specs.Blocks.{block_count, block_size}
use Rattle.gimv_block.specs.Items.{items_of, around_colon}

-- a list of just this length
abbrev pub of_length : {A : Type 0} → ℕ → List A → Option (List A)
of_length size xs = if length xs == size then Some xs else None

-- the values of a block of this size
abbrev pub block_values_of : {Val Msg Weight : Type 0} → Algebra Val Msg Weight → ℕ → List ℕ → Option (List Val)
block_values_of a size text = option_and_then (of_length size) (items_of a.val_of text)

-- a block of n nodes and its values: `J TAB V SP c SP values`
abbrev pub block_record_of : {Val Msg Weight : Type 0} → Algebra Val Msg Weight → ℕ → ℕ → List ℕ → Option (ℕ × List Val)
block_record_of a len n r =
    option_and_then (λ j. option_map (λ vs. (j, vs)) (option_and_then (block_values_of a (block_size len n j)) (value_text_of (value_of r))))
    (number_below (block_count len n) (key_of r))

-- any tag, and what follows it and a blank
abbrev pub any_tagged : List ℕ → Option (ℕ × List ℕ)
any_tagged [] = None
any_tagged (t ∷ []) = None
any_tagged (t ∷ b ∷ rest) = if b == 32 then Some (t, rest) else None

-- W for items between a block and itself, X for those between two blocks
abbrev pub link_tag : ℕ → ℕ → ℕ
link_tag column_block row_block = if row_block == column_block then 87 else 88

-- the row's block of a line of items, and their text: `W SP I SP items` where it is the column's block, else `X SP I SP items`
abbrev pub link_fields : ℕ → ℕ → ℕ → (List ℕ × List ℕ) → Option (ℕ × List ℕ)
link_fields count j tag fields =
    option_and_then (λ i. if tag == link_tag j i then Some (i, fields.1) else None) (number_below count fields.0)

abbrev pub link_of : ℕ → ℕ → (ℕ × List ℕ) → Option (ℕ × List ℕ)
link_of count j tagged = option_and_then (link_fields count j tagged.0) (around_blank tagged.1)

abbrev pub link_record_of : ℕ → ℕ → List ℕ → Option (ℕ × List ℕ)
link_record_of count j r = option_and_then (link_of count j) (any_tagged (value_of r))

-- what an item passes on of the values of its column's block, from the texts of its column's offset and its weight
abbrev pub passed_on : {Val Msg Weight : Type 0} → Algebra Val Msg Weight → List Val → (List ℕ × List ℕ) → Option Msg
passed_on a vs fields =
    option_and_then (λ v. option_map (λ w. a.algorithm.combine2 w v) (a.weight_of fields.1)) (option_and_then (slice_get vs) (decimal_of fields.0))

-- an item `r:c:m`: the offset of its row, and what it passes on
abbrev pub item_fields : {Val Msg Weight : Type 0} → Algebra Val Msg Weight → List Val → ℕ → (List ℕ × List ℕ) → Option (ℕ × Msg)
item_fields a vs rows fields =
    option_and_then (λ r. option_map (λ m. (r, m)) (option_and_then (passed_on a vs) (around_colon fields.1))) (number_below rows fields.0)

abbrev pub item_of : {Val Msg Weight : Type 0} → Algebra Val Msg Weight → List Val → ℕ → List ℕ → Option (ℕ × Msg)
item_of a vs rows text = option_and_then (item_fields a vs rows) (around_colon text)

-- a line of items within a block of these values: the row's block, and what the items pass on, each with the offset of its row
abbrev pub sent_of : {Val Msg Weight : Type 0} → Algebra Val Msg Weight → ℕ → ℕ → List Val → (ℕ × List ℕ) → Option (ℕ × List (ℕ × Msg))
sent_of a len n vs link = option_map (λ sent. (link.0, sent)) (items_of (item_of a vs (block_size len n link.0)) link.1)

abbrev pub sent_record_of : {Val Msg Weight : Type 0} → Algebra Val Msg Weight → ℕ → ℕ → ℕ → List Val → List ℕ → Option (ℕ × List (ℕ × Msg))
sent_record_of a len n j vs r = option_and_then (sent_of a len n vs) (link_record_of (block_count len n) j r)

-- a part `r:msg`
abbrev pub part_fields : {Val Msg Weight : Type 0} → Algebra Val Msg Weight → ℕ → (List ℕ × List ℕ) → Option (ℕ × Msg)
part_fields a rows fields = option_and_then (λ r. option_map (λ m. (r, m)) (a.msg_of fields.1)) (number_below rows fields.0)

abbrev pub part_of : {Val Msg Weight : Type 0} → Algebra Val Msg Weight → ℕ → List ℕ → Option (ℕ × Msg)
part_of a rows text = option_and_then (part_fields a rows) (around_colon text)

-- the messages to a block of this size: `Y SP parts`
abbrev pub parts_record_of : {Val Msg Weight : Type 0} → Algebra Val Msg Weight → ℕ → List ℕ → Option (List (ℕ × Msg))
parts_record_of a rows r = option_and_then (items_of (part_of a rows)) (tagged 89 (value_of r))

-- Records of the roles that make blocks. A blank is 32 and a dot 46.

-- a weight as a number: a decimal of at least 1, as each algorithm's weight is written
abbrev pub weight_number_of : List ℕ → Option ℕ
weight_number_of text = option_and_then (λ m. if m == 0 then None else Some m) (decimal_of text)

-- an entry of a matrix, by its column: `c TAB W SP r SP m`
abbrev pub matrix_fields : ℕ → (List ℕ × List ℕ) → Option (Entry ℕ)
matrix_fields column fields =
    option_and_then (λ r. option_map (λ m. record { row = r; column = column; weight = m }) (weight_number_of fields.1)) (id_of fields.0)

abbrev pub matrix_record_of : List ℕ → Option (Entry ℕ)
matrix_record_of r = option_and_then (λ c. option_and_then (matrix_fields c) (option_and_then around_blank (tagged 87 (value_of r)))) (id_of (key_of r))

-- the offset of a node in a block of this size, and the node: `P SP o SP i`
abbrev pub seat_fields : ℕ → ℕ → (List ℕ × List ℕ) → Option (ℕ × ℕ)
seat_fields size n fields = option_and_then (λ o. option_map (λ i. (o, i)) (number_below n fields.1)) (number_below size fields.0)

abbrev pub seat_record_of : ℕ → ℕ → List ℕ → Option (ℕ × ℕ)
seat_record_of size n r = option_and_then (seat_fields size n) (option_and_then around_blank (tagged 80 (value_of r)))

-- the blocks of a column and of a row, from a key `J.I`
abbrev pub is_dot : ℕ → Bool
is_dot b = b == 46

abbrev pub block_pair_of : List ℕ → Option (ℕ × ℕ)
block_pair_of key =
    option_and_then (λ parts. option_and_then (λ j. option_map (λ i. (j, i)) (id_of parts.1)) (id_of parts.0)) (option_map (parts_at key) (position is_dot key))

-- an entry between two blocks, by its offsets: `r SP c SP m`
abbrev pub cut_fields : (List ℕ × List ℕ) → (List ℕ × List ℕ) → Option (Entry ℕ)
cut_fields row rest =
    option_and_then (λ r. option_and_then (λ c. option_map (λ m. record { row = r; column = c; weight = m }) (weight_number_of rest.1)) (id_of rest.0)) (id_of row.0)

abbrev pub cut_record_of : List ℕ → Option (Entry ℕ)
cut_record_of r = option_and_then (λ row. option_and_then (cut_fields row) (around_blank row.1)) (around_blank (value_of r))
