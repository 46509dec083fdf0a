-- The rules of the roles that go over blocks.
use Rattle.std.specs.Prelude.{ℕ, ◌+◌, ◌*◌, ◌++◌, ◌==◌, List, [], ◌∷◌, Option, Some, None, is_some, option_map, option_and_then, map, length, fold, get_or, set, replicate, if◌then◌else◌}
use Rattle.std.specs.List.{flat_map}
use Rattle.peg_text.specs.Pairs.{key_of}
use Rattle.graph.specs.Entries.{Entry}
use Rattle.gimv_core.specs.Algebras.{Algebra}
use Rattle.gimv_base.specs.Parts.{Part, nothing, written, refused, after}
use Rattle.gimv_base.specs.Rules.{Rule, ByRecord, ByGroup}
use Rattle.gimv_base.specs.Lines.{with_lf}
use Rattle.gimv_base.specs.Fields.{number_below}
use Rattle.gimv_base.specs.Records.{place_record_of}
use Rattle.gimv_base.specs.BaseRules.{read_all, headed, unless_bad, no_text}
use Rattle.gimv_block.specs.Blocks.{block_count, block_size}
use Rattle.gimv_block.specs.Items.{all_some}
use Rattle.gimv_block.specs.BlockRecords.{block_record_of, sent_record_of, parts_record_of, matrix_record_of, cut_record_of, seat_record_of, block_pair_of}
use Rattle.gimv_block.specs.BlockLines.{parts_line, values_line, messages_in, seat_text, cut_text, item_text, link_head, number_lines}

-- `block1`: what a block's values pass on along each line of items, after the values themselves
abbrev pub sent_part : {Val Msg Weight : Type 0} → Algebra Val Msg Weight → ℕ → ℕ → ℕ → List Val → List (List ℕ) → Part
sent_part a len n j vs rs =
    let read = read_all (sent_record_of a len n j vs) rs in record { out = flat_map (parts_line a len n) read.items; bad = read.bad }

abbrev pub block1_rule : {Val Msg Weight : Type 0} → Algebra Val Msg Weight → ℕ → ℕ → Rule
block1_rule a len n = ByGroup (headed (block_record_of a len n) with_lf (λ block. sent_part a len n block.0 block.1))

-- the new values of the rows from this offset on, each from its old one and all messages to it, put together
abbrev pub new_values : {Val Msg Weight : Type 0} → Algebra Val Msg Weight → (ℕ → Msg) → ℕ → List Val → List Val
new_values a all row [] = []
new_values a all row (v ∷ vs) = a.algorithm.assign v (all row) ∷ new_values a all (row + 1) vs

-- how many of the new values aren't the same as the old ones
abbrev pub changed_values : {Val Msg Weight : Type 0} → Algebra Val Msg Weight → List Val → List Val → ℕ
changed_values a [] ws = 0
changed_values a (v ∷ vs) [] = 0
changed_values a (v ∷ vs) (w ∷ ws) = (if a.algorithm.same w v then 0 else 1) + changed_values a vs ws

abbrev pub new_values_line : {Val Msg Weight : Type 0} → Algebra Val Msg Weight → ℕ → List Val → List Val → List ℕ
new_values_line a j vs ws = values_line a j (changed_values a vs ws) ws

-- further messages to rows, on top of those that came before
abbrev pub with_messages : {Val Msg Weight : Type 0} → Algebra Val Msg Weight → (ℕ → Msg) → List (ℕ × Msg) → ℕ → Msg
with_messages a before sent row = fold a.algorithm.combine (before row) (messages_in row sent)

-- `block2`: a block's new values, from all messages to each row, and how many aren't the same as the old ones;
-- here where these messages came before, put together by row
abbrev pub renewed_part : {Val Msg Weight : Type 0} → Algebra Val Msg Weight → ℕ → List Val → (ℕ → Msg) → List (List ℕ) → Part
renewed_part a j vs before rs =
    let read = read_all (parts_record_of a (length vs)) rs in
    unless_bad read.bad (new_values_line a j vs (new_values a (with_messages a before (flat_map (λ sent. sent) read.items)) 0 vs))

abbrev pub block2_rule : {Val Msg Weight : Type 0} → Algebra Val Msg Weight → ℕ → ℕ → Rule
block2_rule a len n = ByGroup (headed (block_record_of a len n) no_text (λ block. renewed_part a block.0 block.1 (λ row. a.algorithm.unit)))

-- what is put together for rows so far, where nothing is the unit
abbrev pub or_unit : {Val Msg Weight : Type 0} → Algebra Val Msg Weight → Option Msg → Msg
or_unit a None = a.algorithm.unit
or_unit a (Some m) = m

abbrev pub all_at : {Val Msg Weight : Type 0} → Algebra Val Msg Weight → List (Option Msg) → ℕ → Msg
all_at a rows row = or_unit a (get_or rows row None)

-- `group`: each place and its node, by the place's block
abbrev pub group_rule : ℕ → Rule
group_rule len = ByRecord (λ r. option_map (λ place. with_lf (seat_text len place.0 place.1)) (place_record_of r))

-- `cut`: each entry, by the blocks of its column and its row
abbrev pub cut_rule : ℕ → Rule
cut_rule len = ByRecord (λ r. option_map (λ (e : Entry ℕ). with_lf (cut_text len e)) (matrix_record_of r))

-- `unblock`: each node of a block with the number of its value
abbrev pub unblock_rule : {Val Msg Weight : Type 0} → Algebra Val Msg Weight → ℕ → ℕ → Rule
unblock_rule a len n = ByRecord (λ r. option_map (λ block. number_lines a (block.0 * len) block.1) (block_record_of a len n r))

-- `firstb`: the first values of a block, by offset; each offset comes once
abbrev pub seat_taken : List (Option ℕ) → (ℕ × ℕ) → Option (List (Option ℕ))
seat_taken seats found = if is_some (get_or seats found.0 None) then None else Some (set seats found.0 (Some found.1))

abbrev pub first_values_part : {Val Msg Weight : Type 0} → Algebra Val Msg Weight → ℕ → Option (List ℕ) → Part
first_values_part a j None = refused 0
first_values_part a j (Some nodes) = written (values_line a j (length nodes) (map a.algorithm.first nodes))

abbrev pub unless_refused : {A : Type 0} → Option A → (A → Part) → Part
unless_refused None later = refused 1
unless_refused (Some x) later = after [] 1 (later x)

-- what further records give where these offsets of the block have come, each with its node
abbrev pub seated_part : {Val Msg Weight : Type 0} → Algebra Val Msg Weight → ℕ → ℕ → List (List ℕ) → List (Option ℕ) → Part
seated_part a n j [] seats = first_values_part a j (all_some seats)
seated_part a n j (r ∷ rs) seats = unless_refused (option_and_then (seat_taken seats) (seat_record_of (length seats) n r)) (seated_part a n j rs)

abbrev pub first_block_part : {Val Msg Weight : Type 0} → Algebra Val Msg Weight → ℕ → ℕ → List (List ℕ) → Option ℕ → Part
first_block_part a len n rs None = refused 1
first_block_part a len n rs (Some j) = seated_part a n j rs (replicate (block_size len n j) None)

abbrev pub firstb_part : {Val Msg Weight : Type 0} → Algebra Val Msg Weight → ℕ → ℕ → List (List ℕ) → Part
firstb_part a len n [] = nothing
firstb_part a len n (r ∷ rs) = first_block_part a len n (r ∷ rs) (number_below (block_count len n) (key_of r))

abbrev pub firstb_rule : {Val Msg Weight : Type 0} → Algebra Val Msg Weight → ℕ → ℕ → Rule
firstb_rule a len n = ByGroup (firstb_part a len n)

-- `blocks`: the entries between two blocks as items, so many a line at most; `AreListed` says it by whole lines
abbrev pub most_items : ℕ
most_items = 4096

abbrev pub item_lead : List ℕ → ℕ → List ℕ
item_lead head count = if count == most_items then with_lf [] ++ head else 44 ∷ []

abbrev pub next_count : ℕ → ℕ
next_count count = if count == most_items then 1 else count + 1

abbrev pub item_then : Option (Entry ℕ) → List ℕ → Part → Part
item_then None lead later = refused 1
item_then (Some e) lead later = after (lead ++ item_text e) 1 later

-- what further records give where the open line has so many items
abbrev pub items_part : List ℕ → List (List ℕ) → ℕ → Part
items_part head [] count = written (with_lf [])
items_part head (r ∷ rs) count = item_then (cut_record_of r) (item_lead head count) (items_part head rs (next_count count))

abbrev pub begun_items : List (List ℕ) → Option (ℕ × ℕ) → Option (Entry ℕ) → Part
begun_items rs None first = refused 1
begun_items rs (Some blocks) first = let head = link_head blocks.0 blocks.1 in item_then first head (items_part head rs 1)

abbrev pub blocks_part : List (List ℕ) → Part
blocks_part [] = nothing
blocks_part (r ∷ rs) = begun_items rs (block_pair_of (key_of r)) (cut_record_of r)

abbrev pub blocks_rule : Rule
blocks_rule = ByGroup blocks_part
