-- What the driver reads of its vectors and of its result.
use Rattle.std.specs.Prelude.{ℕ, ◌==◌, Bool, List, [], ◌∷◌, Option, None, option_map, option_and_then, unwrap_or, is_some, nat_lt, fold, max, if◌then◌else◌}
use Rattle.std.specs.List.{find, sum_by}
use Rattle.conf.specs.declared.commands.Command.{Command}
use Rattle.conf.specs.declared.commands.Command.TheVariants.{Plain, Hcc, Hadi, PageRank}
use Rattle.peg_text.specs.Decimal.{decimal_of}
use Rattle.peg_text.specs.Pairs.{key_of, value_of}
use Rattle.gimv_base.specs.Fields.{number_below, tagged, around_blank}
use Rattle.store.specs.declared.changes.Place.{Place}
use Rattle.store.specs.declared.totals.Numbers.{Numbers}
use Rattle.store.specs.Parts.{Record}

-- ---- vectors

-- a count of at most 256, where something stands behind it
abbrev pub count_of : (List ℕ × List ℕ) → Option ℕ
count_of (count, []) = None
count_of (count, b ∷ bs) = number_below 257 count

-- how many nodes of a value `V SP count SP rest` changed
abbrev pub count_in : List ℕ → Option ℕ
count_in value = option_and_then count_of (option_and_then around_blank (tagged 86 value))

-- how many nodes of a line `key TAB V SP count SP rest` changed, where the key is a decimal
abbrev pub change_of : List ℕ → Option ℕ
change_of line = option_and_then (λ key. count_in (value_of line)) (decimal_of (key_of line))

abbrev pub is_value : List ℕ → Bool
is_value line = is_some (change_of line)

-- how many nodes of these records changed
abbrev pub changed : List Record → ℕ
changed records = sum_by (λ (r : Record). unwrap_or (change_of r.text) 0) records

-- a record that counts a change
abbrev pub counts : Record → Bool
counts r = nat_lt 0 (unwrap_or (change_of r.text) 0)

abbrev pub place_of : Record → Place
place_of r = record { part = r.part; line = r.line }

-- where the first record stands that counts a change
abbrev pub first_change : List Record → Option Place
first_change records = option_map place_of (find counts records)

-- ---- the result

-- the two numbers of a line `id TAB number`
abbrev pub numbers_of : List ℕ → Option Numbers
numbers_of line =
    option_and_then
    (λ i. option_map (λ n. record { id = i; number = n }) (decimal_of (value_of line)))
    (decimal_of (key_of line))

abbrev pub is_result : List ℕ → Bool
is_result line = is_some (numbers_of line)

-- the number of a line
abbrev pub number_of : Record → ℕ
number_of r = unwrap_or (option_map (λ (numbers : Numbers). numbers.number) (numbers_of r.text)) 0

-- 1 where both numbers are the same
abbrev pub own : Numbers → ℕ
own numbers = if numbers.id == numbers.number then 1 else 0

-- 1 for a node that is its own label
abbrev pub own_label : Record → ℕ
own_label r = unwrap_or (option_map own (numbers_of r.text)) 0

-- what the lines of a result say together: how many nodes are their own label, the greatest radius,
-- or the sum of the ranks' units
abbrev pub total_of : Command → List Record → ℕ
total_of Plain records = 0
total_of Hcc records = sum_by own_label records
total_of Hadi records = fold (λ n r. max n (number_of r)) 0 records
total_of PageRank records = sum_by number_of records
