-- What a record says, where it is of its kind. Tags go by their codes: P is 80, Q 81, V 86, W 87 and Y 89.
use Rattle.std.specs.Prelude.{ℕ, ◌^◌, List, Option, option_map, option_and_then}
use Rattle.peg_text.specs.Decimal.{decimal_of}
use Rattle.peg_text.specs.Pairs.{key_of, value_of}
use Rattle.graph.specs.declared.edges.Edge.{Edge}
use Rattle.gimv_core.specs.Algebras.{Algebra}
use Rattle.gimv_base.specs.Fields.{number_below, tagged, around_blank}

-- a number of 32 bits
abbrev pub id_of : List ℕ → Option ℕ
id_of text = number_below (2 ^ 32) text

-- an edge: its source, TAB, its target
abbrev pub edge_record_of : List ℕ → Option Edge
edge_record_of r = option_and_then (λ s. option_map (λ t. record { source = s; target = t }) (id_of (value_of r))) (id_of (key_of r))

-- a place and the id there: `p TAB P SP i`
abbrev pub place_record_of : List ℕ → Option (ℕ × ℕ)
place_record_of r = option_and_then (λ p. option_map (λ i. (p, i)) (option_and_then id_of (tagged 80 (value_of r)))) (id_of (key_of r))

-- the same, with both below n
abbrev pub node_record_of : ℕ → List ℕ → Option (ℕ × ℕ)
node_record_of n r =
    option_and_then (λ p. option_map (λ i. (p, i)) (option_and_then (number_below n) (tagged 80 (value_of r)))) (number_below n (key_of r))

-- the number of a place: `p TAB Q SP number`
abbrev pub number_record_of : List ℕ → Option ℕ
number_record_of r = option_and_then decimal_of (tagged 81 (value_of r))

-- what a counted value says: how many of its nodes changed, at most 256, and the text of the value
abbrev pub counted_value : (List ℕ × List ℕ) → Option (List ℕ)
counted_value fields = option_map (λ c. fields.1) (number_below 257 fields.0)

-- the text of a value: `V SP c SP value`
abbrev pub value_text_of : List ℕ → Option (List ℕ)
value_text_of value = option_and_then counted_value (option_and_then around_blank (tagged 86 value))

-- a node below n and its value: `i TAB V SP c SP value`
abbrev pub value_record_of : {Val Msg Weight : Type 0} → Algebra Val Msg Weight → ℕ → List ℕ → Option (ℕ × Val)
value_record_of a n r =
    option_and_then (λ i. option_map (λ v. (i, v)) (option_and_then a.val_of (value_text_of (value_of r)))) (number_below n (key_of r))

-- an entry of a column, by its row below n and its weight: `W SP r SP m`
abbrev pub entry_fields : {Val Msg Weight : Type 0} → Algebra Val Msg Weight → ℕ → (List ℕ × List ℕ) → Option (ℕ × Weight)
entry_fields a n fields = option_and_then (λ r. option_map (λ m. (r, m)) (a.weight_of fields.1)) (number_below n fields.0)

abbrev pub entry_record_of : {Val Msg Weight : Type 0} → Algebra Val Msg Weight → ℕ → List ℕ → Option (ℕ × Weight)
entry_record_of a n r = option_and_then (entry_fields a n) (option_and_then around_blank (tagged 87 (value_of r)))

-- a message: `Y SP msg`
abbrev pub message_record_of : {Val Msg Weight : Type 0} → Algebra Val Msg Weight → List ℕ → Option Msg
message_record_of a r = option_and_then a.msg_of (tagged 89 (value_of r))
