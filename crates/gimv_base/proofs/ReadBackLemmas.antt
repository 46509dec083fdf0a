-- Lines read back, field by field.
use Rattle.std.proofs.Common.{◌≡◌, ◌≢◌, ℕ, ◌+◌, ◌<◌, ◌≤◌, ◌^◌, List, [], ◌∷◌, ◌++◌, Option, Some, None, option_map, option_and_then, length, take, drop, decimal, cond, ltb, position, refl, sym, ap, ◌∙◌, arith, append_assoc}
use Rattle.std.specs.List.{position_or_len}
use Rattle.std.proofs.lemmas.Bool.{cond-true, lt-ltb, ne_eqb}
use Rattle.std.proofs.lemmas.List.{length-append, get_or_append_left, get_or_at, take_at, drop_at}
use Rattle.std.proofs.lemmas.List.Elements.{All-cons, All-append}
use Rattle.std.proofs.lemmas.List.Sums.{position_or_len_is}
use Rattle.peg_text.specs.Pairs.{value_of, pair_text}
use Rattle.peg_text.specs.Records.{HasNoLf}
use Rattle.peg_text.proofs.DecimalLemmas.{decimals_read_back}
use Rattle.peg_text.proofs.PairLemmas.{pairs_split_back}
use Rattle.gimv_core.specs.Texts.{HasNoBlank, IsPlainItem}
use Rattle.gimv_core.proofs.DecimalTexts.{decimal_plain}
use Rattle.gimv_base.specs.Fields.{below, number_below, tagged, is_blank, parts_at, around_blank}
use Rattle.gimv_base.specs.Records.{counted_value, value_text_of, entry_fields}
use Rattle.gimv_base.specs.ReadBack.{ValuesReadBack, EntriesReadBack, MessagesReadBack}

number_below-decimal : (n k : ℕ) → k < n → n ≤ 2 ^ 64 → number_below n (decimal k) ≡ Some k
number_below-decimal n k low few =
    ap (option_and_then (below n)) (decimals_read_back k (omega arith)) ∙ cond-true _ _ _ (lt-ltb k n low)

abbrev if_inside : ℕ → ℕ → Option ℕ
if_inside k n = cond (ltb k n) (Some k) None

around_blank-is : (front back : List ℕ) → HasNoBlank front → around_blank (front ++ (32 ∷ back)) ≡ Some (front, back)
around_blank-is front back unbroken =
    let text = front ++ (32 ∷ back) in
    let inside : length front < length text = omega (arith, length-append front (32 ∷ back)) in
    let parts : text ≡ (front ++ (32 ∷ [])) ++ back = sym (append_assoc front (32 ∷ []) back) in
    let at : position_or_len is_blank text ≡ length front =
    position_or_len_is is_blank text (length front) 0 (omega arith)
    (λ k low. ne_eqb _ 32 (λ there. unbroken k 0 low (sym (get_or_append_left front (32 ∷ back) 0 k low) ∙ there)))
    (λ _. ap (λ b. is_blank b) (get_or_at front 32 back 0 (length front) refl)) in
    let found : position is_blank text ≡ Some (length front) =
    ap (λ k. if_inside k (length text)) at ∙ cond-true _ _ _ (lt-ltb (length front) (length text) inside) in
    let before : take (length front) text ≡ front = take_at front (32 ∷ back) (length front) refl in
    let behind : drop (length front + 1) text ≡ back = ap (drop (length front + 1)) parts ∙ drop_at (front ++ (32 ∷ [])) back (length front + 1) (length-append front (32 ∷ [])) in
    ap (option_map (parts_at text)) found ∙ ap (λ (f : List ℕ). Some (f, drop (length front + 1) text)) before ∙ ap (λ (b : List ℕ). Some (front, b)) behind

no_lf_pair : (key value : List ℕ) → HasNoLf key → HasNoLf value → HasNoLf (pair_text key value)
no_lf_pair key value of_key of_value = All-append (λ b. b ≢ 10) key (9 ∷ value) of_key (All-cons (λ b. b ≢ 10) 9 value (λ e. omega arith) of_value)

no_lf_blank : (front back : List ℕ) → HasNoLf front → HasNoLf back → HasNoLf (front ++ (32 ∷ back))
no_lf_blank front back of_front of_back = All-append (λ b. b ≢ 10) front (32 ∷ back) of_front (All-cons (λ b. b ≢ 10) 32 back (λ e. omega arith) of_back)

no_lf_tagged : (tag : ℕ) (rest : List ℕ) → tag ≢ 10 → HasNoLf rest → HasNoLf (tag ∷ 32 ∷ rest)
no_lf_tagged tag rest apart of_rest = All-cons (λ b. b ≢ 10) tag (32 ∷ rest) apart (All-cons (λ b. b ≢ 10) 32 rest (λ e. omega arith) of_rest)

plain : (k : ℕ) → k < 2 ^ 64 → IsPlainItem (decimal k)
plain = decimal_plain

-- a node's number before what its value is read as
abbrev node_with : {Val : Type 0} → ℕ → List ℕ → Option Val → Option (ℕ × Val)
node_with n key found = option_and_then (λ i. option_map (λ v. (i, v)) found) (number_below n key)

pub values_read_back : {Val Msg Weight : Type 0} → ValuesReadBack Val Msg Weight
values_read_back {Val} {Msg} {Weight} a laws n i c v low few changed fits =
    let key = decimal i in
    let of_key = plain i (omega arith) in
    let of_count = plain c (omega arith) in
    let of_text = laws.val_text_plain v fits in
    let rest = decimal c ++ (32 ∷ a.val_text v) in
    let split = pairs_split_back key (86 ∷ 32 ∷ rest) of_key.as_val.no_tab in
    let text : value_text_of (86 ∷ 32 ∷ rest) ≡ Some (a.val_text v) =
    ap (option_and_then counted_value) (around_blank-is (decimal c) (a.val_text v) of_count.as_val.no_blank)
    ∙ ap (option_map (λ (k : ℕ). a.val_text v)) (number_below-decimal 257 c (omega arith) (omega arith)) in
    let found : option_and_then a.val_of (value_text_of (86 ∷ 32 ∷ rest)) ≡ Some v = ap (option_and_then a.val_of) text ∙ laws.val_reads_back v fits in record {
      one_record = no_lf_pair key (86 ∷ 32 ∷ rest) of_key.as_val.no_lf (no_lf_tagged 86 rest (λ e. omega arith) (no_lf_blank (decimal c) (a.val_text v) of_count.as_val.no_lf of_text.no_lf));
      is =
          ap (λ (k : List ℕ). node_with n k (option_and_then a.val_of (value_text_of (value_of (pair_text key (86 ∷ 32 ∷ rest)))))) split.0
          ∙ ap (λ (w : List ℕ). node_with n key (option_and_then a.val_of (value_text_of w))) split.1
          ∙ ap (node_with n key) found
          ∙ ap (option_and_then (λ (j : ℕ). option_map (λ (w : Val). (j, w)) (Some v))) (number_below-decimal n i low (omega arith));
    }

pub entries_read_back : {Val Msg Weight : Type 0} → EntriesReadBack Val Msg Weight
entries_read_back {Val} {Msg} {Weight} a n column row weight w of_32 low few small weighs =
    let of_key = plain column (omega arith) in
    let of_row = plain row (omega arith) in
    let of_weight = plain weight small in
    let rest = decimal row ++ (32 ∷ decimal weight) in
    let split = pairs_split_back (decimal column) (87 ∷ 32 ∷ rest) of_key.as_val.no_tab in record {
      one_record = no_lf_pair (decimal column) (87 ∷ 32 ∷ rest) of_key.as_val.no_lf (no_lf_tagged 87 rest (λ e. omega arith) (no_lf_blank (decimal row) (decimal weight) of_row.as_val.no_lf of_weight.as_val.no_lf));
      is =
          ap (λ (v : List ℕ). option_and_then (entry_fields a n) (option_and_then around_blank (tagged 87 v))) split.1
          ∙ ap (option_and_then (entry_fields a n)) (around_blank-is (decimal row) (decimal weight) of_row.as_val.no_blank)
          ∙ ap (option_and_then (λ (r : ℕ). option_map (λ (m : Weight). (r, m)) (a.weight_of (decimal weight)))) (number_below-decimal n row low (omega arith))
          ∙ ap (option_map (λ (m : Weight). (row, m))) weighs;
    }

pub messages_read_back : {Val Msg Weight : Type 0} → MessagesReadBack Val Msg Weight
messages_read_back a laws row m of_32 fits =
    let of_key = plain row (omega arith) in
    let of_text = laws.msg_text_plain m fits in
    let split = pairs_split_back (decimal row) (89 ∷ 32 ∷ a.msg_text m) of_key.as_val.no_tab in record {
      one_record = no_lf_pair (decimal row) (89 ∷ 32 ∷ a.msg_text m) of_key.as_val.no_lf (no_lf_tagged 89 (a.msg_text m) (λ e. omega arith) of_text.as_val.no_lf);
      is = ap (λ (v : List ℕ). option_and_then a.msg_of (tagged 89 v)) split.1 ∙ laws.msg_reads_back m fits;
    }
