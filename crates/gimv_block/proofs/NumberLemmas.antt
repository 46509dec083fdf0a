-- Reading a number at the front of a text, and what a text is that begins with one.
use Rattle.std.proofs.Common.{◌≡◌, ◌≢◌, ℕ, ◌+◌, ◌-◌, ◌*◌, ◌^◌, ◌<◌, ◌≤◌, leb, true, List, [], ◌∷◌, ◌++◌, Option, Some, None, option_map, option_and_then, slice_get, All, length, map, get_or, take, drop, refl, sym, ap, ◌∙◌, arith}
use Rattle.std.specs.List.{list_all, slice_split, onto_first}
use Rattle.std.specs.Char.{is_ascii_digit, digit_value}
use Rattle.std.specs.Str.Parse.{digits_value}
use Rattle.std.proofs.lemmas.Bool.{and_from, and_parts, leb-true, ne_eqb, cond-true, lt-ltb}
use Rattle.std.proofs.lemmas.List.{take-append-drop, drop_more, length-take-le}
use Rattle.std.proofs.lemmas.List.Elements.{All-nil, All-cons, All-head, All-tail}
use Rattle.std.proofs.lemmas.List.Folds.{list_all_more}
use Rattle.std.proofs.lemmas.List.Splits.{slice_split-cons_no}
use Rattle.std.proofs.lemmas.Int.Digits.{digits_value_more}
use Rattle.peg_text.specs.Decimal.{decimal_of}
use Rattle.peg_text.specs.Pairs.{value_of, pair_text}
use Rattle.peg_text.proofs.DecimalLemmas.{digit_value-is, digit_small, below_next, some_value}
use Rattle.peg_text.proofs.PairLemmas.{pairs_split_back}
use Rattle.graph.specs.Entries.{Entry}
use Rattle.gimv_core.specs.Algebras.{Algebra}
use Rattle.gimv_base.specs.Fields.{below, number_below, tagged, around_blank}
use Rattle.gimv_base.specs.Records.{id_of}
use Rattle.gimv_block.specs.Numbers.{BeginsWithNumber, with_number}
use Rattle.gimv_block.specs.Items.{is_comma, all_some, pieces_of, items_of, from_first, around_colon}
use Rattle.gimv_block.specs.BlockRecords.{item_of, item_fields, passed_on, part_of, part_fields, matrix_fields, matrix_record_of, cut_fields, cut_record_of, weight_number_of}
use Rattle.gimv_block.proofs.BackLemmas.{around-is}

-- these first bytes are digits, and write this number
pub record IsRead (text : List ℕ) (most number count : ℕ) : Type 0 where
  pub value : number ≡ digits_value 10 (take count text)
  pub digits : list_all is_ascii_digit (take count text) ≡ true
  pub low : number < 10 ^ count
  pub within : count ≤ most
  pub inside : most ≤ length text
  pub few : most ≤ 19

pub none_read : (text : List ℕ) (most : ℕ) → most ≤ length text → most ≤ 19 → IsRead text most 0 0
none_read text most inside few = record { value = refl; digits = refl; low = omega arith; within = omega arith; inside = inside; few = few }

pub digit_read : (text : List ℕ) (most number count b : ℕ) → IsRead text most number count → count < most → get_or text count 0 ≡ b → is_ascii_digit b ≡ true
    → IsRead text most (number * 10 + (b - 48)) (count + 1)
digit_read text most number count b read lt is digit =
    let inside : count < length text = omega (arith, lt, read.inside) in
    let same : digit_value (get_or text count 0) ≡ b - 48 = ap digit_value is ∙ digit_value-is b digit in record {
      value = ap (λ (n : ℕ). n * 10 + (b - 48)) read.value ∙ sym (digits_value_more 10 text count inside ∙ ap (λ (v : ℕ). digits_value 10 (take count text) * 10 + v) same);
      digits = list_all_more is_ascii_digit text count 0 inside ∙ and_from _ _ read.digits (ap is_ascii_digit is ∙ digit);
      low = below_next number count (b - 48) read.low (digit_small b digit);
      within = omega (arith, lt);
      inside = read.inside;
      few = read.few;
    }

-- a text whose first bytes are digits and whose next one is the mark
pub number_is : (text : List ℕ) (number count mark : ℕ) → number ≡ digits_value 10 (take count text) → list_all is_ascii_digit (take count text) ≡ true → number < 2 ^ 64
    → 0 < count → count ≤ 19 → count < length text → get_or text count 0 ≡ mark → BeginsWithNumber text mark number (drop (count + 1) text)
number_is text number count mark value digits low some few inside is =
    let front = take count text in
    let long : length front ≡ count = length-take-le count text (omega arith) in
    record {
      digits = front;
      is = sym (take-append-drop count text) ∙ ap (λ (l : List ℕ). front ++ l) (drop_more text count 0 inside ∙ ap (λ (b : ℕ). b ∷ drop (count + 1) text) is);
      all = digits;
      reads = some_value front (omega (arith, long)) (omega (arith, long)) digits (omega (arith, value, low)) ∙ ap Some (sym value);
    }

-- digits have no byte that is none
pub digits_without : (c : ℕ) → ((b : ℕ) → 48 ≤ b → b ≤ 57 → b ≢ c) → (text : List ℕ) → list_all is_ascii_digit text ≡ true → All (λ b. b ≢ c) text
digits_without c apart [] is = All-nil (λ b. b ≢ c)
digits_without c apart (b ∷ bs) is =
    let parts = and_parts (is_ascii_digit b) (list_all is_ascii_digit bs) is in
    let range = and_parts (leb 48 b) (leb b 57) parts.0 in
    All-cons (λ b. b ≢ c) b bs (apart b (leb-true 48 b range.0) (leb-true b 57 range.1)) (digits_without c apart bs parts.1)

-- a front without a comma is a part of the first piece
glued : (front rest w : List ℕ) (ws : List (List ℕ)) → All (λ b. b ≢ 44) front → slice_split is_comma rest ≡ w ∷ ws → slice_split is_comma (front ++ rest) ≡ (front ++ w) ∷ ws
glued [] rest w ws all cut = cut
glued (b ∷ bs) rest w ws all cut =
    slice_split-cons_no is_comma b (bs ++ rest) (ne_eqb b 44 (All-head (λ b. b ≢ 44) b bs all))
    ∙ ap (onto_first b) (glued bs rest w ws (All-tail (λ b. b ≢ 44) b bs all) cut)

-- a number and a colon are a part of the first piece
pub number_glued : (text rest w : List ℕ) (ws : List (List ℕ)) (number : ℕ) (front : BeginsWithNumber text 58 number rest) → slice_split is_comma rest ≡ w ∷ ws
    → slice_split is_comma text ≡ (front.digits ++ (58 ∷ w)) ∷ ws
number_glued text rest w ws number front cut =
    ap (slice_split is_comma) front.is
    ∙ glued front.digits (58 ∷ rest) (58 ∷ w) ws (digits_without 44 (λ b low high same. omega arith) front.digits front.all)
    (glued (58 ∷ []) rest w ws (All-cons (λ b. b ≢ 44) 58 [] (λ e. omega arith) (All-nil (λ b. b ≢ 44))) cut)

no_colon : (digits : List ℕ) → list_all is_ascii_digit digits ≡ true → All (λ b. b ≢ 58) digits
no_colon digits all = digits_without 58 (λ b low high same. omega arith) digits all

number_within : (n k : ℕ) (digits : List ℕ) → decimal_of digits ≡ Some k → k < n → number_below n digits ≡ Some k
number_within n k digits is low = ap (option_and_then (below n)) is ∙ cond-true _ _ _ (lt-ltb k n low)

module _ {A : Type 0} (kind : List ℕ → Option A) (text item : List ℕ) (left : Option (List ℕ)) (cut : pieces_of (Some text) ≡ item ∷ pieces_of left) where
  cut_here : items_of kind text ≡ all_some (kind item ∷ map kind (pieces_of left))
  cut_here = ap (λ (ps : List (List ℕ)). all_some (map kind ps)) cut

  pub item_first : (x : A) → kind item ≡ Some x → items_of kind text ≡ from_first kind (Some (x, left))
  item_first x is = cut_here ∙ ap (λ (o : Option A). all_some (o ∷ map kind (pieces_of left))) is

  pub no_item_first : kind item ≡ None → items_of kind text ≡ None
  no_item_first is = cut_here ∙ ap (λ (o : Option A). all_some (o ∷ map kind (pieces_of left))) is

module _ {Val Msg Weight : Type 0} (a : Algebra Val Msg Weight) where
  -- an item of two numbers and a weight, and what follows its comma
  pub quick_item_is : (vs : List Val) (rows : ℕ) (text fields last weight : List ℕ) (left : Option (List ℕ)) (row column : ℕ) (v : Val) (w : Weight) → BeginsWithNumber text 58 row fields → row < rows
      → BeginsWithNumber fields 58 column last → slice_get vs column ≡ Some v → pieces_of (Some last) ≡ weight ∷ pieces_of left → a.weight_of weight ≡ Some w
      → items_of (item_of a vs rows) text ≡ from_first (item_of a vs rows) (Some ((row, a.algorithm.combine2 w v), left))
  quick_item_is vs rows text fields last weight left row column v w one low two there cut weighs =
      let rest = two.digits ++ (58 ∷ weight) in
      let sent : passed_on a vs (two.digits, weight) ≡ Some (a.algorithm.combine2 w v) =
      ap (λ (c : Option ℕ). option_and_then (λ (v : Val). option_map (λ (w : Weight). a.algorithm.combine2 w v) (a.weight_of weight)) (option_and_then (slice_get vs) c)) two.reads
      ∙ ap (option_and_then (λ (v : Val). option_map (λ (w : Weight). a.algorithm.combine2 w v) (a.weight_of weight))) there
      ∙ ap (option_map (λ (w : Weight). a.algorithm.combine2 w v)) weighs in
      item_first (item_of a vs rows) text (one.digits ++ (58 ∷ rest)) left
      (number_glued text fields rest (pieces_of left) row one (number_glued fields last weight (pieces_of left) column two cut))
      (row, a.algorithm.combine2 w v)
      (ap (option_and_then (item_fields a vs rows)) (around-is 58 one.digits rest (no_colon one.digits one.all))
      ∙ ap (option_and_then (λ (r : ℕ). option_map (λ (m : Msg). (r, m)) (option_and_then (passed_on a vs) (around_colon rest)))) (number_within rows row one.digits one.reads low)
      ∙ ap (λ (found : Option (List ℕ × List ℕ)). option_map (λ (m : Msg). (row, m)) (option_and_then (passed_on a vs) found)) (around-is 58 two.digits weight (no_colon two.digits two.all))
      ∙ ap (option_map (λ (m : Msg). (row, m))) sent)

  -- a part of a number and a message, and what follows its comma
  pub quick_part_is : (rows : ℕ) (text last message : List ℕ) (left : Option (List ℕ)) (row : ℕ) (m : Msg) → BeginsWithNumber text 58 row last → row < rows
      → pieces_of (Some last) ≡ message ∷ pieces_of left → a.msg_of message ≡ Some m → items_of (part_of a rows) text ≡ from_first (part_of a rows) (Some ((row, m), left))
  quick_part_is rows text last message left row m one low cut is =
      item_first (part_of a rows) text (one.digits ++ (58 ∷ message)) left (number_glued text last message (pieces_of left) row one cut) (row, m)
      (ap (option_and_then (part_fields a rows)) (around-is 58 one.digits message (no_colon one.digits one.all))
      ∙ ap (option_and_then (λ (r : ℕ). option_map (λ (m : Msg). (r, m)) (a.msg_of message))) (number_within rows row one.digits one.reads low)
      ∙ ap (option_map (λ (m : Msg). (row, m))) is)

abbrev entry_by : ℕ → ℕ → ℕ → Entry ℕ
entry_by r c w = record { row = r; column = c; weight = w }

-- an entry of a matrix, by its numbers
pub quick_matrix_is : (line value fields weight : List ℕ) (column row w : ℕ) → BeginsWithNumber line 9 column value → column < 2 ^ 32 → tagged 87 value ≡ Some fields
    → BeginsWithNumber fields 32 row weight → row < 2 ^ 32 → weight_number_of weight ≡ Some w → matrix_record_of line ≡ Some (record { row = row; column = column; weight = w })
quick_matrix_is line value fields weight column row w one of_column is_tagged two of_row weighs =
    let split = pairs_split_back one.digits value (digits_without 9 (λ b low high same. omega arith) one.digits one.all) in
    ap matrix_record_of one.is
    ∙ ap (λ (k : List ℕ). option_and_then (λ (c : ℕ). option_and_then (matrix_fields c) (option_and_then around_blank (tagged 87 (value_of (pair_text one.digits value))))) (id_of k)) split.0
    ∙ ap (λ (v : List ℕ). option_and_then (λ (c : ℕ). option_and_then (matrix_fields c) (option_and_then around_blank (tagged 87 v))) (id_of one.digits)) split.1
    ∙ ap (λ (v : Option (List ℕ)). option_and_then (λ (c : ℕ). option_and_then (matrix_fields c) (option_and_then around_blank v)) (id_of one.digits)) is_tagged
    ∙ ap (option_and_then (λ (c : ℕ). option_and_then (matrix_fields c) (around_blank fields))) (number_within (2 ^ 32) column one.digits one.reads of_column)
    ∙ ap (λ (l : List ℕ). option_and_then (matrix_fields column) (around_blank l)) two.is
    ∙ ap (option_and_then (matrix_fields column)) (around-is 32 two.digits weight (digits_without 32 (λ b low high same. omega arith) two.digits two.all))
    ∙ ap (option_and_then (λ (r : ℕ). option_map (λ (m : ℕ). entry_by r column m) (weight_number_of weight))) (number_within (2 ^ 32) row two.digits two.reads of_row)
    ∙ ap (option_map (λ (m : ℕ). entry_by row column m)) weighs

no_blank : (digits : List ℕ) → list_all is_ascii_digit digits ≡ true → All (λ b. b ≢ 32) digits
no_blank digits all = digits_without 32 (λ b low high same. omega arith) digits all

-- a number and a blank are the first field
pub first_number_is : (bound : ℕ) (text rest : List ℕ) (number : ℕ) → BeginsWithNumber text 32 number rest → number < bound
    → option_and_then (with_number bound) (around_blank text) ≡ Some (number, rest)
first_number_is bound text rest number front low =
    ap (λ (l : List ℕ). option_and_then (with_number bound) (around_blank l)) front.is
    ∙ ap (option_and_then (with_number bound)) (around-is 32 front.digits rest (no_blank front.digits front.all))
    ∙ ap (option_map (λ (k : ℕ). (k, rest))) (number_within bound number front.digits front.reads low)

-- an entry between two blocks, by its numbers
pub quick_cut_is : (line rest weight : List ℕ) (row column w : ℕ) → BeginsWithNumber (value_of line) 32 row rest → row < 2 ^ 32
    → BeginsWithNumber rest 32 column weight → column < 2 ^ 32 → weight_number_of weight ≡ Some w → cut_record_of line ≡ Some (entry_by row column w)
quick_cut_is line rest weight row column w one of_row two of_column weighs =
    ap (λ (v : List ℕ). option_and_then (λ (f : List ℕ × List ℕ). option_and_then (cut_fields f) (around_blank f.1)) (around_blank v)) one.is
    ∙ ap (option_and_then (λ (f : List ℕ × List ℕ). option_and_then (cut_fields f) (around_blank f.1))) (around-is 32 one.digits rest (no_blank one.digits one.all))
    ∙ ap (λ (l : List ℕ). option_and_then (cut_fields (one.digits, rest)) (around_blank l)) two.is
    ∙ ap (option_and_then (cut_fields (one.digits, rest))) (around-is 32 two.digits weight (no_blank two.digits two.all))
    ∙ ap (option_and_then (λ (r : ℕ). option_and_then (λ (c : ℕ). option_map (λ (m : ℕ). entry_by r c m) (weight_number_of weight)) (id_of two.digits))) (number_within (2 ^ 32) row one.digits one.reads of_row)
    ∙ ap (option_and_then (λ (c : ℕ). option_map (λ (m : ℕ). entry_by row c m) (weight_number_of weight))) (number_within (2 ^ 32) column two.digits two.reads of_column)
    ∙ ap (option_map (λ (m : ℕ). entry_by row column m)) weighs
