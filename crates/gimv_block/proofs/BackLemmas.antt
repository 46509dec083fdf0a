-- Texts of blocks read back, item by item.
use Rattle.std.proofs.Common.{◌≡◌, ◌≢◌, ℕ, zero, suc, ◌+◌, ◌*◌, ◌<◌, ◌≤◌, ◌^◌, Bool, true, false, eqb, ltb, cond, List, [], ◌∷◌, ◌++◌, length, map, All, take, drop, position, Option, Some, None, option_map, option_and_then, decimal, slice_get, refl, sym, ap, ◌∙◌, arith, append_assoc, eq-eqb, subst, inl, inr, ◌==◌, if◌then◌else◌}
use Rattle.std.specs.List.{slice_split, join_with_byte, position_or_len, range_with_len}
use Rattle.std.proofs.lemmas.Bool.{cases_Bool, cond-true, lt-ltb, ne_eqb}
use Rattle.std.proofs.lemmas.List.{length-append, get_or_append_left, get_or_at, take_at, drop_at}
use Rattle.std.proofs.lemmas.List.Elements.{All-nil, All-cons, All-append, All-head, All-tail, All-weaker}
use Rattle.std.proofs.lemmas.List.Sums.{position_or_len_is}
use Rattle.std.proofs.lemmas.List.Splits.{slice_split_at, slice_split_none}
use Rattle.peg_text.specs.Pairs.{key_of, value_of, pair_text}
use Rattle.peg_text.specs.Records.{HasNoLf}
use Rattle.peg_text.specs.Decimal.{decimal_of}
use Rattle.peg_text.proofs.DecimalLemmas.{decimals_read_back}
use Rattle.peg_text.proofs.PairLemmas.{pairs_split_back}
use Rattle.graph.specs.Entries.{Entry}
use Rattle.graph.specs.Steps.{Vector}
use Rattle.gimv_core.specs.Algebras.{Algebra, FitsVal, FitsMsg}
use Rattle.gimv_core.specs.Laws.{IsLawful}
use Rattle.gimv_core.specs.Texts.{HasNoBlank, HasNoComma, HasNoColon, IsPlainItem}
use Rattle.gimv_core.proofs.DecimalTexts.{decimal_plain}
use Rattle.gimv_base.specs.Fields.{below, number_below, tagged, is_blank, parts_at, around_blank}
use Rattle.gimv_base.specs.Records.{counted_value, value_text_of}
use Rattle.gimv_base.specs.ReadBack.{ReadsAs}
use Rattle.gimv_block.specs.Blocks.{block_count, block_size, node_at, nodes_of_block}
use Rattle.gimv_block.specs.BlockFlow.{BlockLine, passed_by}
use Rattle.gimv_block.specs.Items.{is_comma, is_colon, all_some, items_of, around_colon}
use Rattle.gimv_block.specs.BlockRecords.{of_length, block_values_of, block_record_of, part_fields, part_of, parts_record_of, link_tag, link_fields, link_of, link_record_of, any_tagged, passed_on, item_fields, item_of, sent_of, sent_record_of}
use Rattle.gimv_block.specs.BlockLines.{values_text, part_text, item_text, link_text}
use Rattle.gimv_block.specs.BlockReadBack.{BlocksReadBack, PartsReadBack, IsGoodItem, IsGoodLine, numbered_entry, line_text}
use Rattle.gimv_block.proofs.BlockNodes.{count_low}

-- a text in two at a byte that its front hasn't
abbrev pub around : ℕ → List ℕ → Option (List ℕ × List ℕ)
around c text = option_map (parts_at text) (position (λ b. eqb b c) text)

pub around-is : (c : ℕ) (front back : List ℕ) → All (λ b. b ≢ c) front → around c (front ++ (c ∷ back)) ≡ Some (front, back)
around-is c front back unbroken =
    let test : ℕ → Bool = λ b. eqb b c in
    let text = front ++ (c ∷ back) in
    let inside : length front < length text = omega (arith, length-append front (c ∷ back)) in
    let parts : text ≡ (front ++ (c ∷ [])) ++ back = sym (append_assoc front (c ∷ []) back) in
    let at : position_or_len test text ≡ length front =
    position_or_len_is test text (length front) 0 (omega arith)
    (λ k low. ne_eqb _ c (λ there. unbroken k 0 low (sym (get_or_append_left front (c ∷ back) 0 k low) ∙ there)))
    (λ _. ap test (get_or_at front c back 0 (length front) refl) ∙ eq-eqb c c refl) in
    let found : position test text ≡ Some (length front) =
    ap (λ k. cond (ltb k (length text)) (Some k) None) at ∙ cond-true _ _ _ (lt-ltb (length front) (length text) inside) in
    let before : take (length front) text ≡ front = take_at front (c ∷ back) (length front) refl in
    let behind : drop (length front + 1) text ≡ back = ap (drop (length front + 1)) parts ∙ drop_at (front ++ (c ∷ [])) back (length front + 1) (length-append front (c ∷ [])) in
    ap (option_map (parts_at text)) found ∙ ap (λ (f : List ℕ). Some (f, drop (length front + 1) text)) before ∙ ap (λ (b : List ℕ). Some (front, b)) behind

pub number_below-decimal : (n k : ℕ) → k < n → n ≤ 2 ^ 64 → number_below n (decimal k) ≡ Some k
number_below-decimal n k low few =
    ap (option_and_then (below n)) (decimals_read_back k (omega arith)) ∙ cond-true _ _ _ (lt-ltb k n low)

no_comma_test : (text : List ℕ) → HasNoComma text → All (λ b. is_comma b ≡ false) text
no_comma_test text plain = All-weaker (λ b. b ≢ 44) (λ b. is_comma b ≡ false) (λ b apart. ne_eqb b 44 apart) text plain

-- a list that was joined is cut where it was joined
pub cut_joined : (t : List ℕ) (ts : List (List ℕ)) → All HasNoComma (t ∷ ts) → slice_split is_comma (join_with_byte 44 (t ∷ ts)) ≡ t ∷ ts
cut_joined t [] all = slice_split_none is_comma t (no_comma_test t (All-head HasNoComma t [] all))
cut_joined t (u ∷ ts) all =
    slice_split_at is_comma t 44 (join_with_byte 44 (u ∷ ts)) (no_comma_test t (All-head HasNoComma t (u ∷ ts) all)) refl
    ∙ ap (λ (us : List (List ℕ)). t ∷ us) (cut_joined u ts (All-tail HasNoComma t (u ∷ ts) all))

-- an item's text reads back, and has no comma
pub record IsItem {A B : Type 0} (kind : List ℕ → Option B) (text : A → List ℕ) (f : A → B) (x : A) : Type 0 where
  pub is : kind (text x) ≡ Some (f x)
  pub plain : HasNoComma (text x)

module _ {A B : Type 0} (kind : List ℕ → Option B) (text : A → List ℕ) (f : A → B) where
  all_back : (xs : List A) → All (IsItem kind text f) xs → all_some (map kind (map text xs)) ≡ Some (map f xs)
  all_back [] all = refl
  all_back (x ∷ xs) all =
      ap (option_and_then (λ (y : B). option_map (λ (ys : List B). y ∷ ys) (all_some (map kind (map text xs))))) (All-head (IsItem kind text f) x xs all).is
      ∙ ap (option_map (λ (ys : List B). f x ∷ ys)) (all_back xs (All-tail (IsItem kind text f) x xs all))

  none_comma : (xs : List A) → All (IsItem kind text f) xs → All HasNoComma (map text xs)
  none_comma [] all = All-nil HasNoComma
  none_comma (x ∷ xs) all = All-cons HasNoComma (text x) (map text xs) (All-head (IsItem kind text f) x xs all).plain (none_comma xs (All-tail (IsItem kind text f) x xs all))

  pub items_back : (xs : List A) → xs ≢ [] → All (IsItem kind text f) xs → items_of kind (join_with_byte 44 (map text xs)) ≡ Some (map f xs)
  items_back [] some all = absurd (some refl)
  items_back (x ∷ xs) some all = ap (λ (ts : List (List ℕ)). all_some (map kind ts)) (cut_joined (text x) (map text xs) (none_comma (x ∷ xs) all)) ∙ all_back (x ∷ xs) all

pub map-map : {A B C : Type 0} (f : B → C) (g : A → B) (xs : List A) → map f (map g xs) ≡ map (λ x. f (g x)) xs
map-map f g [] = refl
map-map f g (x ∷ xs) = ap (λ ys. f (g x) ∷ ys) (map-map f g xs)

map_itself : {A : Type 0} (xs : List A) → map (λ (x : A). x) xs ≡ xs
map_itself [] = refl
map_itself (x ∷ xs) = ap (λ ys. x ∷ ys) (map_itself xs)

-- no byte of a joined list is another one than those of its pieces and the comma
pub joined_has : (P : ℕ → Type 0) → P 44 → (ts : List (List ℕ)) → All (All P) ts → All P (join_with_byte 44 ts)
joined_has P comma [] all = All-nil P
joined_has P comma (t ∷ []) all = All-head (All P) t [] all
joined_has P comma (t ∷ u ∷ ts) all =
    All-append P t (44 ∷ join_with_byte 44 (u ∷ ts)) (All-head (All P) t (u ∷ ts) all) (All-cons P 44 (join_with_byte 44 (u ∷ ts)) comma (joined_has P comma (u ∷ ts) (All-tail (All P) t (u ∷ ts) all)))

pub All-of_map : {A B : Type 0} (P : B → Type 0) (f : A → B) (Q : A → Type 0) → ((x : A) → Q x → P (f x)) → (xs : List A) → All Q xs → All P (map f xs)
All-of_map P f Q each [] all = All-nil P
All-of_map P f Q each (x ∷ xs) all = All-cons P (f x) (map f xs) (each x (All-head Q x xs all)) (All-of_map P f Q each xs (All-tail Q x xs all))

pub parts_back : {Val Msg Weight : Type 0} (a : Algebra Val Msg Weight) → IsLawful a → (rows : ℕ) → rows ≤ 2 ^ 32 → (sent : List (ℕ × Msg)) → sent ≢ [] → All (λ p. (p.0 < rows) × FitsMsg a p.1) sent
    → items_of (part_of a rows) (join_with_byte 44 (map (λ (p : ℕ × Msg). part_text a p) sent)) ≡ Some sent
parts_back {Val} {Msg} {Weight} a laws rows few sent some all =
    let text : ℕ × Msg → List ℕ = λ p. part_text a p in
    let Good : ℕ × Msg → Type 0 = λ p. (p.0 < rows) × FitsMsg a p.1 in
    items_back (part_of a rows) text (λ p. p) sent some
    (All-weaker Good (IsItem (part_of a rows) text (λ p. p))
    (λ p good.
    let of_row = decimal_plain p.0 (omega (arith, good.0)) in
    let of_text = laws.msg_text_plain p.1 good.1 in record {
      is =
          ap (option_and_then (part_fields a rows)) (around-is 58 (decimal p.0) (a.msg_text p.1) of_row.no_colon)
          ∙ ap (option_and_then (λ (r : ℕ). option_map (λ (m : Msg). (r, m)) (a.msg_of (a.msg_text p.1)))) (number_below-decimal rows p.0 good.0 (omega arith))
          ∙ ap (option_map (λ (m : Msg). (p.0, m))) (laws.msg_reads_back p.1 good.1);
      plain = All-append (λ b. b ≢ 44) (decimal p.0) (58 ∷ a.msg_text p.1) of_row.as_val.no_comma (All-cons (λ b. b ≢ 44) 58 (a.msg_text p.1) (λ e. omega arith) of_text.as_val.no_comma);
    })
    sent all)
    ∙ ap Some (map_itself sent)

pub parts_read_back : {Val Msg Weight : Type 0} → PartsReadBack Val Msg Weight
parts_read_back {Val} {Msg} {Weight} a laws i rows sent small few some all =
    let text : ℕ × Msg → List ℕ = λ p. part_text a p in
    let Good : ℕ × Msg → Type 0 = λ p. (p.0 < rows) × FitsMsg a p.1 in
    let of_key = decimal_plain i (omega arith) in
    let list = join_with_byte 44 (map text sent) in
    let split = pairs_split_back (decimal i) (89 ∷ 32 ∷ list) of_key.as_val.no_tab in
    let NoLf : ℕ → Type 0 = λ b. b ≢ 10 in
    let of_list : All NoLf list = joined_has NoLf (λ e. omega arith) (map text sent) (All-of_map (All NoLf) text Good
    (λ p good. All-append NoLf (decimal p.0) (58 ∷ a.msg_text p.1) (decimal_plain p.0 (omega (arith, good.0))).as_val.no_lf (All-cons NoLf 58 (a.msg_text p.1) (λ e. omega arith) (laws.msg_text_plain p.1 good.1).as_val.no_lf)) sent all) in record {
      one_record = All-append NoLf (decimal i) (9 ∷ 89 ∷ 32 ∷ list) of_key.as_val.no_lf (All-cons NoLf 9 (89 ∷ 32 ∷ list) (λ e. omega arith) (All-cons NoLf 89 (32 ∷ list) (λ e. omega arith) (All-cons NoLf 32 list (λ e. omega arith) of_list)));
      is = ap (λ (v : List ℕ). option_and_then (items_of (part_of a rows)) (tagged 89 v)) split.1 ∙ parts_back a laws rows few sent some all;
    }

abbrev block_with : {Val Msg Weight : Type 0} → Algebra Val Msg Weight → ℕ → ℕ → List ℕ → List ℕ → Option (ℕ × List Val)
block_with a len n k v = option_and_then (λ i. option_map (λ ws. (i, ws)) (option_and_then (block_values_of a (block_size len n i)) (value_text_of v))) (number_below (block_count len n) k)

pub blocks_read_back : {Val Msg Weight : Type 0} → BlocksReadBack Val Msg Weight
blocks_read_back {Val} {Msg} {Weight} a laws len n j c vs low few counts changed some long all =
    let key = decimal j in
    let of_key = decimal_plain j (omega arith) in
    let of_count = decimal_plain c (omega arith) in
    let list = join_with_byte 44 (map a.val_text vs) in
    let rest = decimal c ++ (32 ∷ list) in
    let split = pairs_split_back key (86 ∷ 32 ∷ rest) of_key.as_val.no_tab in
    let NoLf : ℕ → Type 0 = λ b. b ≢ 10 in
    let of_list : All NoLf list = joined_has NoLf (λ e. omega arith) (map a.val_text vs) (All-of_map (All NoLf) a.val_text (FitsVal a) (λ v fits. (laws.val_text_plain v fits).no_lf) vs all) in
    let values : items_of a.val_of list ≡ Some vs = items_back a.val_of a.val_text (λ v. v) vs some
    (All-weaker (FitsVal a) (IsItem a.val_of a.val_text (λ v. v)) (λ v fits. record { is = laws.val_reads_back v fits; plain = (laws.val_text_plain v fits).no_comma }) vs all)
    ∙ ap Some (map_itself vs) in
    let text : value_text_of (86 ∷ 32 ∷ rest) ≡ Some list =
    ap (option_and_then counted_value) (around-is 32 (decimal c) list of_count.as_val.no_blank)
    ∙ ap (option_map (λ (k : ℕ). list)) (number_below-decimal 257 c (omega arith) (omega arith)) in
    let found : option_and_then (block_values_of a (block_size len n j)) (value_text_of (86 ∷ 32 ∷ rest)) ≡ Some vs =
    ap (option_and_then (block_values_of a (block_size len n j))) text ∙ ap (option_and_then (of_length (block_size len n j))) values
    ∙ cond-true _ _ _ (eq-eqb (length vs) (block_size len n j) long) in record {
      one_record = All-append NoLf key (9 ∷ 86 ∷ 32 ∷ rest) of_key.as_val.no_lf (All-cons NoLf 9 (86 ∷ 32 ∷ rest) (λ e. omega arith) (All-cons NoLf 86 (32 ∷ rest) (λ e. omega arith)
          (All-cons NoLf 32 rest (λ e. omega arith) (All-append NoLf (decimal c) (32 ∷ list) of_count.as_val.no_lf (All-cons NoLf 32 list (λ e. omega arith) of_list)))));
      is =
          ap (λ (k : List ℕ). block_with a len n k (value_of (pair_text key (86 ∷ 32 ∷ rest)))) split.0
          ∙ ap (block_with a len n key) split.1
          ∙ ap (option_and_then (λ (i : ℕ). option_map (λ (ws : List Val). (i, ws)) (option_and_then (block_values_of a (block_size len n i)) (value_text_of (86 ∷ 32 ∷ rest))))) (number_below-decimal (block_count len n) j low (omega arith))
          ∙ ap (option_map (λ (ws : List Val). (j, ws))) found;
    }

-- an item between blocks reads back, within the values of its columns
item_back : {Val Msg Weight : Type 0} (a : Algebra Val Msg Weight) (number : Weight → ℕ) (vs : List Val) (rows columns : ℕ) → rows ≤ 2 ^ 32 → columns ≤ 2 ^ 32 → (e : Entry Weight) (value : Val)
    → IsGoodItem a number rows columns e → slice_get vs e.column ≡ Some value → item_of a vs rows (item_text (numbered_entry number e)) ≡ Some (e.row, a.algorithm.combine2 e.weight value)
item_back {Val} {Msg} {Weight} a number vs rows columns few few_columns e value good there =
    let row = good.row in
    let column = good.column in
    let small : e.column < 2 ^ 64 = omega (arith, column, few_columns) in
    let of_row = decimal_plain e.row (omega (arith, row, few)) in
    let of_column = decimal_plain e.column small in
    let weight = number e.weight in
    let rest = decimal e.column ++ (58 ∷ decimal weight) in
    let message = a.algorithm.combine2 e.weight value in
    let sent : passed_on a vs (decimal e.column, decimal weight) ≡ Some message =
    ap (λ (c : Option ℕ). option_and_then (λ (v : Val). option_map (λ (w : Weight). a.algorithm.combine2 w v) (a.weight_of (decimal weight))) (option_and_then (slice_get vs) c)) (decimals_read_back e.column small)
    ∙ ap (option_and_then (λ (v : Val). option_map (λ (w : Weight). a.algorithm.combine2 w v) (a.weight_of (decimal weight)))) there
    ∙ ap (option_map (λ (w : Weight). a.algorithm.combine2 w value)) good.weighs in
    ap (option_and_then (item_fields a vs rows)) (around-is 58 (decimal e.row) rest of_row.no_colon)
    ∙ ap (option_and_then (λ (r : ℕ). option_map (λ (m : Msg). (r, m)) (option_and_then (passed_on a vs) (around_colon rest)))) (number_below-decimal rows e.row row (omega (arith, few)))
    ∙ ap (λ (found : Option (List ℕ × List ℕ)). option_map (λ (m : Msg). (e.row, m)) (option_and_then (passed_on a vs) found)) (around-is 58 (decimal e.column) (decimal weight) of_column.no_colon)
    ∙ ap (option_map (λ (m : Msg). (e.row, m))) sent

pub item_has : (P : ℕ → Type 0) → ((k : ℕ) → k < 2 ^ 64 → All P (decimal k)) → P 58 → (e : Entry ℕ) → e.row < 2 ^ 64 → e.column < 2 ^ 64 → e.weight < 2 ^ 64 → All P (item_text e)
item_has P digits colon e row column weight =
    All-append P (decimal e.row) (58 ∷ (decimal e.column ++ (58 ∷ decimal e.weight))) (digits e.row row)
    (All-cons P 58 (decimal e.column ++ (58 ∷ decimal e.weight)) colon
    (All-append P (decimal e.column) (58 ∷ decimal e.weight) (digits e.column column) (All-cons P 58 (decimal e.weight) colon (digits e.weight weight))))

tag_small : (j i : ℕ) → (link_tag j i ≢ 10) × (link_tag j i ≢ 9)
tag_small j i = elim (cases_Bool (eqb i j)) [ inl is ↦ rw is ((λ e. omega arith), (λ e. omega arith)) | inr isnt ↦ rw isnt ((λ e. omega arith), (λ e. omega arith)) ]

-- the text of a line of items reads as its row's block and the text of the items
pub link_back : (count j i : ℕ) (es : List (Entry ℕ)) → j < 2 ^ 32 → i < count → count ≤ 2 ^ 32 → All (λ (e : Entry ℕ). (e.row < 2 ^ 64) × (e.column < 2 ^ 64) × (e.weight < 2 ^ 64)) es
    → ReadsAs (link_record_of count j) (link_text j i es) (Some (i, join_with_byte 44 (map item_text es)))
link_back count j i es small low few all =
    let of_key = decimal_plain j (omega arith) in
    let of_row = decimal_plain i (omega arith) in
    let list = join_with_byte 44 (map item_text es) in
    let tag = link_tag j i in
    let value = tag ∷ 32 ∷ (decimal i ++ (32 ∷ list)) in
    let NoLf : ℕ → Type 0 = λ b. b ≢ 10 in
    let Good : Entry ℕ → Type 0 = λ e. (e.row < 2 ^ 64) × (e.column < 2 ^ 64) × (e.weight < 2 ^ 64) in
    let of_list : All NoLf list = joined_has NoLf (λ e. omega arith) (map item_text es)
    (All-of_map (All NoLf) item_text Good (λ e good. item_has NoLf (λ k low. (decimal_plain k low).as_val.no_lf) (λ e. omega arith) e good.0 good.1 good.2) es all) in
    let split = pairs_split_back (decimal j) value of_key.as_val.no_tab in
    let found : link_of count j (tag, decimal i ++ (32 ∷ list)) ≡ Some (i, list) =
    ap (option_and_then (link_fields count j tag)) (around-is 32 (decimal i) list of_row.as_val.no_blank)
    ∙ ap (option_and_then (λ (k : ℕ). if tag == link_tag j k then Some (k, list) else None)) (number_below-decimal count i low (omega arith))
    ∙ cond-true _ _ _ (eq-eqb tag tag refl) in record {
      one_record = All-append NoLf (decimal j) (9 ∷ value) of_key.as_val.no_lf (All-cons NoLf 9 value (λ e. omega arith) (All-cons NoLf tag (32 ∷ (decimal i ++ (32 ∷ list))) (tag_small j i).0
          (All-cons NoLf 32 (decimal i ++ (32 ∷ list)) (λ e. omega arith) (All-append NoLf (decimal i) (32 ∷ list) of_row.as_val.no_lf (All-cons NoLf 32 list (λ e. omega arith) of_list)))));
      is = ap (λ (v : List ℕ). option_and_then (link_of count j) (any_tagged v)) split.1 ∙ found;
    }

-- the value at an offset of a block's values
pub get_mapped : {A : Type 0} (v : ℕ → A) (i c o : ℕ) → o < c → slice_get (map v (range_with_len i c)) o ≡ Some (v (i + o))
get_mapped v i zero o low = absurd (omega arith)
get_mapped v i (suc c) zero low = let same : i ≡ i + 0 = omega arith in ap (λ (k : ℕ). Some (v k)) same
get_mapped v i (suc c) (suc o) low = let same : (i + 1) + o ≡ i + suc o = omega arith in get_mapped v (i + 1) c o (omega arith) ∙ ap (λ (k : ℕ). Some (v k)) same

module _ {Val Msg Weight : Type 0} (a : Algebra Val Msg Weight) (number : Weight → ℕ) (len n : ℕ) (line : BlockLine Weight) (some : 1 ≤ len) (few : n ≤ 2 ^ 32) (good : IsGoodLine a number len n line) where
  abbrev rows : ℕ
  rows = block_size len n line.row_block

  abbrev columns : ℕ
  columns = block_size len n line.column_block

  abbrev Good : Entry Weight → Type 0
  Good e = IsGoodItem a number rows columns e

  abbrev Small : Entry ℕ → Type 0
  Small e = (e.row < 2 ^ 64) × (e.column < 2 ^ 64) × (e.weight < 2 ^ 64)

  rows_few : rows ≤ 2 ^ 32
  rows_few = omega arith

  columns_few : columns ≤ 2 ^ 32
  columns_few = omega arith

  small_item : (e : Entry Weight) → Good e → Small (numbered_entry number e)
  small_item e h = let row = h.row in let column = h.column in (omega (arith, row, rows_few), omega (arith, column, columns_few), h.light)

  -- the line reads as its row's block and the text of its items
  pub line_back : ReadsAs (link_record_of (block_count len n) line.column_block) (line_text number line) (Some (line.row_block, join_with_byte 44 (map item_text (map (numbered_entry number) line.items))))
  line_back =
      let most = count_low len n some in
      let low = good.column_low in
      link_back (block_count len n) line.column_block line.row_block (map (numbered_entry number) line.items) (omega (arith, low, most, few)) good.row_low (omega (arith, most, few))
      (All-of_map Small (numbered_entry number) Good small_item line.items good.each)

  pub item_plain : (e : Entry Weight) → Good e → HasNoComma (item_text (numbered_entry number e))
  item_plain e h =
      let small = small_item e h in
      item_has (λ b. b ≢ 44) (λ k low. (decimal_plain k low).as_val.no_comma) (λ e. omega arith) (numbered_entry number e) small.0 small.1 small.2

  module _ (v : Vector Val) where
    abbrev vals : List Val
    vals = map v (nodes_of_block len n line.column_block)

    abbrev text : Entry Weight → List ℕ
    text e = item_text (numbered_entry number e)

    abbrev sent : Entry Weight → ℕ × Msg
    sent e = (e.row, a.algorithm.combine2 e.weight (v (node_at len line.column_block e.column)))

    one_back : (e : Entry Weight) → Good e → IsItem (item_of a vals rows) text sent e
    one_back e h = record {
      is = item_back a number vals rows columns rows_few columns_few e (v (node_at len line.column_block e.column)) h (get_mapped v (line.column_block * len) columns e.column h.column);
      plain = item_plain e h;
    }

    pub lines_read_back : ReadsAs (sent_record_of a len n line.column_block vals) (line_text number line) (Some (line.row_block, passed_by a.algorithm len v line))
    lines_read_back = record {
      one_record = line_back.one_record;
      is =
          ap (option_and_then (sent_of a len n vals)) line_back.is
          ∙ ap (λ (ts : List (List ℕ)). option_map (λ (s : List (ℕ × Msg)). (line.row_block, s)) (items_of (item_of a vals rows) (join_with_byte 44 ts))) (map-map item_text (numbered_entry number) line.items)
          ∙ ap (option_map (λ (s : List (ℕ × Msg)). (line.row_block, s))) (items_back (item_of a vals rows) text sent line.items good.items_some (All-weaker Good (IsItem (item_of a vals rows) text sent) one_back line.items good.each));
    }
