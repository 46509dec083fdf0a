-- Places and entries by blocks read back.
use Rattle.std.proofs.Common.{◌≡◌, ◌≢◌, ℕ, ◌+◌, ◌*◌, ◌/◌, ◌%◌, ◌<◌, ◌≤◌, ◌^◌, Bool, true, eqb, leb, cond, List, [], ◌∷◌, ◌++◌, All, position, Option, Some, None, option_map, option_and_then, decimal, refl, sym, ap, ◌∙◌, arith, ◌==◌, if◌then◌else◌}
use Rattle.std.proofs.lemmas.Bool.{cond-false, ne_eqb, and_parts, leb-true}
use Rattle.std.specs.List.{list_all}
use Rattle.std.specs.Char.{is_ascii_digit}
use Rattle.std.proofs.Math.Nat.{mod-le, div-le_self}
use Rattle.std.proofs.lemmas.List.Elements.{All-nil, All-cons, All-append}
use Rattle.peg_text.specs.Pairs.{key_of, value_of, pair_text}
use Rattle.peg_text.proofs.DecimalLemmas.{decimals_read_back}
use Rattle.peg_text.proofs.PairLemmas.{pairs_split_back}
use Rattle.graph.specs.Entries.{Entry}
use Rattle.gimv_core.specs.Texts.{IsPlainItem}
use Rattle.gimv_core.proofs.DecimalTexts.{decimal_plain, decimal_digits}
use Rattle.gimv_base.specs.Fields.{number_below, tagged, around_blank, parts_at}
use Rattle.gimv_base.specs.Records.{id_of}
use Rattle.gimv_block.specs.Blocks.{block_of, offset_of}
use Rattle.gimv_block.specs.BlockRecords.{seat_fields, seat_record_of, weight_number_of, matrix_fields, matrix_record_of, cut_fields, cut_record_of, is_dot, block_pair_of}
use Rattle.gimv_block.specs.BlockLines.{seat_text, block_key, cut_text}
use Rattle.gimv_block.specs.BlockReadBack.{SeatsReadBack, MatricesReadBack, CutReadsBack, CutsReadBack}
use Rattle.gimv_block.proofs.BackLemmas.{around-is, number_below-decimal}

abbrev NoLf : List ℕ → Type 0
NoLf text = All (λ b. b ≢ 10) text

no_lf : (k : ℕ) → k < 2 ^ 64 → NoLf (decimal k)
no_lf k low = (decimal_plain k low).as_val.no_lf

behind : (b : ℕ) (text : List ℕ) → b ≢ 10 → NoLf text → NoLf (b ∷ text)
behind b text apart all = All-cons (λ b. b ≢ 10) b text apart all

pub seats_read_back : SeatsReadBack
seats_read_back len size n place node small low few inside many =
    let j = block_of len place in
    let o = offset_of len place in
    let of_j : j < 2 ^ 64 = omega (arith, div-le_self place len) in
    let rest = decimal o ++ (32 ∷ decimal node) in
    let split = pairs_split_back (decimal j) (80 ∷ 32 ∷ rest) (decimal_plain j of_j).as_val.no_tab in record {
      one_record = All-append (λ b. b ≢ 10) (decimal j) (9 ∷ 80 ∷ 32 ∷ rest) (no_lf j of_j) (behind 9 (80 ∷ 32 ∷ rest) (λ e. omega arith) (behind 80 (32 ∷ rest) (λ e. omega arith) (behind 32 rest (λ e. omega arith)
          (All-append (λ b. b ≢ 10) (decimal o) (32 ∷ decimal node) (no_lf o (omega arith)) (behind 32 (decimal node) (λ e. omega arith) (no_lf node (omega arith)))))));
      is =
          ap (λ (v : List ℕ). option_and_then (seat_fields size n) (option_and_then around_blank (tagged 80 v))) split.1
          ∙ ap (option_and_then (seat_fields size n)) (around-is 32 (decimal o) (decimal node) (decimal_plain o (omega arith)).as_val.no_blank)
          ∙ ap (option_and_then (λ (o : ℕ). option_map (λ (i : ℕ). (o, i)) (number_below n (decimal node)))) (number_below-decimal size o low (omega arith))
          ∙ ap (option_map (λ (i : ℕ). (o, i))) (number_below-decimal n node inside (omega arith));
    }

-- the key of a place is its block
pub seat_key : (len place node : ℕ) → place < 2 ^ 32 → (j : ℕ) → block_of len place ≡ j → key_of (seat_text len place node) ≡ decimal j
seat_key len place node small j is =
    let of_j : block_of len place < 2 ^ 64 = omega (arith, div-le_self place len) in
    (pairs_split_back (decimal (block_of len place)) (80 ∷ 32 ∷ (decimal (offset_of len place) ++ (32 ∷ decimal node))) (decimal_plain (block_of len place) of_j).as_val.no_tab).0 ∙ ap decimal is

weight_back : (w : ℕ) → 1 ≤ w → w < 2 ^ 64 → weight_number_of (decimal w) ≡ Some w
weight_back w some small =
    ap (option_and_then (λ (m : ℕ). if m == 0 then None else Some m)) (decimals_read_back w small) ∙ cond-false _ _ _ (ne_eqb w 0 (λ e. omega arith))

abbrev entry_by : ℕ → ℕ → ℕ → Entry ℕ
entry_by r c w = record { row = r; column = c; weight = w }

cut_back : (r c w : ℕ) → r < 2 ^ 32 → c < 2 ^ 32 → 1 ≤ w → w < 2 ^ 64
    → option_and_then (λ (row : List ℕ × List ℕ). option_and_then (cut_fields row) (around_blank row.1)) (around_blank (decimal r ++ (32 ∷ (decimal c ++ (32 ∷ decimal w))))) ≡ Some (entry_by r c w)
cut_back r c w of_r of_c some small =
    let rest = decimal c ++ (32 ∷ decimal w) in
    ap (option_and_then (λ (row : List ℕ × List ℕ). option_and_then (cut_fields row) (around_blank row.1))) (around-is 32 (decimal r) rest (decimal_plain r (omega arith)).as_val.no_blank)
    ∙ ap (option_and_then (cut_fields (decimal r, rest))) (around-is 32 (decimal c) (decimal w) (decimal_plain c (omega arith)).as_val.no_blank)
    ∙ ap (option_and_then (λ (r : ℕ). option_and_then (λ (c : ℕ). option_map (λ (m : ℕ). entry_by r c m) (weight_number_of (decimal w))) (id_of (decimal c)))) (number_below-decimal (2 ^ 32) r of_r (omega arith))
    ∙ ap (option_and_then (λ (c : ℕ). option_map (λ (m : ℕ). entry_by r c m) (weight_number_of (decimal w)))) (number_below-decimal (2 ^ 32) c of_c (omega arith))
    ∙ ap (option_map (λ (m : ℕ). entry_by r c m)) (weight_back w some small)

pub matrices_read_back : MatricesReadBack
matrices_read_back e of_row of_column some small =
    let rest = decimal e.row ++ (32 ∷ decimal e.weight) in
    let of_key : e.column < 2 ^ 64 = omega arith in
    let split = pairs_split_back (decimal e.column) (87 ∷ 32 ∷ rest) (decimal_plain e.column of_key).as_val.no_tab in record {
      one_record = All-append (λ b. b ≢ 10) (decimal e.column) (9 ∷ 87 ∷ 32 ∷ rest) (no_lf e.column of_key) (behind 9 (87 ∷ 32 ∷ rest) (λ e. omega arith) (behind 87 (32 ∷ rest) (λ e. omega arith) (behind 32 rest (λ e. omega arith)
          (All-append (λ b. b ≢ 10) (decimal e.row) (32 ∷ decimal e.weight) (no_lf e.row (omega arith)) (behind 32 (decimal e.weight) (λ e. omega arith) (no_lf e.weight small))))));
      is =
          ap (λ (k : List ℕ). option_and_then (λ (c : ℕ). option_and_then (matrix_fields c) (option_and_then around_blank (tagged 87 (value_of (pair_text (decimal e.column) (87 ∷ 32 ∷ rest)))))) (id_of k)) split.0
          ∙ ap (λ (v : List ℕ). option_and_then (λ (c : ℕ). option_and_then (matrix_fields c) (option_and_then around_blank (tagged 87 v))) (id_of (decimal e.column))) split.1
          ∙ ap (option_and_then (λ (c : ℕ). option_and_then (matrix_fields c) (around_blank rest))) (number_below-decimal (2 ^ 32) e.column of_column (omega arith))
          ∙ ap (option_and_then (matrix_fields e.column)) (around-is 32 (decimal e.row) (decimal e.weight) (decimal_plain e.row (omega arith)).as_val.no_blank)
          ∙ ap (option_and_then (λ (r : ℕ). option_map (λ (m : ℕ). entry_by r e.column m) (weight_number_of (decimal e.weight)))) (number_below-decimal (2 ^ 32) e.row of_row (omega arith))
          ∙ ap (option_map (λ (m : ℕ). entry_by e.row e.column m)) (weight_back e.weight some small);
    }

-- a decimal has no dot
digits_no_dot : (text : List ℕ) → list_all is_ascii_digit text ≡ true → All (λ b. b ≢ 46) text
digits_no_dot [] is = All-nil (λ b. b ≢ 46)
digits_no_dot (b ∷ bs) is =
    let parts = and_parts (is_ascii_digit b) (list_all is_ascii_digit bs) is in
    let range = and_parts (leb 48 b) (leb b 57) parts.0 in
    let low = leb-true 48 b range.0 in
    All-cons (λ b. b ≢ 46) b bs (λ same. omega arith) (digits_no_dot bs parts.1)

no_dot : (k : ℕ) → k < 2 ^ 64 → All (λ b. b ≢ 46) (decimal k)
no_dot k low = digits_no_dot (decimal k) (decimal_digits k low)

key_back : (j i : ℕ) → j < 2 ^ 32 → i < 2 ^ 32 → block_pair_of (block_key j i) ≡ Some (j, i)
key_back j i of_j of_i =
    ap (option_and_then (λ (parts : List ℕ × List ℕ). option_and_then (λ (j : ℕ). option_map (λ (i : ℕ). (j, i)) (id_of parts.1)) (id_of parts.0))) (around-is 46 (decimal j) (decimal i) (no_dot j (omega arith)))
    ∙ ap (option_and_then (λ (j : ℕ). option_map (λ (i : ℕ). (j, i)) (id_of (decimal i)))) (number_below-decimal (2 ^ 32) j of_j (omega arith))
    ∙ ap (option_map (λ (i : ℕ). (j, i))) (number_below-decimal (2 ^ 32) i of_i (omega arith))

pub cuts_read_back : CutsReadBack
cuts_read_back len e of_row of_column some small =
    let j = block_of len e.column in
    let i = block_of len e.row in
    let r = offset_of len e.row in
    let c = offset_of len e.column in
    let of_j : j < 2 ^ 32 = omega (arith, div-le_self e.column len) in
    let of_i : i < 2 ^ 32 = omega (arith, div-le_self e.row len) in
    let of_r : r < 2 ^ 32 = omega (arith, mod-le e.row len) in
    let of_c : c < 2 ^ 32 = omega (arith, mod-le e.column len) in
    let rest = decimal r ++ (32 ∷ (decimal c ++ (32 ∷ decimal e.weight))) in
    let key_plain : (P : ℕ → Type 0) → All P (decimal j) → P 46 → All P (decimal i) → All P (block_key j i) = λ P of_j dot of_i. All-append P (decimal j) (46 ∷ decimal i) of_j (All-cons P 46 (decimal i) dot of_i) in
    let split = pairs_split_back (block_key j i) rest (key_plain (λ b. b ≢ 9) (decimal_plain j (omega arith)).as_val.no_tab (λ e. omega arith) (decimal_plain i (omega arith)).as_val.no_tab) in
    record {
      entry = record {
        one_record = All-append (λ b. b ≢ 10) (block_key j i) (9 ∷ rest) (key_plain (λ b. b ≢ 10) (no_lf j (omega arith)) (λ e. omega arith) (no_lf i (omega arith)))
            (behind 9 rest (λ e. omega arith) (All-append (λ b. b ≢ 10) (decimal r) (32 ∷ (decimal c ++ (32 ∷ decimal e.weight))) (no_lf r (omega arith)) (behind 32 (decimal c ++ (32 ∷ decimal e.weight)) (λ e. omega arith)
            (All-append (λ b. b ≢ 10) (decimal c) (32 ∷ decimal e.weight) (no_lf c (omega arith)) (behind 32 (decimal e.weight) (λ e. omega arith) (no_lf e.weight small))))));
        is = ap (λ (v : List ℕ). option_and_then (λ (row : List ℕ × List ℕ). option_and_then (cut_fields row) (around_blank row.1)) (around_blank v)) split.1 ∙ cut_back r c e.weight of_r of_c some small;
      };
      blocks = ap block_pair_of split.0 ∙ key_back j i of_j of_i;
    }
