-- The count that is read of a folder is that of the nodes that changed.
use Rattle.std.proofs.Common.{◌≡◌, refl, ap, ◌∙◌, Bool, true, false, cond, not, ℕ, zero, suc, ◌<◌, ◌≤◌, ◌^◌, List, [], ◌∷◌, ◌++◌, map, decimal, Option, Some, None, option_and_then, arith}
use Rattle.std.specs.Prelude.{is_some, unwrap_or}
use Rattle.std.specs.List.{All, range_with_len, sum_by}
use Rattle.std.proofs.lemmas.List.Elements.{All-weaker, All-map}
use Rattle.peg_text.specs.Decimal.{decimal_of}
use Rattle.peg_text.specs.Pairs.{value_of}
use Rattle.peg_text.proofs.DecimalLemmas.{decimals_read_back}
use Rattle.peg_text.proofs.PairLemmas.{pairs_split_back}
use Rattle.graph.specs.Entries.{Entry}
use Rattle.graph.specs.Steps.{iterate, changed}
use Rattle.gimv_core.specs.Algebras.{Algebra}
use Rattle.gimv_core.proofs.DecimalTexts.{decimal_plain}
use Rattle.gimv_base.specs.Fields.{number_below, tagged, around_blank}
use Rattle.pairs.specs.Pairs.{Pair}
use Rattle.store.specs.Parts.{Record}
use Rattle.store.specs.Totals.{count_of, change_of, is_value}
use Rattle.mining.specs.Flow.{changes_in, records_from}
use Rattle.list_laws.proofs.Alls.{all_each}
use Rattle.list_laws.proofs.Ranges.{all_below}
use Rattle.list_laws.proofs.Sums.{sum_agree, sum-of_map, ones}
use Rattle.flow_core.specs.Holding.{Holds, record_of}
use Rattle.flow_base.specs.Layouts.{Sequence, sequence, value_pair, layout, changed_in}
use Rattle.flow_base.proofs.RecordsBack.{number_back}
use Rattle.flow_base.proofs.Blanks.{around_blank-is}
use Rattle.flow.proofs.Reading.{good_held, sum_held}

count_some : (count text : List ℕ) → (text ≡ [] → ⊥) → count_of (count, text) ≡ number_below 257 count
count_some count [] some = absurd (some refl)
count_some count (b ∷ rest) some = refl

-- the count of a line is read, whatever its key and its values are
pub count_read : (key count : ℕ) (text : List ℕ) → key < 2 ^ 64 → count ≤ 256 → (text ≡ [] → ⊥) → change_of (record_of (decimal key, 86 ∷ 32 ∷ (decimal count ++ (32 ∷ text)))) ≡ Some count
count_read key count text low few some =
    let rest = decimal count ++ (32 ∷ text) in
    let split = pairs_split_back (decimal key) (86 ∷ 32 ∷ rest) (decimal_plain key low).as_val.no_tab in
    let line = record_of (decimal key, 86 ∷ 32 ∷ rest) in
    ap (λ (k : List ℕ). option_and_then (λ i. option_and_then count_of (option_and_then around_blank (tagged 86 (value_of line)))) (decimal_of k)) split.0
    ∙ ap (λ (w : List ℕ). option_and_then (λ i. option_and_then count_of (option_and_then around_blank (tagged 86 w))) (decimal_of (decimal key))) split.1
    ∙ ap (λ (found : Option ℕ). option_and_then (λ i. option_and_then count_of (around_blank rest)) found) (decimals_read_back key low)
    ∙ ap (option_and_then count_of) (around_blank-is (decimal count) text (decimal_plain count (omega arith)).as_val.no_blank)
    ∙ count_some (decimal count) text some
    ∙ number_back 257 count (omega arith) (omega arith)

-- a folder that holds a line for each of these items, with these counts
pub counts_held : {I : Type 0} (texts : List (List ℕ)) (line : I → Pair) (count : I → ℕ) (is : List I) → Holds texts (map line is) → All (λ i. change_of (record_of (line i)) ≡ Some (count i)) is
    → changes_in texts ≡ Some (sum_by count is)
unfolding changes_in
counts_held {I} texts line count is holds reads =
    let f : List ℕ → ℕ = λ text. unwrap_or (change_of text) 0 in
    let good = good_held texts (map line is) holds is_value (All-map (λ p. is_value (record_of p) ≡ true) line is (All-weaker (λ i. change_of (record_of (line i)) ≡ Some (count i)) (λ i. is_value (record_of (line i)) ≡ true) (λ i read. ap is_some read) is reads)) in
    ap (λ (b : Bool). cond b (Some (sum_by (λ (r : Record). f r.text) (records_from 0 texts))) None) good
    ∙ ap Some (sum_held texts (map line is) holds f ∙ sum-of_map (λ p. f (record_of p)) line is ∙ sum_agree (λ i. f (record_of (line i))) count is (All-weaker (λ i. change_of (record_of (line i)) ≡ Some (count i)) (λ i. f (record_of (line i)) ≡ count i) (λ i read. ap (λ (found : Option ℕ). unwrap_or found 0) read) is reads))

pub count_of_layout : (s : Sequence) (n reducers k : ℕ) → n ≤ 2 ^ 32 → ((i : ℕ) → s.changes k i ≤ 256) → ((i : ℕ) → i < n → s.text k i ≡ [] → ⊥)
    → Holds (layout s n reducers k) (map (value_pair s k) (range_with_len 0 n)) → changes_in (layout s n reducers k) ≡ Some (changed_in s n k)
count_of_layout s n reducers k few counts some holds =
    counts_held (layout s n reducers k) (value_pair s k) (s.changes k) (range_with_len 0 n) holds (all_below n (λ i. change_of (record_of (value_pair s k i)) ≡ Some (s.changes k i)) (λ i low. count_read i (s.changes k i) (s.text k i) (omega arith) (counts i) (some i low)))

turned : (b : Bool) → ◌≡◌ {A = ℕ} (cond b 0 1) (cond (not b) 1 0)
turned true = refl
turned false = refl

-- the sum is that of the steps' own count
pub changed_is : {Val Msg Weight : Type 0} (a : Algebra Val Msg Weight) (entries : List (Entry Weight)) (n k : ℕ) → changed_in (sequence a (iterate a.algorithm entries)) n k ≡ changed a.algorithm entries n k
changed_is a entries n zero = ones 0 n
changed_is a entries n (suc k) =
    let same : ℕ → Bool = λ i. a.algorithm.same (iterate a.algorithm entries (suc k) i) (iterate a.algorithm entries k i) in
    sum_agree (λ i. cond (same i) 0 1) (λ i. cond (not (same i)) 1 0) (range_with_len 0 n) (all_each (λ i. ◌≡◌ {A = ℕ} (cond (same i) 0 1) (cond (not (same i)) 1 0)) (λ i. turned (same i)) (range_with_len 0 n))
