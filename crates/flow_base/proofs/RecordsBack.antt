-- Records that the driver writes are read back.
use Rattle.std.proofs.Common.{◌≡◌, ap, ◌∙◌, ℕ, ◌<◌, ◌≤◌, ◌^◌, List, ◌∷◌, decimal, Option, Some, option_map, option_and_then, arith}
use Rattle.std.proofs.lemmas.Bool.{cond-true, lt-ltb}
use Rattle.peg_text.specs.Pairs.{value_of}
use Rattle.peg_text.proofs.DecimalLemmas.{decimals_read_back}
use Rattle.peg_text.proofs.PairLemmas.{pairs_split_back}
use Rattle.graph.specs.declared.edges.Edge.{Edge}
use Rattle.gimv_core.proofs.DecimalTexts.{decimal_plain}
use Rattle.gimv_base.specs.Fields.{below, number_below, tagged}
use Rattle.gimv_base.specs.Records.{id_of, edge_record_of, node_record_of}
use Rattle.store.specs.Sealed.{nodes_text}
use Rattle.pairs.specs.Pairs.{IsPlain, pairs_text}
use Rattle.std.specs.List.{range_with_len}
use Rattle.std.proofs.Common.{map}
use Rattle.std.proofs.lemmas.List.Elements.{All-cons}
use Rattle.flow_base.proofs.Lines.{place_pair}
use Rattle.flow_core.specs.Holding.{record_of}
use Rattle.flow_core.proofs.Records.{pairs_text-map}

pub number_back : (n k : ℕ) → k < n → n ≤ 2 ^ 64 → number_below n (decimal k) ≡ Some k
number_back n k low few = ap (option_and_then (below n)) (decimals_read_back k (omega arith)) ∙ cond-true _ _ _ (lt-ltb k n low)

pub place_back : (n i : ℕ) → i < n → n ≤ 2 ^ 32 → node_record_of n (record_of (place_pair i)) ≡ Some (i, i)
place_back n i low few =
    let split = pairs_split_back (decimal i) (80 ∷ 32 ∷ decimal i) (decimal_plain i (omega arith)).as_val.no_tab in
    let number = number_back n i low (omega arith) in
    ap (λ (k : List ℕ). option_and_then (λ p. option_map (λ j. (p, j)) (option_and_then (number_below n) (tagged 80 (value_of (record_of (place_pair i)))))) (number_below n k)) split.0
    ∙ ap (λ (w : List ℕ). option_and_then (λ p. option_map (λ j. (p, j)) (option_and_then (number_below n) (tagged 80 w))) (number_below n (decimal i))) split.1
    ∙ ap (λ (found : Option ℕ). option_and_then (λ p. option_map (λ j. (p, j)) found) (number_below n (decimal i))) number
    ∙ ap (λ (found : Option ℕ). option_and_then (λ p. Some (p, i)) found) number

abbrev pub edge_pair : Edge → List ℕ × List ℕ
edge_pair e = (decimal e.source, decimal e.target)

pub edge_back : (e : Edge) → e.source < 2 ^ 32 → e.target < 2 ^ 32 → edge_record_of (record_of (edge_pair e)) ≡ Some e
edge_back e from to =
    let split = pairs_split_back (decimal e.source) (decimal e.target) (decimal_plain e.source (omega arith)).as_val.no_tab in
    ap (λ (k : List ℕ). option_and_then (λ s. option_map (λ t. record { source = s; target = t }) (id_of (value_of (record_of (edge_pair e))))) (id_of k)) split.0
    ∙ ap (λ (w : List ℕ). option_and_then (λ s. option_map (λ t. record { source = s; target = t }) (id_of w)) (id_of (decimal e.source))) split.1
    ∙ ap (λ (found : Option ℕ). option_and_then (λ s. option_map (λ t. record { source = s; target = t }) found) (id_of (decimal e.source))) (number_back (2 ^ 32) e.target to (omega arith))
    ∙ ap (λ (found : Option ℕ). option_and_then (λ s. Some (record { source = s; target = e.target })) found) (number_back (2 ^ 32) e.source from (omega arith))

-- ---- pairs of a decimal and a decimal

-- a decimal as the value of a node's pair
pub numbered_plain : (i k : ℕ) → i < 2 ^ 64 → k < 2 ^ 64 → IsPlain (decimal i, decimal k)
numbered_plain i k low small = record {
  key_tab = (decimal_plain i low).as_val.no_tab;
  key_lf = (decimal_plain i low).as_val.no_lf;
  value_lf = (decimal_plain k small).as_val.no_lf;
}

pub place_plain : (i : ℕ) → i < 2 ^ 64 → IsPlain (place_pair i)
place_plain i low = record {
  key_tab = (decimal_plain i low).as_val.no_tab;
  key_lf = (decimal_plain i low).as_val.no_lf;
  value_lf = All-cons (λ b. b ≡ 10 → ⊥) 80 (32 ∷ decimal i) (λ is. absurd (omega (arith, is))) (All-cons (λ b. b ≡ 10 → ⊥) 32 (decimal i) (λ is. absurd (omega (arith, is))) (decimal_plain i low).as_val.no_lf);
}

-- the text of the nodes has a pair for each
pub nodes_are : (n : ℕ) → nodes_text n ≡ pairs_text (map place_pair (range_with_len 0 n))
nodes_are n = pairs_text-map place_pair (range_with_len 0 n)
