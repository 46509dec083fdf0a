-- The total that is read of a result is that of the nodes' numbers.
use Rattle.std.proofs.Common.{◌≡◌, refl, sym, ap, ◌∙◌, Bool, true, cond, max, ℕ, ◌<◌, ◌≤◌, ◌^◌, List, [], ◌∷◌, map, fold, decimal, Option, Some, None, option_map, option_and_then, arith}
use Rattle.std.specs.Prelude.{is_some, unwrap_or}
use Rattle.std.specs.List.{All, range_with_len, sum_by}
use Rattle.std.proofs.lemmas.List.Elements.{All-map, All-head, All-tail}
use Rattle.peg_text.specs.Decimal.{decimal_of}
use Rattle.peg_text.specs.Pairs.{value_of}
use Rattle.peg_text.proofs.DecimalLemmas.{decimals_read_back}
use Rattle.peg_text.proofs.PairLemmas.{pairs_split_back}
use Rattle.gimv_core.proofs.DecimalTexts.{decimal_plain}
use Rattle.conf.specs.declared.commands.Command.{Command}
use Rattle.conf.specs.declared.commands.Command.TheVariants.{Plain, Hcc, Hadi, PageRank}
use Rattle.pairs.specs.Pairs.{Pair}
use Rattle.store.specs.declared.totals.Numbers.{Numbers}
use Rattle.store.specs.Parts.{Record}
use Rattle.store.specs.Totals.{numbers_of, is_result, own, total_of}
use Rattle.mining.specs.Flow.{total_in, records_from}
use Rattle.list_laws.proofs.Ranges.{all_below}
use Rattle.list_laws.proofs.Sums.{sum_agree, sum-of_map}
use Rattle.flow_core.specs.Holding.{Holds, record_of}
use Rattle.flow_base.specs.Layouts.{Sequence, number_pair, result_parts}
use Rattle.flow.specs.Iterates.{total_by}
use Rattle.flow.proofs.Reading.{good_held, sum_held, most_held}

numbers_back : (i k : ℕ) → i < 2 ^ 64 → k < 2 ^ 64 → numbers_of (record_of (decimal i, decimal k)) ≡ Some (record { id = i; number = k })
numbers_back i k low small =
    let split = pairs_split_back (decimal i) (decimal k) (decimal_plain i low).as_val.no_tab in
    ap (λ (key : List ℕ). option_and_then (λ node. option_map (λ number. record { id = node; number = number }) (decimal_of (value_of (record_of (decimal i, decimal k))))) (decimal_of key)) split.0
    ∙ ap (λ (value : List ℕ). option_and_then (λ node. option_map (λ number. record { id = node; number = number }) (decimal_of value)) (decimal_of (decimal i))) split.1
    ∙ ap (λ (found : Option ℕ). option_and_then (λ node. option_map (λ number. record { id = node; number = number }) found) (decimal_of (decimal i))) (decimals_read_back k small)
    ∙ ap (λ (found : Option ℕ). option_and_then (λ node. Some (record { id = node; number = k })) found) (decimals_read_back i low)

fold_agree : {A : Type 0} (f g : A → ℕ) (m : ℕ) (xs : List A) → All (λ x. f x ≡ g x) xs → fold (λ n x. max n (f x)) m xs ≡ fold (λ n x. max n (g x)) m xs
fold_agree f g m [] all = refl
fold_agree f g m (x ∷ xs) all =
    ap (λ (n : ℕ). fold (λ n' y. max n' (f y)) n xs) (ap (max m) (All-head (λ y. f y ≡ g y) x xs all)) ∙ fold_agree f g (max m (g x)) xs (All-tail (λ y. f y ≡ g y) x xs all)

fold-of_map : {I : Type 0} (g : I → ℕ) (m : ℕ) (is : List I) → fold max m (map g is) ≡ fold (λ n i. max n (g i)) m is
fold-of_map g m [] = refl
fold-of_map g m (i ∷ is) = fold-of_map g (max m (g i)) is

pairs_most : {I A : Type 0} (f : A → ℕ) (g : I → A) (m : ℕ) (is : List I) → fold (λ n a. max n (f a)) m (map g is) ≡ fold (λ n i. max n (f (g i))) m is
pairs_most f g m [] = refl
pairs_most f g m (i ∷ is) = pairs_most f g (max m (f (g i))) is

module _ (s : Sequence) (n reducers k : ℕ) (few : n ≤ 2 ^ 32) (small : (i : ℕ) → i < n → s.number k i < 2 ^ 64)
    (holds : Holds (result_parts s n reducers k) (map (number_pair s k) (range_with_len 0 n))) where
  abbrev nodes : List ℕ
  nodes = range_with_len 0 n

  abbrev texts : List (List ℕ)
  texts = result_parts s n reducers k

  abbrev line : ℕ → Pair
  line = number_pair s k

  reads : (i : ℕ) → i < n → numbers_of (record_of (line i)) ≡ Some (record { id = i; number = s.number k i })
  reads i low = numbers_back i (s.number k i) (omega arith) (small i low)

  -- what is read of a line's two numbers, and 0 where it has none
  abbrev read_as : (Numbers → ℕ) → List ℕ → ℕ
  read_as f text = unwrap_or (option_map f (numbers_of text)) 0

  of_node : (f : Numbers → ℕ) → All (λ i. read_as f (record_of (line i)) ≡ f (record { id = i; number = s.number k i })) nodes
  of_node f = all_below n (λ i. read_as f (record_of (line i)) ≡ f (record { id = i; number = s.number k i })) (λ i low. ap (λ (found : Option Numbers). unwrap_or (option_map f found) 0) (reads i low))

  sums : (f : Numbers → ℕ) → sum_by (λ (r : Record). read_as f r.text) (records_from 0 texts) ≡ sum_by (λ i. f (record { id = i; number = s.number k i })) nodes
  sums f =
      sum_held texts (map line nodes) holds (read_as f) ∙ sum-of_map (λ p. read_as f (record_of p)) line nodes
      ∙ sum_agree (λ i. read_as f (record_of (line i))) (λ i. f (record { id = i; number = s.number k i })) nodes (of_node f)

  abbrev number_read : Numbers → ℕ
  number_read numbers = numbers.number

  totals : (command : Command) → total_of command (records_from 0 texts) ≡ total_by command s n k
  totals Plain = refl
  totals Hcc = sums own
  totals PageRank = sums number_read
  totals Hadi =
      most_held texts (map line nodes) holds (read_as number_read) ∙ pairs_most (λ p. read_as number_read (record_of p)) line 0 nodes
      ∙ fold_agree (λ i. read_as number_read (record_of (line i))) (s.number k) 0 nodes (of_node number_read)
      ∙ sym (fold-of_map (s.number k) 0 nodes)

  pub total_of_result : (command : Command) → total_in command texts ≡ Some (total_by command s n k)
  unfolding total_in
  total_of_result command =
      let good = good_held texts (map line nodes) holds is_result (All-map (λ p. is_result (record_of p) ≡ true) line nodes (all_below n (λ i. is_result (record_of (line i)) ≡ true) (λ i low. ap is_some (reads i low)))) in
      ap (λ (b : Bool). cond b (Some (total_of command (records_from 0 texts))) None) good ∙ ap Some (totals command)
