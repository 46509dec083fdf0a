-- The numbers of places are joined with the nodes there.
use Rattle.std.proofs.Common.{◌≡◌, refl, sym, ap, ◌∙◌, subst, true, eqb, ℕ, zero, suc, ◌+◌, ◌*◌, ◌<◌, ◌≤◌, ◌^◌, List, [], ◌∷◌, ◌++◌, map, decimal, Option, Some, None, option_map, option_and_then, arith}
use Rattle.std.specs.List.{All, flat_map, range_with_len}
use Rattle.std.specs.List.Sorted.{IsPermutation}
use Rattle.std.specs.Option.{option_or}
use Rattle.std.proofs.lemmas.Bool.{lt-ltb, ltb-true}
use Rattle.std.proofs.lemmas.Grind.{flat_map-append}
use Rattle.std.proofs.lemmas.List.{append-nil, map-append}
use Rattle.std.proofs.lemmas.List.Concat.{flat_map_single}
use Rattle.std.proofs.lemmas.List.Elements.{All-nil, All-cons, All-weaker, All-map, All-append}
use Rattle.std.proofs.lemmas.List.Folds.{flat_map-map}
use Rattle.std.proofs.lemmas.List.Sorted.{IsPermutation-map, IsPermutation-sym, IsPermutation-trans}
use Rattle.peg_text.specs.Pairs.{key_of, pair_line}
use Rattle.peg_text.proofs.PairLemmas.{pairs_split_back}
use Rattle.graph.specs.Steps.{Vector}
use Rattle.gimv_core.specs.Algebras.{Algebra, VectorFits}
use Rattle.gimv_core.specs.Consequences.{first_nodes}
use Rattle.gimv_core.specs.Laws.{IsLawful}
use Rattle.gimv_core.proofs.DecimalTexts.{decimal_plain}
use Rattle.gimv_base.specs.BaseRules.{head_part, headed, no_text, numbered_part, placed_part}
use Rattle.gimv_base.specs.Fields.{number_below}
use Rattle.gimv_base.specs.Lines.{number_line, with_lf}
use Rattle.gimv_base.specs.Parts.{Part, after, written}
use Rattle.gimv_base.specs.Records.{node_record_of, place_record_of, value_text_of}
use Rattle.gimv_base.specs.Rules.{by_group, groups_of}
use Rattle.gimv_block.specs.Blocks.{all_blocks, block_count, block_size, nodes_of_block}
use Rattle.gimv_block.specs.BlockRecords.{block_record_of, block_values_of}
use Rattle.gimv_block.specs.Unplacing.{node_pair, place_number_lines, place_number_pair, unplaced_of}
use Rattle.gimv_block.proofs.BlockNodes.{all_nodes_of_blocks, nodes_in_block}
use Rattle.gimv_block.proofs.UnplaceBack.{place_nodes_read_back, place_numbers_read_back}
use Rattle.pairs.specs.Pairs.{Pair, IsPlain, pair_before, pairs_text, sorted_pairs}
use Rattle.pairs.specs.Sorting.{in_order}
use Rattle.partition.specs.Hash.{part_among}
use Rattle.spill.specs.Runs.{of_part}
use Rattle.list_laws.proofs.Alls.{all_each}
use Rattle.list_laws.proofs.Filters.{filter_agree_on}
use Rattle.list_laws.proofs.Images.{map_agree, map-flat_map, map-map}
use Rattle.list_laws.proofs.Permutations.{same_items}
use Rattle.list_laws.proofs.Ranges.{all_below, once_in_range}
use Rattle.flow_core.specs.Following.{Giving}
use Rattle.flow_core.specs.Holding.{Holds, record_of}
use Rattle.flow_core.specs.Jobs.{Cut, job_by}
use Rattle.flow_core.specs.Parts.{part_lines, parts_with}
use Rattle.flow_core.specs.Places.{AreAtPlaces}
use Rattle.flow_core.proofs.Folders.{holds_both, holds_one, holds_parts}
use Rattle.flow_core.proofs.Groups.{Writes, by_group-runs}
use Rattle.flow_core.proofs.InParts.{all_of_part}
use Rattle.flow_core.proofs.Items.{AreKeyed, IsBehind, all_items, items_climb, items_in, part_items, run_of, runs_behind_heads, sorted_of}
use Rattle.flow_core.proofs.Jobs.{copied, job_over, reduces_by_group, reduces_by_id}
use Rattle.flow_core.proofs.MapPhase.{Gives}
use Rattle.flow_core.proofs.Nodes.{nodes_keyed}
use Rattle.flow_core.proofs.Records.{pairs_text-map}
use Rattle.flow_base.specs.Layouts.{change_at, sequence}
use Rattle.flow_base.proofs.RecordsBack.{numbered_plain}
use Rattle.flow_base.proofs.Stages.{before_by_values, plain_from}
use Rattle.flow_block.specs.BlockLayouts.{block_layout, places_text}
use Rattle.flow_block.specs.Placing.{FollowsPlacing, PlacedResultsAreNumbers, PlacingWords, joined_by, vectors_at}
use Rattle.flow_block.proofs.BlockChain.{changes_one, layout_is}
use Rattle.flow_block.proofs.BlockFirsts.{turned}
use Rattle.flow_block.proofs.BlockJoins.{heads_good, vector_pair}
use Rattle.flow_block.proofs.PlacedVectors.{ids_permuted}

nothing_then : {A B : Type 0} (f : A → Option B) (found : Option A) → ((x : A) → f x ≡ None) → option_and_then f found ≡ None
nothing_then f None none = refl
nothing_then f (Some x) none = none x

module _ {Val Msg Weight : Type 0} (gives : Giving) (a : Algebra Val Msg Weight) (laws : IsLawful a) (len n : ℕ) (some : 1 ≤ len) (short : len ≤ 256) (few : n ≤ 2 ^ 32)
    (words : PlacingWords) (follows : FollowsPlacing gives a len n words) (cut : Cut) (some_bytes : 1 ≤ cut.split) (some_reducers : 1 ≤ cut.reducers)
    (place id : ℕ → ℕ) (places : AreAtPlaces n place id)
    (counts : ℕ → ℕ) (most : (i : ℕ) → counts i ≤ 1) (w v : Vector Val) (vector : VectorFits a (first_nodes n) w) (same : (p : ℕ) → p < n → v p ≡ w (id p)) where
  abbrev nodes : List ℕ
  nodes = range_with_len 0 n

  abbrev all : List ℕ
  all = all_blocks len n

  abbrev parts : List ℕ
  parts = range_with_len 0 cut.reducers

  at_places : VectorFits a (first_nodes n) v
  at_places p inside =
      let low = ltb-true p n inside in
      subst (λ (x : Val). a.fits_val x ≡ true) (sym (same p low)) (vector (id p) (lt-ltb (id p) n (places.id_low p low)))

  abbrev head : ℕ → Pair
  head = vector_pair a len n counts v

  abbrev value : ℕ → ℕ
  value p = a.algorithm.number (v p)

  value_low : (p : ℕ) → p < n → value p < 2 ^ 64
  value_low p low = laws.number_fits (v p) (at_places p (lt-ltb p n low))

  -- a place's number, and its node
  abbrev at_place : ℕ → Pair
  at_place p = place_number_pair p (value p)

  abbrev own : ℕ → Pair
  own p = node_pair p (id p)

  own_plain : (p : ℕ) → p < n → IsPlain (own p)
  own_plain p low = plain_from (own p) p refl (omega (arith, low, few)) (place_nodes_read_back n p (id p) low (places.id_low p low) few).0.one_record

  place_plain : (p : ℕ) → p < n → IsPlain (at_place p)
  place_plain p low = plain_from (at_place p) p refl (omega (arith, low, few)) (place_numbers_read_back p (value p) (omega (arith, low, few)) (value_low p low)).one_record

  -- ---- what the mappers write

  places_numbered : (i c : ℕ) → place_number_lines a i (map v (range_with_len i c)) ≡ pairs_text (map at_place (range_with_len i c))
  places_numbered i zero = refl
  places_numbered i (suc c) = ap (λ (t : List ℕ). pair_line (at_place i).0 (at_place i).1 ++ t) (places_numbered (i + 1) c)

  head_good : (j : ℕ) → j < block_count len n → IsPlain (head j) × (block_record_of a len n (record_of (head j)) ≡ Some (j, map v (nodes_of_block len n j)))
  head_good = heads_good a laws len n some short few counts most v at_places

  block_text : (j : ℕ) → j < block_count len n → unplaced_of a len n (record_of (head j)) ≡ Some (pairs_text (map at_place (nodes_of_block len n j)))
  block_text j low =
      let r = record_of (head j) in
      ap (λ (found : Option (ℕ × List Val)). option_or (option_map (λ (block : ℕ × List Val). place_number_lines a (block.0 * len) block.1) found) (option_map (λ (node : ℕ × ℕ). with_lf r) (node_record_of n r))) (head_good j low).1
      ∙ ap Some (places_numbered (j * len) (block_size len n j))

  own_text : (p : ℕ) → p < n → unplaced_of a len n (record_of (own p)) ≡ Some (pairs_text (own p ∷ []))
  own_text p low =
      let r = record_of (own p) in
      let split = pairs_split_back (decimal p) (80 ∷ 32 ∷ decimal (id p)) (decimal_plain p (omega (arith, few, low))).as_val.no_tab in
      let no_block : block_record_of a len n r ≡ None =
      ap (λ (val : List ℕ). option_and_then (λ (j : ℕ). option_map (λ (vs : List Val). (j, vs)) (option_and_then (block_values_of a (block_size len n j)) (value_text_of val))) (number_below (block_count len n) (key_of r))) split.1
      ∙ nothing_then (λ (j : ℕ). option_map (λ (vs : List Val). (j, vs)) (option_and_then (block_values_of a (block_size len n j)) (value_text_of (80 ∷ 32 ∷ decimal (id p))))) (number_below (block_count len n) (key_of r)) (λ j. refl) in
      ap (λ (b : Option (ℕ × List Val)). option_or (option_map (λ (block : ℕ × List Val). place_number_lines a (block.0 * len) block.1) b) (option_map (λ (node : ℕ × ℕ). with_lf r) (node_record_of n r))) no_block
      ∙ ap (option_map (λ (node : ℕ × ℕ). with_lf r)) (place_nodes_read_back n p (id p) low (places.id_low p low) few).0.is
      ∙ ap Some (sym (append-nil (pair_line (own p).0 (own p).1)))

  -- what they read, and what they write for it
  abbrev Read : Type 0
  Read = Pair × List Pair

  abbrev of_own : ℕ → Read
  of_own p = (own p, own p ∷ [])

  abbrev of_block : ℕ → Read
  of_block j = (head j, map at_place (nodes_of_block len n j))

  abbrev everything : List Read
  everything = map of_own nodes ++ map of_block all

  abbrev out : List Pair
  out = map own nodes ++ map at_place nodes

  reads : map (λ (x : Read). x.0) everything ≡ map own nodes ++ map head all
  reads =
      map-append (λ (x : Read). x.0) (map of_own nodes) (map of_block all)
      ∙ ap (λ (l : List Pair). l ++ map (λ (x : Read). x.0) (map of_block all)) (map-map (λ (x : Read). x.0) of_own nodes)
      ∙ ap (λ (l : List Pair). map own nodes ++ l) (map-map (λ (x : Read). x.0) of_block all)

  writes : flat_map (λ (x : Read). x.1) everything ≡ out
  writes =
      flat_map-append (λ (x : Read). x.1) (map of_own nodes) (map of_block all)
      ∙ ap (λ (l : List Pair). l ++ flat_map (λ (x : Read). x.1) (map of_block all)) (flat_map-map (λ (x : Read). x.1) of_own nodes ∙ flat_map_single own nodes)
      ∙ ap (λ (l : List Pair). map own nodes ++ l) (flat_map-map (λ (x : Read). x.1) of_block all ∙ sym (map-flat_map at_place (nodes_of_block len n) all) ∙ ap (map at_place) (all_nodes_of_blocks len n some))

  keeps : All (λ (x : Read). Gives (unplaced_of a len n) (record_of x.0) x.1) everything
  keeps =
      let Good : Read → Type 0 = λ x. Gives (unplaced_of a len n) (record_of x.0) x.1 in
      All-append Good (map of_own nodes) (map of_block all)
      (All-map Good of_own nodes (all_below n (λ p. Good (of_own p)) (λ p low. record { is = own_text p low; plain = All-cons IsPlain (own p) [] (own_plain p low) (All-nil IsPlain) })))
      (All-map Good of_block all (all_below (block_count len n) (λ j. Good (of_block j)) (λ j low. record {
        is = block_text j low;
        plain = All-map IsPlain at_place (nodes_of_block len n j) (All-weaker (λ i. (j * len ≤ i) × (i < n)) (λ i. IsPlain (at_place i)) (λ i h. place_plain i h.1) (nodes_of_block len n j) (nodes_in_block len n j some low));
      })))

  -- ---- what the reducers write

  abbrev In : ℕ → Type 0
  In p = p < n

  keyed : AreKeyed decimal eqb In nodes
  keyed = nodes_keyed n (omega (arith, few))

  abbrev itself : ℕ → ℕ
  itself p = p

  abbrev joined_pair : ℕ → Pair
  joined_pair p = (decimal (id p), decimal (value p))

  abbrev joined_line : ℕ → List ℕ
  joined_line p = pair_line (joined_pair p).0 (joined_pair p).1

  abbrev run : ℕ → List Pair
  run = run_of decimal eqb at_place itself own nodes

  abbrev join_part : List (List ℕ) → Part
  join_part = headed place_record_of no_text (λ place'. placed_part place'.1)

  one_at : (p : ℕ) → p < n → sorted_of decimal eqb at_place itself nodes p ≡ p ∷ []
  one_at p low =
      ap (in_order (λ d e. pair_before (at_place d) (at_place e))) (filter_agree_on (λ e. eqb e p) (λ e. eqb p e) nodes (all_each (λ e. eqb e p ≡ eqb p e) (λ e. turned e p) nodes) ∙ once_in_range p 0 n (omega arith) (omega (arith, low)))

  join_writes : (p : ℕ) → p < n → join_part (map record_of (own p ∷ at_place p ∷ [])) ≡ written (joined_line p)
  join_writes p low =
      ap (λ (found : Option (ℕ × ℕ)). head_part found [] (λ place'. placed_part place'.1) (record_of (at_place p) ∷ [])) (place_nodes_read_back n p (id p) low (places.id_low p low) few).1.is
      ∙ ap (λ (found : Option ℕ). after [] 1 (numbered_part (id p) found [])) (place_numbers_read_back p (value p) (omega (arith, low, few)) (value_low p low)).is
      ∙ ap written (append-nil (number_line (id p) (value p)))

  each_writes : (p : ℕ) → p < n → Writes decimal join_part run joined_line p
  each_writes p low =
      let Mine : Pair → Type 0 = λ q. (q.0 ≡ decimal p) × IsPlain q in record {
        keyed = subst (λ (es : List ℕ). All Mine (own p ∷ map at_place es)) (sym (one_at p low)) (All-cons Mine (own p) (at_place p ∷ []) (refl, own_plain p low) (All-cons Mine (at_place p) [] (refl, place_plain p low) (All-nil Mine)));
        is = ap (λ (es : List ℕ). join_part (map record_of (own p ∷ map at_place es))) (one_at p low) ∙ join_writes p low;
      }

  behind : All (IsBehind decimal eqb at_place itself In own) nodes
  behind = all_below n (IsBehind decimal eqb at_place itself In own) (λ p low. record { is_at = record { has_key = refl; inside = low }; behind = before_by_values (own p) (at_place p) refl refl })

  abbrev joined_in : ℕ → List Pair
  joined_in r = map joined_pair (part_items decimal nodes cut.reducers r)

  own_all : All IsPlain (map own nodes)
  own_all = All-map IsPlain own nodes (all_below n (λ p. IsPlain (own p)) own_plain)

  out_plain : All IsPlain out
  out_plain = All-append IsPlain (map own nodes) (map at_place nodes) own_all (All-map IsPlain at_place nodes (all_below n (λ p. IsPlain (at_place p)) place_plain))

  part_writes : (r : ℕ) → gives words.place (part_lines cut.reducers out r) ≡ pairs_text (joined_in r)
  part_writes r =
      let mine = part_items decimal nodes cut.reducers r in
      reduces_by_group gives words.place join_part (sorted_pairs (of_part cut.reducers r out)) (pairs_text (joined_in r)) follows.place (all_of_part IsPlain cut.reducers r out out_plain)
      (ap (λ (ps : List Pair). by_group join_part (groups_of (map record_of ps))) (runs_behind_heads decimal eqb In nodes keyed cut.reducers at_place itself own (λ p. refl) nodes behind r)
      ∙ by_group-runs decimal join_part run joined_line mine (items_climb decimal eqb In nodes keyed cut.reducers r) (All-weaker (λ p. In p × (part_among (decimal p) cut.reducers ≡ r)) (Writes decimal join_part run joined_line) (λ p h. each_writes p h.0) mine (items_in decimal eqb In nodes keyed cut.reducers r))
      ∙ ap written (pairs_text-map joined_pair mine))

  module _ (folder : List (List ℕ)) (folder_is : folder ≡ parts_with cut.reducers (map head all)) where
    joined : List (List ℕ)
    joined = joined_by gives cut words id n folder

    joined_are : joined ≡ map (λ r. pairs_text (joined_in r)) parts
    unfolding joined
    joined_are =
        let heads : Holds folder (map head all) = subst (λ ts. Holds ts (map head all)) (sym folder_is) (holds_parts cut.reducers (map head all) some_reducers (All-map IsPlain head all (all_below (block_count len n) (λ j. IsPlain (head j)) (λ j low. (head_good j low).0)))) in
        let text : Holds (places_text id n ∷ []) (map own nodes) = subst (λ (t : List ℕ). Holds (t ∷ []) (map own nodes)) (sym (pairs_text-map own nodes)) (holds_one (map own nodes) own_all) in
        let holds : Holds (places_text id n ∷ folder) (map (λ (x : Read). x.0) everything) = subst (Holds (places_text id n ∷ folder)) (sym reads) (holds_both (places_text id n ∷ []) folder (map own nodes) (map head all) text heads) in
        job_over (unplaced_of a len n) gives words.unplace follows.unplace cut some_bytes words.place (places_text id n ∷ folder) (λ (x : Read). x.0) (λ (x : Read). x.1) everything out holds keeps (same_items (flat_map (λ (x : Read). x.1) everything) out writes)
        ∙ map_agree (λ r. gives words.place (part_lines cut.reducers out r)) (λ r. pairs_text (joined_in r)) parts (all_each (λ r. gives words.place (part_lines cut.reducers out r) ≡ pairs_text (joined_in r)) part_writes parts)

    -- ---- the numbers of the nodes

    abbrev number_at : ℕ → Pair
    number_at i = (decimal i, decimal (a.algorithm.number (w i)))

    abbrev numbers : List Pair
    numbers = map number_at nodes

    joined_holds : Holds joined numbers
    joined_holds =
        let flat = flat_map (part_items decimal nodes cut.reducers) parts in
        let by_place : IsPermutation (map joined_pair flat) (map joined_pair nodes) = IsPermutation-map joined_pair flat nodes (IsPermutation-sym nodes flat (all_items decimal eqb In nodes keyed cut.reducers some_reducers)) in
        let is : map number_at (map id nodes) ≡ map joined_pair nodes =
        map-map number_at id nodes ∙ map_agree (λ p. number_at (id p)) joined_pair nodes (all_below n (λ p. number_at (id p) ≡ joined_pair p) (λ p low. ap (λ (x : Val). (decimal (id p), decimal (a.algorithm.number x))) (sym (same p low)))) in
        let by_node : IsPermutation (map joined_pair nodes) numbers = subst (λ zs. IsPermutation zs numbers) is (IsPermutation-map number_at (map id nodes) nodes (IsPermutation-sym nodes (map id nodes) (ids_permuted n place id places))) in record {
          lists = map joined_in parts;
          are = joined_are ∙ sym (map-map pairs_text joined_in parts);
          all = subst (λ zs. IsPermutation zs numbers) (sym (flat_map-map (λ (l : List Pair). l) joined_in parts ∙ sym (map-flat_map joined_pair (part_items decimal nodes cut.reducers) parts))) (IsPermutation-trans (map joined_pair flat) (map joined_pair nodes) numbers by_place by_node);
          plain = All-map IsPlain number_at nodes (all_below n (λ i. IsPlain (number_at i)) (λ i low. numbered_plain i (a.algorithm.number (w i)) (omega (arith, few, low)) (laws.number_fits (w i) (vector i (lt-ltb i n low)))));
        }

    pub result_is : job_by gives cut words.copy words.copy (joined_by gives cut words id n folder) ≡ parts_with cut.reducers numbers
    unfolding joined
    result_is =
        copied gives words.copy follows.copy cut some_bytes joined words.copy numbers (part_lines cut.reducers numbers) joined_holds (λ r. reduces_by_id gives words.copy cut.reducers r numbers follows.copy joined_holds.plain)

pub placed_results_are_numbers : {Val Msg Weight : Type 0} → PlacedResultsAreNumbers Val Msg Weight
placed_results_are_numbers gives a laws len n is_length few words follows cut is_cut place id places vectors fit k =
    let over = vectors_at id vectors in
    result_is gives a laws len n is_length.some is_length.few few words follows cut is_cut.some_bytes is_cut.some_reducers place id places
    (change_at a.algorithm over k) (changes_one a.algorithm over k) (vectors k) (over k) (fit k) (λ p low. refl)
    (block_layout (sequence a over) len n cut.reducers k) (layout_is a over len n cut.reducers k)
