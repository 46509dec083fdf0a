-- The first folder of vectors in blocks, from the nodes at places.
use Rattle.std.proofs.Common.{◌≡◌, refl, sym, ap, ◌∙◌, subst, Bool, true, false, cond, ℕ, ◌+◌, ◌-◌, ◌*◌, ◌<◌, ◌≤◌, ◌^◌, eqb, List, [], ◌∷◌, ◌++◌, map, filter, sum_by, decimal, Option, Some, option_map, inl, inr, arith}
use Rattle.std.specs.List.{All, flat_map, range_with_len}
use Rattle.std.specs.List.Sorted.{IsPermutation}
use Rattle.std.proofs.Math.Nat.{div-le_self}
use Rattle.std.proofs.lemmas.Bool.{cases_Bool, eq-eqb, eqb-true, eqb-false, ne_eqb}
use Rattle.std.proofs.lemmas.List.{append-nil}
use Rattle.std.proofs.lemmas.List.Concat.{flat_map_single}
use Rattle.std.proofs.lemmas.List.Elements.{All-nil, All-cons, All-head, All-tail, All-weaker, All-map}
use Rattle.peg_text.specs.Pairs.{pair_line}
use Rattle.gimv_core.specs.Algebras.{Algebra}
use Rattle.gimv_base.specs.Lines.{with_lf}
use Rattle.gimv_base.specs.Parts.{Part, written}
use Rattle.gimv_base.specs.Records.{place_record_of}
use Rattle.gimv_base.specs.Rules.{by_group, groups_of}
use Rattle.gimv_block.specs.Blocks.{block_count, block_size, block_of, node_at, nodes_of_block, all_blocks}
use Rattle.gimv_block.specs.BlockLines.{seat_pair, seat_text, values_pair}
use Rattle.gimv_block.specs.BlockRules.{firstb_part, firstb_rule, group_rule}
use Rattle.gimv_block.specs.Unplacing.{node_pair}
use Rattle.gimv_block.proofs.BlockLemmas.{same_place}
use Rattle.gimv_block.proofs.BlockNodes.{all_nodes_of_blocks, block_low, block_placed, count_low, offset_short}
use Rattle.gimv_block.proofs.FirstLemmas.{firsts_by_offsets}
use Rattle.gimv_block.proofs.SeatBackLemmas.{seats_read_back}
use Rattle.gimv_block.proofs.UnplaceBack.{place_nodes_read_back}
use Rattle.pairs.specs.Pairs.{Pair, IsPlain, pairs_text, sorted_pairs}
use Rattle.partition.specs.Hash.{part_among}
use Rattle.spill.specs.Runs.{of_part}
use Rattle.list_laws.proofs.Alls.{all_each}
use Rattle.list_laws.proofs.Filters.{filter-flat_map, filter_agree_on, filter_none}
use Rattle.list_laws.proofs.Images.{flat_map_agree, map_agree, map-map}
use Rattle.list_laws.proofs.Permutations.{same_items}
use Rattle.list_laws.proofs.Ranges.{all_below, all_in_range, once_in_range}
use Rattle.list_laws.proofs.Sums.{ones}
use Rattle.flow_core.specs.Following.{Giving, Follows}
use Rattle.flow_core.specs.Holding.{Holds, record_of}
use Rattle.flow_core.specs.Jobs.{Cut, job_by}
use Rattle.flow_core.specs.Parts.{part_lines, parts_with}
use Rattle.flow_core.proofs.Folders.{holds_one}
use Rattle.flow_core.proofs.Groups.{Writes, WritesRun, by_group-runs}
use Rattle.flow_core.proofs.InParts.{all_of_part}
use Rattle.flow_core.proofs.Items.{AreKeyed, IsAt, sorted_of, sorted_of_permuted, sorted_of_all, part_items, items_in, items_climb, sorted_heads, runs_of_items}
use Rattle.flow_core.proofs.Jobs.{job_over, reduces_by_group}
use Rattle.flow_core.proofs.MapPhase.{Gives}
use Rattle.flow_core.proofs.Nodes.{nodes_keyed}
use Rattle.flow_core.proofs.Records.{pairs_text-map}
use Rattle.flow_base.proofs.Stages.{plain_from}
use Rattle.flow_block.specs.BlockLayouts.{places_text}
use Rattle.flow_block.proofs.BlockJoins.{vector_pair}

-- ---- the nodes of a block are the nodes whose block it is

filter_all : {A : Type 0} (p : A → Bool) (xs : List A) → All (λ x. p x ≡ true) xs → filter p xs ≡ xs
filter_all p [] all = refl
filter_all p (x ∷ xs) all = let here = All-head (λ y. p y ≡ true) x xs all in rw here (ap (λ l. x ∷ l) (filter_all p xs (All-tail (λ y. p y ≡ true) x xs all)))

pub flat_map_where : {I A : Type 0} (test : I → Bool) (f : I → List A) (is : List I) → flat_map (λ i. cond (test i) (f i) []) is ≡ flat_map f (filter test is)
flat_map_where test f [] = refl
flat_map_where test f (i ∷ is) =
    let later = flat_map_where test f is in
    elim (cases_Bool (test i)) [
      | inl there ↦ rw there (ap (λ l. f i ++ l) later)
      | inr gone ↦ rw gone later
    ]

pub turned : (i j : ℕ) → eqb i j ≡ eqb j i
turned i j =
    elim (cases_Bool (eqb j i)) [
      | inl is ↦ eq-eqb i j (sym (eqb-true j i is)) ∙ sym is
      | inr isnt ↦ ne_eqb i j (λ e. eqb-false j i isnt (sym e)) ∙ sym isnt
    ]

module _ (len n : ℕ) (some : 1 ≤ len) where
  in_block : (i j : ℕ) → i < block_count len n → filter (λ x. eqb (block_of len x) j) (nodes_of_block len n i) ≡ cond (eqb i j) (nodes_of_block len n i) []
  in_block i j low =
      let nodes = nodes_of_block len n i in
      let placed = block_placed len n i some low in
      let here : All (λ x. eqb (block_of len x) j ≡ eqb i j) nodes =
      All-weaker (λ x. (i * len ≤ x) × (x < i * len + block_size len n i)) (λ x. eqb (block_of len x) j ≡ eqb i j) (λ x h.
      let at : node_at len i (x - i * len) ≡ x = omega (arith, h.0) in
      ap (λ (k : ℕ). eqb k j) (same_place len i (x - i * len) x (omega (arith, h.0, h.1, placed.short)) at).0) nodes (all_in_range (i * len) (block_size len n i)) in
      elim (cases_Bool (eqb i j)) [
        | inl is ↦ filter_all (λ x. eqb (block_of len x) j) nodes (All-weaker (λ x. eqb (block_of len x) j ≡ eqb i j) (λ x. eqb (block_of len x) j ≡ true) (λ x h. h ∙ is) nodes here) ∙ ap (λ (b : Bool). cond b nodes []) (sym is)
        | inr isnt ↦ filter_none (λ x. eqb (block_of len x) j) nodes (All-weaker (λ x. eqb (block_of len x) j ≡ eqb i j) (λ x. eqb (block_of len x) j ≡ false) (λ x h. h ∙ isnt) nodes here) ∙ ap (λ (b : Bool). cond b nodes []) (sym isnt)
      ]

  block_is : (j : ℕ) → j < block_count len n → filter (λ x. eqb (block_of len x) j) (range_with_len 0 n) ≡ nodes_of_block len n j
  block_is j low =
      let all = all_blocks len n in
      let nodes : ℕ → List ℕ = nodes_of_block len n in
      let test : ℕ → Bool = λ x. eqb (block_of len x) j in
      ap (filter test) (sym (all_nodes_of_blocks len n some))
      ∙ filter-flat_map test nodes all
      ∙ flat_map_agree (λ i. filter test (nodes i)) (λ i. cond (eqb i j) (nodes i) []) all (all_below (block_count len n) (λ i. filter test (nodes i) ≡ cond (eqb i j) (nodes i) []) (λ i inside. in_block i j inside))
      ∙ flat_map_where (λ i. eqb i j) nodes all
      ∙ ap (flat_map nodes) (filter_agree_on (λ i. eqb i j) (λ i. eqb j i) all (all_each (λ i. eqb i j ≡ eqb j i) (λ i. turned i j) all) ∙ once_in_range j 0 (block_count len n) (omega arith) (omega arith))
      ∙ append-nil (nodes j)

-- ---- the folder

module _ {Val Msg Weight : Type 0} (a : Algebra Val Msg Weight) (gives : Giving) (cut : Cut) (some_bytes : 1 ≤ cut.split) (len n : ℕ) (some : 1 ≤ len) (short : len ≤ 256) (few : n ≤ 2 ^ 32)
    (grouper seater : List (List ℕ)) (groups : Follows gives grouper (group_rule len)) (seats : Follows gives seater (firstb_rule a len n))
    (id : ℕ → ℕ) (id_low : (p : ℕ) → p < n → id p < n) where
  abbrev places : List ℕ
  places = range_with_len 0 n

  abbrev all : List ℕ
  all = all_blocks len n

  abbrev In : ℕ → Type 0
  In j = j < block_count len n

  small : block_count len n ≤ 2 ^ 64
  small = omega (arith, count_low len n some, few)

  keyed : AreKeyed decimal eqb In all
  keyed = nodes_keyed (block_count len n) small

  abbrev place_pair : ℕ → Pair
  place_pair p = node_pair p (id p)

  abbrev seat : ℕ → Pair
  seat p = seat_pair len p (id p)

  abbrev block_at : ℕ → ℕ
  block_at p = block_of len p

  place_plain : (p : ℕ) → p < n → IsPlain (place_pair p)
  place_plain p low = plain_from (place_pair p) p refl (omega (arith, low, few)) (place_nodes_read_back n p (id p) low (id_low p low) few).0.one_record

  seat_plain : (p : ℕ) → p < n → IsPlain (seat p)
  seat_plain p low =
      plain_from (seat p) (block_at p) refl (omega (arith, low, few, div-le_self p len))
      (seats_read_back len len n p (id p) (omega (arith, low, few)) (offset_short len p some) (omega (arith, short)) (id_low p low) few).one_record

  abbrev group_line : List ℕ → Option (List ℕ)
  group_line r = option_map (λ (place : ℕ × ℕ). with_lf (seat_text len place.0 place.1)) (place_record_of r)

  at_blocks : All (IsAt decimal eqb seat block_at In) places
  at_blocks = all_below n (IsAt decimal eqb seat block_at In) (λ p low. record { has_key = refl; inside = block_low len n p some low })

  abbrev firsts : ℕ → Pair
  firsts = vector_pair a len n (λ p. 1) (λ p. a.algorithm.first (id p))

  abbrev seated_in : ℕ → List ℕ
  seated_in j = sorted_of decimal eqb seat block_at places j

  abbrev run : ℕ → List Pair
  run j = map seat (seated_in j)

  abbrev out : ℕ → List ℕ
  out j = pair_line (firsts j).0 (firsts j).1

  -- the part of a block is that of its first values
  abbrev IsFirsts : ℕ → List ℕ → Type 0
  IsFirsts j ps = firstb_part a len n (map (λ p. seat_text len p (id p)) ps) ≡ written (out j)

  firsts_are : (j : ℕ) → In j → IsFirsts j (seated_in j)
  firsts_are j low =
      let nodes = nodes_of_block len n j in
      let moved : IsPermutation nodes (seated_in j) = subst (λ ps. IsPermutation ps (seated_in j)) (block_is len n some j low) (sorted_of_permuted decimal eqb seat block_at places j) in
      firsts_by_offsets a len n j id (seated_in j) some few low id_low moved
      ∙ ap (λ (c : ℕ). written (pair_line (values_pair a j c (map a.algorithm.first (map id nodes))).0 (values_pair a j c (map a.algorithm.first (map id nodes))).1)) (sym (ones (j * len) (block_size len n j)))
      ∙ ap (λ (vs : List Val). written (pair_line (values_pair a j (sum_by (λ (p : ℕ). 1) nodes) vs).0 (values_pair a j (sum_by (λ (p : ℕ). 1) nodes) vs).1)) (map-map a.algorithm.first id nodes)

  run_writes : (j : ℕ) (ps : List ℕ) → IsFirsts j ps → WritesRun (firstb_part a len n) (map seat ps) (out j)
  run_writes j [] is = sym (ap (λ (p : Part). p.out) is)
  run_writes j (p ∷ ps) is = ap (λ (rs : List (List ℕ)). firstb_part a len n (seat_text len p (id p) ∷ rs)) (map-map record_of seat ps) ∙ is

  block_writes : (j : ℕ) → In j → Writes decimal (firstb_part a len n) run out j
  block_writes j low =
      let here = sorted_of_all decimal eqb seat block_at (λ x y. eqb-true x y) (λ p. p < n) places j (all_below n (λ p. p < n) (λ p low'. low')) in record {
        keyed = All-map (λ (q : Pair). (q.0 ≡ decimal j) × IsPlain q) seat (seated_in j) (All-weaker (λ p. (block_at p ≡ j) × (p < n)) (λ p. ((seat p).0 ≡ decimal j) × IsPlain (seat p)) (λ p h. (ap decimal h.0, seat_plain p h.1)) (seated_in j) here);
        is = run_writes j (seated_in j) (firsts_are j low);
      }

  abbrev seat_pairs : List Pair
  seat_pairs = map seat places

  all_plain : All IsPlain seat_pairs
  all_plain = All-map IsPlain seat places (all_below n (λ p. IsPlain (seat p)) seat_plain)

  part_writes : (r : ℕ) → gives seater (part_lines cut.reducers seat_pairs r) ≡ part_lines cut.reducers (map firsts all) r
  part_writes r =
      let mine = part_items decimal all cut.reducers r in
      reduces_by_group gives seater (firstb_part a len n) (sorted_pairs (of_part cut.reducers r seat_pairs)) (part_lines cut.reducers (map firsts all) r) seats (all_of_part IsPlain cut.reducers r seat_pairs all_plain)
      (ap (λ (ps : List Pair). by_group (firstb_part a len n) (groups_of (map record_of ps))) (runs_of_items decimal eqb In all keyed cut.reducers seat block_at places at_blocks r)
      ∙ by_group-runs decimal (firstb_part a len n) run out mine (items_climb decimal eqb In all keyed cut.reducers r) (All-weaker (λ j. In j × (part_among (decimal j) cut.reducers ≡ r)) (Writes decimal (firstb_part a len n) run out) (λ j h. block_writes j h.0) mine (items_in decimal eqb In all keyed cut.reducers r))
      ∙ ap written (pairs_text-map firsts mine ∙ ap pairs_text (sym (sorted_heads decimal eqb In all keyed cut.reducers firsts (λ j. refl) r))))

  group_each : All (λ p. Gives group_line (record_of (place_pair p)) (seat p ∷ [])) places
  group_each =
      all_below n (λ p. Gives group_line (record_of (place_pair p)) (seat p ∷ [])) (λ p low. record {
        is = ap (option_map (λ (place : ℕ × ℕ). with_lf (seat_text len place.0 place.1))) (place_nodes_read_back n p (id p) low (id_low p low) few).1.is ∙ ap Some (sym (append-nil (pair_line (seat p).0 (seat p).1)));
        plain = All-cons IsPlain (seat p) [] (seat_plain p low) (All-nil IsPlain);
      })

  pub first_is : job_by gives cut grouper seater (places_text id n ∷ []) ≡ parts_with cut.reducers (map firsts all)
  first_is =
      let pairs : List Pair = map place_pair places in
      let parts = range_with_len 0 cut.reducers in
      let plain : All IsPlain pairs = All-map IsPlain place_pair places (all_below n (λ p. IsPlain (place_pair p)) place_plain) in
      job_over group_line gives grouper groups cut some_bytes seater (places_text id n ∷ []) place_pair (λ p. seat p ∷ []) places seat_pairs
      (subst (λ (t : List ℕ). Holds (t ∷ []) pairs) (sym (pairs_text-map place_pair places)) (holds_one pairs plain)) group_each (same_items (flat_map (λ p. seat p ∷ []) places) seat_pairs (flat_map_single seat places))
      ∙ map_agree (λ r. gives seater (part_lines cut.reducers seat_pairs r)) (part_lines cut.reducers (map firsts all)) parts (all_each (λ r. gives seater (part_lines cut.reducers seat_pairs r) ≡ part_lines cut.reducers (map firsts all) r) part_writes parts)
