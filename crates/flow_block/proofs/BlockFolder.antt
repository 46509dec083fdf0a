-- The folder of the blocks holds lines that the entries are cut into.
use Rattle.std.proofs.Common.{◌≡◌, ◌≢◌, refl, sym, ap, ◌∙◌, subst, ℕ, ◌<◌, ◌≤◌, ◌^◌, List, [], ◌∷◌, map, Option, Some, option_map, arith}
use Rattle.std.specs.List.{All, flat_map, range_with_len}
use Rattle.std.specs.List.Sorted.{IsPermutation}
use Rattle.std.proofs.lemmas.Bool.{ltb-true}
use Rattle.std.proofs.lemmas.List.{append-nil}
use Rattle.std.proofs.lemmas.List.Concat.{flat_map_single}
use Rattle.std.proofs.lemmas.List.Elements.{All-nil, All-cons, All-head, All-tail, All-weaker, All-map}
use Rattle.std.proofs.lemmas.List.Folds.{flat_map-map}
use Rattle.std.proofs.lemmas.List.Sorted.{IsPermutation-sym}
use Rattle.peg_text.specs.Pairs.{pair_line}
use Rattle.graph.specs.Entries.{Entry}
use Rattle.gimv_core.specs.Algebras.{Algebra, EntryFits}
use Rattle.gimv_core.specs.Consequences.{first_nodes}
use Rattle.gimv_base.specs.Lines.{with_lf}
use Rattle.gimv_base.specs.Parts.{written}
use Rattle.gimv_base.specs.Rules.{by_group, groups_of}
use Rattle.gimv_block.specs.Blocks.{block_count, block_size, block_of, offset_of, node_at, entry_at}
use Rattle.gimv_block.specs.BlockFlow.{BlockLine, entries_of_line}
use Rattle.gimv_block.specs.BlockLines.{cut_text}
use Rattle.gimv_block.specs.BlockReadBack.{IsGoodItem, IsGoodLine, numbered_entry}
use Rattle.gimv_block.specs.BlockRecords.{matrix_record_of}
use Rattle.gimv_block.specs.BlockRules.{cut_rule, blocks_rule, blocks_part}
use Rattle.gimv_block.specs.BlockSteps.{AreCut}
use Rattle.gimv_block.proofs.BlockNodes.{block_low, offset_low, node_back, count_low}
use Rattle.gimv_block.proofs.SeatBackLemmas.{matrices_read_back}
use Rattle.pairs.specs.Pairs.{Pair, IsPlain, pairs_text, sorted_pairs}
use Rattle.spill.specs.Runs.{of_part}
use Rattle.list_laws.proofs.Alls.{all_left, all_right, all_both, all_each, all_flat_map}
use Rattle.list_laws.proofs.Images.{map_agree, flat_map_agree, map-map, flat_map-flat_map, map-flat_map}
use Rattle.list_laws.proofs.Orders.{permuted_flat}
use Rattle.list_laws.proofs.Permutations.{same_items}
use Rattle.flow_core.specs.Following.{Giving, Follows}
use Rattle.flow_core.specs.Holding.{Holds, record_of}
use Rattle.flow_core.specs.Jobs.{Cut, job_by}
use Rattle.flow_core.specs.Parts.{part_lines}
use Rattle.flow_core.proofs.Groups.{Writes, by_group-runs}
use Rattle.flow_core.proofs.InParts.{all_of_part}
use Rattle.flow_core.proofs.Items.{AreKeyed, IsAt, sorted_of, sorted_of_all, part_items, items_climb, all_items, items_by_item, runs_of_items}
use Rattle.flow_core.proofs.Jobs.{job_over, reduces_by_group}
use Rattle.flow_core.proofs.MapPhase.{Gives}
use Rattle.flow_core.proofs.PairKeys.{dotted, same_pair, both_below, all_pairs, pairs_keyed, pair_is}
use Rattle.flow_core.proofs.Records.{pairs_text-flat}
use Rattle.flow_base.specs.Laws.{IsCut}
use Rattle.flow_base.specs.Matrices.{HasMatrix, Weighs, entry_pair}
use Rattle.flow_block.specs.BlockFolders.{HasBlocks, line_pair}
use Rattle.flow_block.specs.Laws.{BlocksHoldEntries}
use Rattle.flow_block.proofs.Listing.{IsCuttable, Listed, offset_entry, blocks_at, pair_of_entry, line_of, line_plain, cut_plain, listed}
use Rattle.flow_block.proofs.PairOrder.{pair_first, pairs_order}

all_in_lists : {A : Type 0} (P : A → Type 0) (lists : List (List A)) → All P (flat_map (λ list. list) lists) → All (All P) lists
all_in_lists P [] all = All-nil (All P)
all_in_lists P (l ∷ ls) all = All-cons (All P) l ls (all_left P l (flat_map (λ k. k) ls) all) (all_in_lists P ls (all_right P l (flat_map (λ k. k) ls) all))

module _ (gives : Giving) (cut : Cut) (some_bytes : 1 ≤ cut.split) (some_reducers : 1 ≤ cut.reducers) (len : ℕ) (some : 1 ≤ len) (n : ℕ) (few : n ≤ 2 ^ 32)
    (cutter lister : List (List ℕ)) (cuts : Follows gives cutter (cut_rule len)) (lists : Follows gives lister blocks_rule)
    {Weight : Type 0} (number : Weight → ℕ) (entries : List (Entry Weight)) (fine : All (IsCuttable number n) entries) where
  abbrev count : ℕ
  count = block_count len n

  abbrev all : List (ℕ × ℕ)
  all = all_pairs count

  abbrev In : ℕ × ℕ → Type 0
  In p = both_below count p

  keyed : AreKeyed dotted same_pair In all
  keyed = pairs_keyed count (omega (arith, count_low len n some, few))

  abbrev pair_at : Entry Weight → Pair
  pair_at e = pair_of_entry number len e

  abbrev at : Entry Weight → ℕ × ℕ
  at e = blocks_at len e

  at_pairs : All (IsAt dotted same_pair pair_at at In) entries
  at_pairs = All-weaker (IsCuttable number n) (IsAt dotted same_pair pair_at at In) (λ e h. record { has_key = refl; inside = (block_low len n e.column some h.column, block_low len n e.row some h.row) }) entries fine

  -- ---- the lines of each group, and all lines

  abbrev group : ℕ × ℕ → List (Entry Weight)
  group p = sorted_of dotted same_pair pair_at at entries p

  group_all : (p : ℕ × ℕ) → All (λ e. (at e ≡ p) × IsCuttable number n e) (group p)
  group_all p = sorted_of_all dotted same_pair pair_at at pair_is (IsCuttable number n) entries p fine

  lines_in : (p : ℕ × ℕ) → Listed number len p (group p)
  lines_in p = listed number len n few p (group p) (group_all p)

  abbrev lines_at : ℕ × ℕ → List (BlockLine Weight)
  lines_at p = map (line_of p) (lines_in p).lists

  abbrev all_lines : List (BlockLine Weight)
  all_lines = flat_map lines_at all

  -- ---- what is written

  abbrev out : ℕ × ℕ → List Pair
  out p = map (λ list. line_pair number (line_of p list)) (lines_in p).lists

  abbrev run : ℕ × ℕ → List Pair
  run p = map pair_at (group p)

  group_writes : (p : ℕ × ℕ) → Writes dotted blocks_part run (λ q. pairs_text (out q)) p
  group_writes p = record {
    keyed = All-map (λ (q : Pair). (q.0 ≡ dotted p) × IsPlain q) pair_at (group p) (All-weaker (λ e. (at e ≡ p) × IsCuttable number n e) (λ e. ((pair_at e).0 ≡ dotted p) × IsPlain (pair_at e)) (λ e h. (ap dotted h.0, cut_plain number len n few e h.1)) (group p) (group_all p));
    is = (lines_in p).writes;
  }

  abbrev written_in : ℕ → List Pair
  written_in r = flat_map out (part_items dotted all cut.reducers r)

  abbrev cut_line : List ℕ → Option (List ℕ)
  cut_line r = option_map (λ (e : Entry ℕ). with_lf (cut_text len e)) (matrix_record_of r)

  abbrev parts : List ℕ
  parts = range_with_len 0 cut.reducers

  abbrev cut_pairs : List Pair
  cut_pairs = map pair_at entries

  all_plain : All IsPlain cut_pairs
  all_plain = All-map IsPlain pair_at entries (All-weaker (IsCuttable number n) (λ e. IsPlain (pair_at e)) (cut_plain number len n few) entries fine)

  cut_each : All (λ e. Gives cut_line (record_of (entry_pair number e)) (pair_at e ∷ [])) entries
  cut_each =
      All-weaker (IsCuttable number n) (λ e. Gives cut_line (record_of (entry_pair number e)) (pair_at e ∷ [])) (λ e h.
      let row = h.row in
      let column = h.column in record {
        is = ap (option_map (λ (d : Entry ℕ). with_lf (cut_text len d))) (matrices_read_back (numbered_entry number e) (omega (arith, row, few)) (omega (arith, column, few)) h.heavy h.light).is
            ∙ ap Some (sym (append-nil (pair_line (pair_at e).0 (pair_at e).1)));
        plain = All-cons IsPlain (pair_at e) [] (cut_plain number len n few e h) (All-nil IsPlain);
      }) entries fine

  part_writes : (r : ℕ) → gives lister (part_lines cut.reducers cut_pairs r) ≡ pairs_text (written_in r)
  part_writes r =
      let mine = part_items dotted all cut.reducers r in
      reduces_by_group gives lister blocks_part (sorted_pairs (of_part cut.reducers r cut_pairs)) (pairs_text (written_in r)) lists (all_of_part IsPlain cut.reducers r cut_pairs all_plain)
      (ap (λ (ps : List Pair). by_group blocks_part (groups_of (map record_of ps))) (runs_of_items dotted same_pair In all keyed cut.reducers pair_at at entries at_pairs r)
      ∙ by_group-runs dotted blocks_part run (λ q. pairs_text (out q)) mine (items_climb dotted same_pair In all keyed cut.reducers r) (all_each (Writes dotted blocks_part run (λ q. pairs_text (out q))) group_writes mine)
      ∙ ap written (pairs_text-flat out mine))

  blocks_are : (matrix : List (List ℕ)) → Holds matrix (map (entry_pair number) entries) → job_by gives cut cutter lister matrix ≡ map (λ r. pairs_text (written_in r)) parts
  blocks_are matrix holds =
      job_over cut_line gives cutter cuts cut some_bytes lister matrix (entry_pair number) (λ e. pair_at e ∷ []) entries cut_pairs holds cut_each (same_items (flat_map (λ e. pair_at e ∷ []) entries) cut_pairs (flat_map_single pair_at entries))
      ∙ map_agree (λ r. gives lister (part_lines cut.reducers cut_pairs r)) (λ r. pairs_text (written_in r)) parts (all_each (λ r. gives lister (part_lines cut.reducers cut_pairs r) ≡ pairs_text (written_in r)) part_writes parts)

  -- ---- the entries are cut into these lines

  offsets_back : (p : ℕ × ℕ) (es : List (Entry Weight)) → All (λ e. at e ≡ p) es → map (entry_at len p.1 p.0) (map (offset_entry len) es) ≡ es
  offsets_back p [] all' = refl
  offsets_back p (e ∷ es) all' =
      let here = All-head (λ d. at d ≡ p) e es all' in
      let back : entry_at len (at e).1 (at e).0 (offset_entry len e) ≡ e =
      ap (λ (r : ℕ). record { row = r; column = node_at len (block_of len e.column) (offset_of len e.column); weight = e.weight }) (node_back len e.row)
      ∙ ap (λ (c : ℕ). record { row = e.row; column = c; weight = e.weight }) (node_back len e.column) in
      ap (λ (q : ℕ × ℕ). entry_at len q.1 q.0 (offset_entry len e) ∷ map (entry_at len p.1 p.0) (map (offset_entry len) es)) (sym here)
      ∙ ap (λ d. d ∷ map (entry_at len p.1 p.0) (map (offset_entry len) es)) back
      ∙ ap (λ ds. e ∷ ds) (offsets_back p es (All-tail (λ d. at d ≡ p) e es all'))

  entries_back : (p : ℕ × ℕ) → flat_map (entries_of_line len) (lines_at p) ≡ group p
  entries_back p =
      flat_map-map (entries_of_line len) (line_of p) (lines_in p).lists
      ∙ sym (map-flat_map (entry_at len p.1 p.0) (λ (l : List (Entry Weight)). l) (lines_in p).lists)
      ∙ ap (map (entry_at len p.1 p.0)) (lines_in p).together
      ∙ offsets_back p (group p) (All-weaker (λ e. (at e ≡ p) × IsCuttable number n e) (λ e. at e ≡ p) (λ e h. h.0) (group p) (group_all p))

  entries_cut : AreCut entries (map (entries_of_line len) all_lines)
  entries_cut =
      let together : flat_map (λ (l : List (Entry Weight)). l) (map (entries_of_line len) all_lines) ≡ flat_map group all =
      flat_map-map (λ (l : List (Entry Weight)). l) (entries_of_line len) all_lines
      ∙ flat_map-flat_map (entries_of_line len) lines_at all
      ∙ flat_map_agree (λ p. flat_map (entries_of_line len) (lines_at p)) group all (all_each (λ p. flat_map (entries_of_line len) (lines_at p) ≡ group p) entries_back all) in
      subst (λ zs. IsPermutation entries zs) (sym together)
      (items_by_item dotted same_pair In all keyed cut.reducers pair_at at entries (All-weaker (IsAt dotted same_pair pair_at at In) (λ e. In (at e)) (λ e h. h.inside) entries at_pairs))

  -- ---- the lines are good

  module _ {Val Msg : Type 0} (a : Algebra Val Msg Weight) (good : All (λ e. EntryFits a (first_nodes n) e × Weighs a number e) entries) where
    abbrev IsSound : Entry Weight → Type 0
    IsSound e = IsCuttable number n e × (EntryFits a (first_nodes n) e × Weighs a number e)

    lines_of_group : (p : ℕ × ℕ) → In p → All (IsGoodLine a number len n) (lines_at p)
    lines_of_group p inside =
        let Item : Entry Weight → Type 0 = IsGoodItem a number (block_size len n p.1) (block_size len n p.0) in
        let sound = sorted_of_all dotted same_pair pair_at at pair_is IsSound entries p (all_both (IsCuttable number n) (λ e. EntryFits a (first_nodes n) e × Weighs a number e) entries fine good) in
        let items : All Item (map (offset_entry len) (group p)) = All-map Item (offset_entry len) (group p) (All-weaker (λ e. (at e ≡ p) × IsSound e) (λ e. Item (offset_entry len e)) (λ e h. record {
          row = subst (λ (q : ℕ × ℕ). offset_of len e.row < block_size len n q.1) h.0 (offset_low len n e.row some h.1.0.row);
          column = subst (λ (q : ℕ × ℕ). offset_of len e.column < block_size len n q.0) h.0 (offset_low len n e.column some h.1.0.column);
          light = h.1.1.1.small;
          weighs = h.1.1.1.is;
        }) (group p) sound) in
        let each : All (All Item) (lines_in p).lists = all_in_lists Item (lines_in p).lists (subst (All Item) (sym (lines_in p).together) items) in
        All-map (IsGoodLine a number len n) (line_of p) (lines_in p).lists (All-weaker (λ (l : List (Entry Weight)). (l ≢ []) × All Item l) (λ l. IsGoodLine a number len n (line_of p l)) (λ l h. record {
          column_low = inside.0;
          row_low = inside.1;
          items_some = h.0;
          each = h.1;
        }) (lines_in p).lists (all_both (λ (l : List (Entry Weight)). l ≢ []) (All Item) (lines_in p).lists (lines_in p).some each))

    lines_good : All (IsGoodLine a number len n) all_lines
    lines_good = all_flat_map (IsGoodLine a number len n) lines_at all (All-weaker In (λ p. All (IsGoodLine a number len n) (lines_at p)) lines_of_group all keyed.each)

  -- ---- the folder holds the lines

  blocks_hold : (matrix : List (List ℕ)) → Holds matrix (map (entry_pair number) entries) → All IsPlain (map (line_pair number) all_lines) → Holds (job_by gives cut cutter lister matrix) (map (line_pair number) all_lines)
  blocks_hold matrix holds plain =
      let flat = flat_map (part_items dotted all cut.reducers) parts in
      let moved : IsPermutation (flat_map out flat) (flat_map out all) = permuted_flat pair_first out pairs_order flat all (IsPermutation-sym all flat (all_items dotted same_pair In all keyed cut.reducers some_reducers)) in
      let own : (p : ℕ × ℕ) → out p ≡ map (line_pair number) (lines_at p) = λ p. sym (map-map (line_pair number) (line_of p) (lines_in p).lists) in
      let together : flat_map out all ≡ map (line_pair number) all_lines =
      flat_map_agree out (λ p. map (line_pair number) (lines_at p)) all (all_each (λ p. out p ≡ map (line_pair number) (lines_at p)) own all) ∙ sym (map-flat_map (line_pair number) lines_at all) in record {
        lists = map written_in parts;
        are = blocks_are matrix holds ∙ sym (map-map pairs_text written_in parts);
        all = subst (λ zs. IsPermutation zs (map (line_pair number) all_lines)) (sym (flat_map-map (λ (l : List Pair). l) written_in parts ∙ sym (flat_map-flat_map out (part_items dotted all cut.reducers) parts))) (subst (λ zs. IsPermutation (flat_map out flat) zs) together moved);
        plain = plain;
      }

module _ {Val Msg Weight : Type 0} (a : Algebra Val Msg Weight) (number : Weight → ℕ) (n : ℕ) (entries : List (Entry Weight)) (matrix : List (List ℕ)) (has : HasMatrix a number n entries matrix) where
  abbrev IsGood : Entry Weight → Type 0
  IsGood e = EntryFits a (first_nodes n) e × Weighs a number e

  all_cuttable : All (IsCuttable number n) entries
  all_cuttable =
      All-weaker (λ e. IsGood e × (1 ≤ number e.weight)) (IsCuttable number n) (λ e h. record {
        row = ltb-true e.row n h.0.0.row_in;
        column = ltb-true e.column n h.0.0.column_in;
        heavy = h.1;
        light = h.0.1.small;
      }) entries (all_both IsGood (λ e. 1 ≤ number e.weight) entries has.good has.heavy)

  has_blocks : (gives : Giving) (cut : Cut) → IsCut cut → (len : ℕ) → 1 ≤ len → n ≤ 2 ^ 32 → (cutter lister : List (List ℕ)) → Follows gives cutter (cut_rule len) → Follows gives lister blocks_rule
      → HasBlocks a number len n entries (job_by gives cut cutter lister matrix)
  has_blocks gives cut is_cut len some few cutter lister cuts lists =
      let lines = all_lines gives cut is_cut.some_bytes is_cut.some_reducers len some n few cutter lister cuts lists number entries all_cuttable in
      let good = lines_good gives cut is_cut.some_bytes is_cut.some_reducers len some n few cutter lister cuts lists number entries all_cuttable a has.good in record {
        fit = All-weaker IsGood (EntryFits a (first_nodes n)) (λ e h. h.0) entries has.good;
        lines = lines;
        are_cut = entries_cut gives cut is_cut.some_bytes is_cut.some_reducers len some n few cutter lister cuts lists number entries all_cuttable;
        good = good;
        holds = blocks_hold gives cut is_cut.some_bytes is_cut.some_reducers len some n few cutter lister cuts lists number entries all_cuttable matrix has.holds
            (All-map IsPlain (line_pair number) lines (All-weaker (IsGoodLine a number len n) (λ line. IsPlain (line_pair number line)) (line_plain a number len n some few) lines good));
      }

pub blocks_hold_entries : {Val Msg Weight : Type 0} → BlocksHoldEntries Val Msg Weight
blocks_hold_entries gives len some cutter lister cuts lists cut is_cut a number n few entries matrix has =
    has_blocks a number n entries matrix has gives cut is_cut len some few cutter lister cuts lists
