-- The folders of the block form hold the iterates, for each algorithm that keeps the laws.
use Rattle.std.proofs.Common.{◌≡◌, refl, sym, ap, ◌∙◌, subst, Bool, true, false, cond, ℕ, zero, suc, ◌+◌, ◌*◌, ◌<◌, ◌≤◌, ◌^◌, eqb, List, [], ◌∷◌, ◌++◌, map, length, sum_by, decimal, Option, Some, option_map, arith}
use Rattle.std.specs.List.{All, flat_map, join_with_byte, range_with_len}
use Rattle.std.specs.List.Sorted.{IsPermutation}
use Rattle.std.proofs.lemmas.Bool.{lt-ltb, ltb-true}
use Rattle.std.proofs.lemmas.List.Concat.{flat_map_single}
use Rattle.std.proofs.lemmas.List.Elements.{All-weaker, All-map}
use Rattle.graph.specs.Entries.{Entry}
use Rattle.graph.specs.Steps.{Algorithm, Vector, step, iterate}
use Rattle.gimv_core.specs.Algebras.{Algebra, VectorFits}
use Rattle.gimv_core.specs.Consequences.{first_nodes}
use Rattle.gimv_core.specs.Laws.{IsLawful}
use Rattle.gimv_core.proofs.Fitting.{step_fits}
use Rattle.gimv_base.specs.BaseRules.{Reading}
use Rattle.gimv_base.specs.Lines.{number_line}
use Rattle.gimv_block.specs.Blocks.{block_count, block_size, nodes_of_block, all_blocks}
use Rattle.gimv_block.specs.BlockFlow.{BlockLine}
use Rattle.gimv_block.specs.BlockLines.{number_lines, parts_line}
use Rattle.gimv_block.specs.BlockRecords.{block_record_of, sent_record_of, parts_record_of}
use Rattle.gimv_block.specs.BlockRules.{new_values, new_values_line, sent_part, with_messages}
use Rattle.gimv_block.specs.BlockValues.{differs}
use Rattle.gimv_block.proofs.BlockNodes.{all_nodes_of_blocks, nodes_in_block}
use Rattle.pairs.specs.Pairs.{Pair, IsPlain, pairs_text}
use Rattle.list_laws.proofs.Alls.{all_each}
use Rattle.list_laws.proofs.Images.{map_agree, map-flat_map, map-map}
use Rattle.list_laws.proofs.Ranges.{all_below}
use Rattle.flow_core.specs.Following.{Giving}
use Rattle.flow_core.specs.Holding.{Holds, record_of}
use Rattle.flow_core.specs.Jobs.{Cut, job_by}
use Rattle.flow_core.specs.Parts.{parts_with}
use Rattle.flow_core.specs.Places.{over_places}
use Rattle.flow_core.proofs.Folders.{holds_parts}
use Rattle.flow_core.proofs.Items.{AreKeyed, sorted_of}
use Rattle.flow_core.proofs.Jobs.{gathered}
use Rattle.flow_core.proofs.Joins.{Joins, WritesWhole, sends_all, passes_each}
use Rattle.flow_core.proofs.MapPhase.{Gives}
use Rattle.flow_core.proofs.Nodes.{nodes_keyed, leb_order}
use Rattle.flow_core.proofs.Steps.{step_is}
use Rattle.flow_base.specs.Layouts.{sequence, change_at, result_parts}
use Rattle.flow_base.proofs.RecordsBack.{numbered_plain}
use Rattle.flow_block.specs.BlockFolders.{HasBlocks, line_pair}
use Rattle.flow_block.specs.BlockLayouts.{block_pair, block_layout}
use Rattle.flow_block.specs.BlockRoles.{BlockWords, FollowsBlockRoles}
use Rattle.flow_block.specs.Laws.{AreMadeInBlocks}
use Rattle.flow_block.proofs.BlockFirsts.{first_is}
use Rattle.flow_block.proofs.BlockJoins.{blocks_few, columns_of, heads_good, joins1, joins2, parts_sent, passed, passes1, rows_of, sent_pair, vector_pair}
use Rattle.flow_block.proofs.BlockMakes.{makes}

at_most_one : (b : Bool) → cond b 0 1 ≤ 1
at_most_one true = omega arith
at_most_one false = omega arith

pub changes_one : {Val Msg Weight : Type 0} (a : Algorithm Val Msg Weight) (vectors : ℕ → Vector Val) (k i : ℕ) → change_at a vectors k i ≤ 1
changes_one a vectors zero i = omega arith
changes_one a vectors (suc k) i = at_most_one (a.same (vectors (suc k) i) (vectors k i))

-- a line of the layout is that of its vector
pub line_is : {Val Msg Weight : Type 0} (a : Algebra Val Msg Weight) (vectors : ℕ → Vector Val) (len n k j : ℕ)
    → block_pair (sequence a vectors) len n k j ≡ vector_pair a len n (change_at a.algorithm vectors k) (vectors k) j
line_is a vectors len n k j =
    let nodes = nodes_of_block len n j in
    let changes = decimal (sum_by (change_at a.algorithm vectors k) nodes) in
    ap (λ (ts : List (List ℕ)). (decimal j, 86 ∷ 32 ∷ (changes ++ (32 ∷ join_with_byte 44 ts)))) (sym (map-map a.val_text (vectors k) nodes))

pub layout_is : {Val Msg Weight : Type 0} (a : Algebra Val Msg Weight) (vectors : ℕ → Vector Val) (len n reducers k : ℕ)
    → block_layout (sequence a vectors) len n reducers k ≡ parts_with reducers (map (vector_pair a len n (change_at a.algorithm vectors k) (vectors k)) (all_blocks len n))
layout_is a vectors len n reducers k =
    let one : ℕ → Pair = block_pair (sequence a vectors) len n k in
    let other : ℕ → Pair = vector_pair a len n (change_at a.algorithm vectors k) (vectors k) in
    ap (parts_with reducers) (map_agree one other (all_blocks len n) (all_each (λ j. one j ≡ other j) (line_is a vectors len n k) (all_blocks len n)))

module _ {Val Msg Weight : Type 0} (gives : Giving) (a : Algebra Val Msg Weight) (laws : IsLawful a) (len n : ℕ) (some : 1 ≤ len) (short : len ≤ 256) (few : n ≤ 2 ^ 32)
    (words : BlockWords) (follows : FollowsBlockRoles gives a len n words) (cut : Cut) (some_bytes : 1 ≤ cut.split) (some_reducers : 1 ≤ cut.reducers) where
  abbrev nodes : List ℕ
  nodes = range_with_len 0 n

  abbrev In : ℕ → Type 0
  In j = j < block_count len n

  abbrev all : List ℕ
  all = all_blocks len n

  keyed : AreKeyed decimal eqb In all
  keyed = nodes_keyed (block_count len n) (omega (arith, blocks_few a laws len n some short few))

  abbrev at_blocks : (ℕ → Pair) → List (List ℕ)
  at_blocks f = parts_with cut.reducers (map f all)

  -- ---- one vector

  module _ (counts : ℕ → ℕ) (most : (i : ℕ) → counts i ≤ 1) (v : Vector Val) (vector : VectorFits a (first_nodes n) v) where
    abbrev head : ℕ → Pair
    head = vector_pair a len n counts v

    head_good : (j : ℕ) → In j → IsPlain (head j) × (block_record_of a len n (record_of (head j)) ≡ Some (j, map v (nodes_of_block len n j)))
    head_good = heads_good a laws len n some short few counts most v vector

    pub heads_hold : Holds (at_blocks head) (map head all)
    heads_hold = holds_parts cut.reducers (map head all) some_reducers (All-map IsPlain head all (all_below (block_count len n) (λ j. IsPlain (head j)) (λ j low. (head_good j low).0)))

    -- ---- the result

    abbrev number_at : ℕ → Pair
    number_at i = (decimal i, decimal (a.algorithm.number (v i)))

    numbered_lines : (i c : ℕ) → number_lines a i (map v (range_with_len i c)) ≡ pairs_text (map number_at (range_with_len i c))
    numbered_lines i zero = refl
    numbered_lines i (suc c) = ap (λ (t : List ℕ). number_line i (a.algorithm.number (v i)) ++ t) (numbered_lines (i + 1) c)

    number_plain : (i : ℕ) → i < n → IsPlain (number_at i)
    number_plain i low = numbered_plain i (a.algorithm.number (v i)) (omega (arith, few, low)) (laws.number_fits (v i) (vector i (lt-ltb i n low)))

    abbrev numbers_of : ℕ → List Pair
    numbers_of j = map number_at (nodes_of_block len n j)

    abbrev unblocked : List ℕ → Option (List ℕ)
    unblocked r = option_map (λ (block : ℕ × List Val). number_lines a (block.0 * len) block.1) (block_record_of a len n r)

    unblocks : (j : ℕ) → In j → Gives unblocked (record_of (head j)) (numbers_of j)
    unblocks j low = record {
      is = ap (option_map (λ (block : ℕ × List Val). number_lines a (block.0 * len) block.1)) (head_good j low).1 ∙ ap Some (numbered_lines (j * len) (block_size len n j));
      plain = All-map IsPlain number_at (nodes_of_block len n j) (All-weaker (λ i. (j * len ≤ i) × (i < n)) (λ i. IsPlain (number_at i)) (λ i h. number_plain i h.1) (nodes_of_block len n j) (nodes_in_block len n j some low));
    }

    pub numbers_are : (folder : List (List ℕ)) → folder ≡ at_blocks head → job_by gives cut words.unblock words.copy folder ≡ parts_with cut.reducers (map number_at nodes)
    numbers_are folder is =
        gathered gives words.copy follows.copy cut some_bytes unblocked folder words.unblock head numbers_of all (map number_at nodes) follows.unblock (subst (λ ts. Holds ts (map head all)) (sym is) heads_hold)
        (all_below (block_count len n) (λ j. Gives unblocked (record_of (head j)) (numbers_of j)) unblocks)
        (sym (map-flat_map number_at (nodes_of_block len n) all) ∙ ap (map number_at) (all_nodes_of_blocks len n some))
        (All-map IsPlain number_at nodes (all_below n (λ i. IsPlain (number_at i)) number_plain))

  -- ---- one step

  module _ (number : Weight → ℕ) (entries : List (Entry Weight)) (blocks : List (List ℕ)) (has : HasBlocks a number len n entries blocks) where
    module _ (counts : ℕ → ℕ) (most : (i : ℕ) → counts i ≤ 1) (v : Vector Val) (vector : VectorFits a (first_nodes n) v) (old : List (List ℕ)) (old_is : old ≡ at_blocks (vector_pair a len n counts v)) where
      abbrev next : Vector Val
      next = step a.algorithm entries v

      abbrev lines : List (BlockLine Weight)
      lines = has.lines

      abbrev old_pair : ℕ → Pair
      old_pair = vector_pair a len n counts v

      abbrev new_pair : ℕ → Pair
      new_pair = vector_pair a len n (differs a.algorithm v next) next

      abbrev values_at : ℕ → ℕ × List Val
      values_at j = (j, map v (nodes_of_block len n j))

      abbrev columns : BlockLine Weight → ℕ
      columns = columns_of a laws len n some short few counts most v vector number

      abbrev rows : BlockLine Weight → ℕ
      rows = rows_of a laws len n some short few counts most v vector number

      abbrev passed_on : BlockLine Weight → ℕ × List (ℕ × Msg)
      passed_on = passed a laws len n some short few counts most v vector number

      abbrev to_pair : BlockLine Weight → Pair
      to_pair = sent_pair a laws len n some short few counts most v vector number

      abbrev parts : BlockLine Weight → List (ℕ × Msg)
      parts = parts_sent a laws len n some short few counts most v vector number

      abbrev line_kind : ℕ × List Val → List ℕ → Option (ℕ × List (ℕ × Msg))
      line_kind block = sent_record_of a len n block.0 block.1

      abbrev part_kind : ℕ × List Val → List ℕ → Option (List (ℕ × Msg))
      part_kind block = parts_record_of a (length block.1)

      abbrev sends : ℕ → List Pair
      sends j = flat_map (λ line. to_pair line ∷ []) (sorted_of decimal eqb (line_pair number) columns lines j)

      old_good : (j : ℕ) → In j → IsPlain (old_pair j) × (block_record_of a len n (record_of (old_pair j)) ≡ Some (values_at j))
      old_good = heads_good a laws len n some short few counts most v vector

      writes : WritesWhole line_kind (λ (block : ℕ × List Val). sent_part a len n block.0 block.1) (λ (block : ℕ × List Val) ys. flat_map (parts_line a len n) ys)
      writes block rs ys all' = ap (λ (read : Reading (ℕ × List (ℕ × Msg))). record { out = flat_map (parts_line a len n) read.items; bad = read.bad }) all'

      joins : All (Joins decimal eqb In old_pair values_at (line_pair number) columns passed_on line_kind) lines
      joins = joins1 a laws len n some short few counts most v vector number lines has.good

      each : All (λ line. (parts_line a len n (passed_on line) ≡ pairs_text (to_pair line ∷ [])) × All IsPlain (to_pair line ∷ [])) lines
      each = passes1 a laws len n some short few counts most v vector number lines has.good

      are_sent : IsPermutation (flat_map sends all) (map to_pair lines)
      are_sent =
          subst (λ zs. IsPermutation (flat_map sends all) zs) (flat_map_single to_pair lines)
          (sends_all decimal eqb In all keyed old_pair (λ j. refl) values_at (block_record_of a len n) old_good
          (line_pair number) columns passed_on line_kind lines joins (λ (block : ℕ × List Val). parts_line a len n) (λ line. to_pair line ∷ []) each)

      next_is : job_by gives cut words.copy words.block2 (job_by gives cut words.copy words.block1 (blocks ++ old)) ≡ at_blocks new_pair
      next_is =
          step_is gives words.copy follows.copy cut some_bytes some_reducers decimal eqb In all keyed leb_order
          old_pair (λ j. refl) values_at (block_record_of a len n) old_good
          (line_pair number) columns passed_on line_kind lines joins
          (λ (block : ℕ × List Val). sent_part a len n block.0 block.1) (λ (block : ℕ × List Val) ys. flat_map (parts_line a len n) ys) writes sends
          (passes_each decimal eqb In all keyed old_pair (λ j. refl) values_at (block_record_of a len n) old_good
          (line_pair number) columns passed_on line_kind lines joins (λ (block : ℕ × List Val). parts_line a len n) (λ line. to_pair line ∷ []) each)
          words.block1 follows.block1 blocks old has.holds old_is
          to_pair rows parts part_kind lines are_sent (joins2 a laws len n some short few counts most v vector number lines has.good)
          (λ (block : ℕ × List Val) ss. new_values_line a block.0 block.1 (new_values a (with_messages a (λ row. a.algorithm.unit) (flat_map (λ sent. sent) ss)) 0 block.1)) new_pair (λ j. refl)
          (makes a laws len n some short few counts most v vector number lines has.good entries has.fit has.are_cut)
          words.block2 follows.block2

    -- ---- all iterations

    module _ (id : ℕ → ℕ) (id_low : (p : ℕ) → p < n → id p < n) where
      abbrev vectors : ℕ → Vector Val
      vectors k = iterate (over_places id a.algorithm) entries k

      pub vectors_fit : (k : ℕ) → VectorFits a (first_nodes n) (vectors k)
      vectors_fit zero = λ i inside. let low = ltb-true i n inside in laws.first_fits (id i) (omega (arith, id_low i low, few))
      vectors_fit (suc k) = step_fits a laws (first_nodes n) entries (vectors k) has.fit (vectors_fit k)

      abbrev made : ℕ → ℕ → Pair
      made k = vector_pair a len n (change_at a.algorithm vectors k) (vectors k)

      folders_are : (folder : ℕ → List (List ℕ)) → AreMadeInBlocks gives words cut n id blocks folder → (k : ℕ) → folder k ≡ at_blocks (made k)
      folders_are folder are zero = are.begins ∙ first_is a gives cut some_bytes len n some short few words.group words.firstb follows.group follows.firstb id id_low
      folders_are folder are (suc k) =
          are.goes_on k ∙ next_is (change_at a.algorithm vectors k) (changes_one a.algorithm vectors k) (vectors k) (vectors_fit k) (folder k) (folders_are folder are k)

      pub layouts_are : (folder : ℕ → List (List ℕ)) → AreMadeInBlocks gives words cut n id blocks folder → (k : ℕ) → folder k ≡ block_layout (sequence a vectors) len n cut.reducers k
      layouts_are folder are k = folders_are folder are k ∙ sym (layout_is a vectors len n cut.reducers k)

  pub results_are : (vectors : ℕ → Vector Val) → ((k : ℕ) → VectorFits a (first_nodes n) (vectors k)) → (k : ℕ)
      → job_by gives cut words.unblock words.copy (block_layout (sequence a vectors) len n cut.reducers k) ≡ result_parts (sequence a vectors) n cut.reducers k
  results_are vectors fit k =
      numbers_are (change_at a.algorithm vectors k) (changes_one a.algorithm vectors k) (vectors k) (fit k) (block_layout (sequence a vectors) len n cut.reducers k) (layout_is a vectors len n cut.reducers k)
