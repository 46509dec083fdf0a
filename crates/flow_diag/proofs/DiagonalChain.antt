-- The folders of the diagonal form hold the steps of closed values.
use Rattle.std.proofs.Common.{◌≡◌, refl, sym, ap, ◌∙◌, eqb, ℕ, zero, suc, ◌<◌, ◌≤◌, ◌^◌, List, [], ◌++◌, map, length, decimal, Option, arith}
use Rattle.std.specs.List.{flat_map}
use Rattle.std.specs.List.Sorted.{IsPermutation}
use Rattle.std.proofs.lemmas.Bool.{ltb-true}
use Rattle.std.proofs.lemmas.List.Elements.{All-filter}
use Rattle.graph.specs.Entries.{Entry}
use Rattle.graph.specs.Steps.{Vector, step}
use Rattle.gimv_core.specs.Algebras.{Algebra, EntryFits, EntriesFit, VectorFits}
use Rattle.gimv_core.specs.Closings.{IsClosing}
use Rattle.gimv_core.specs.Consequences.{first_nodes, rounds}
use Rattle.gimv_core.specs.Laws.{IsLawful}
use Rattle.gimv_core.proofs.Fitting.{step_fits}
use Rattle.gimv_base.specs.BaseRules.{Reading, unless_bad}
use Rattle.gimv_base.specs.Parts.{Part}
use Rattle.gimv_block.specs.Blocks.{block_count, block_of, nodes_of_block, all_blocks}
use Rattle.gimv_block.specs.BlockFlow.{BlockLine}
use Rattle.gimv_block.specs.BlockRecords.{block_record_of, parts_record_of}
use Rattle.gimv_block.specs.BlockRules.{new_values, new_values_line, with_messages}
use Rattle.gimv_block.specs.BlockValues.{differs}
use Rattle.gimv_diag.specs.declared.items.Item.{Item}
use Rattle.gimv_diag.specs.DiagonalRules.{closed_lines, closed_part, raw_record_of}
use Rattle.gimv_diag.specs.Rounds.{ListRoundsAreRounds}
use Rattle.gimv_diag.specs.Sending.{SentClosedIsStep}
use Rattle.pairs.specs.Pairs.{Pair}
use Rattle.list_laws.proofs.Images.{map-flat_map}
use Rattle.list_laws.proofs.Permutations.{same_items}
use Rattle.flow_core.specs.Following.{Giving}
use Rattle.flow_core.specs.Jobs.{Cut, job_by}
use Rattle.flow_core.specs.Parts.{parts_with}
use Rattle.flow_core.proofs.Items.{AreKeyed}
use Rattle.flow_core.proofs.Joins.{WritesWhole}
use Rattle.flow_core.proofs.Nodes.{nodes_keyed, leb_order}
use Rattle.flow_core.proofs.Steps.{step_is}
use Rattle.flow_base.specs.Layouts.{sequence, change_at}
use Rattle.flow_block.specs.BlockFolders.{HasBlocks, line_pair}
use Rattle.flow_block.specs.BlockLayouts.{block_layout}
use Rattle.flow_block.specs.BlockRoles.{BlockWords}
use Rattle.flow_block.specs.Laws.{AreMadeInBlocks}
use Rattle.flow_block.proofs.BlockChain.{changes_one, layout_is}
use Rattle.flow_block.proofs.BlockFirsts.{first_is}
use Rattle.flow_block.proofs.BlockJoins.{blocks_few, heads_good, vector_pair}
use Rattle.flow_diag.specs.Closing.{closed, closed_iterate, inner_entries}
use Rattle.flow_diag.specs.DiagonalRoles.{FollowsDiagonalRoles}
use Rattle.flow_diag.proofs.ClosedValues.{raw}
use Rattle.flow_diag.proofs.DiagonalMakes.{makes}
use Rattle.flow_diag.proofs.DiagonalSends.{all_sent, as_pair, block_of_sent, joins_raw, joins_sent, parts_in, passes_on, sent_by}

-- ---- closed vectors fit

module _ {Val Msg Weight : Type 0} (a : Algebra Val Msg Weight) (laws : IsLawful a) (len n : ℕ) (few : n ≤ 2 ^ 32) (entries : List (Entry Weight)) (fits : EntriesFit a (first_nodes n) entries) where
  rounds_fit : (v : Vector Val) → VectorFits a (first_nodes n) v → (k : ℕ) → VectorFits a (first_nodes n) (rounds a.algorithm (inner_entries len entries) k v)
  rounds_fit v vector zero = vector
  rounds_fit v vector (suc k) =
      step_fits a laws (first_nodes n) (inner_entries len entries) (rounds a.algorithm (inner_entries len entries) k v) (All-filter (λ (e : Entry Weight). eqb (block_of len e.row) (block_of len e.column)) (EntryFits a (first_nodes n)) entries fits) (rounds_fit v vector k)

  pub iterates_fit : (k : ℕ) → VectorFits a (first_nodes n) (closed_iterate a.algorithm len entries k)
  iterates_fit zero = λ i inside. let low = ltb-true i n inside in laws.first_fits i (omega (arith, low, few))
  iterates_fit (suc k) = step_fits a laws (first_nodes n) entries (closed a.algorithm len entries (closed_iterate a.algorithm len entries k)) fits (rounds_fit (closed_iterate a.algorithm len entries k) (iterates_fit k) len)

module _ {Val Msg Weight : Type 0} (gives : Giving) (a : Algebra Val Msg Weight) (as_msg : Val → Msg) (laws : IsLawful a) (closing : IsClosing a as_msg) (list_rounds : ListRoundsAreRounds Val Msg Weight) (sent_closed : SentClosedIsStep Val Msg Weight)
    (len n : ℕ) (some : 1 ≤ len) (short : len ≤ 256) (few : n ≤ 2 ^ 32) (words : BlockWords) (follows : FollowsDiagonalRoles gives a as_msg len n words) (cut : Cut) (some_bytes : 1 ≤ cut.split) (some_reducers : 1 ≤ cut.reducers)
    (number : Weight → ℕ) (entries : List (Entry Weight)) (blocks : List (List ℕ)) (has : HasBlocks a number len n entries blocks) where
  abbrev In : ℕ → Type 0
  In j = j < block_count len n

  abbrev all : List ℕ
  all = all_blocks len n

  abbrev lines : List (BlockLine Weight)
  lines = has.lines

  keyed : AreKeyed decimal eqb In all
  keyed = nodes_keyed (block_count len n) (omega (arith, blocks_few a laws len n some short few))

  abbrev at_blocks : (ℕ → Pair) → List (List ℕ)
  at_blocks f = parts_with cut.reducers (map f all)

  -- ---- one step

  module _ (counts : ℕ → ℕ) (most : (i : ℕ) → counts i ≤ 1) (v : Vector Val) (vector : VectorFits a (first_nodes n) v) (old : List (List ℕ)) (old_is : old ≡ at_blocks (vector_pair a len n counts v)) where
    abbrev next : Vector Val
    next = step a.algorithm entries (closed a.algorithm len entries v)

    abbrev old_pair : ℕ → Pair
    old_pair = vector_pair a len n counts v

    abbrev new_pair : ℕ → Pair
    new_pair = vector_pair a len n (differs a.algorithm v next) next

    abbrev values_at : ℕ → ℕ × List Val
    values_at j = (j, map v (nodes_of_block len n j))

    abbrev columns : BlockLine Weight → ℕ
    columns line = line.column_block

    abbrev Read : Type 0
    Read = ℕ × List (Item Weight)

    abbrev line_kind : ℕ × List Val → List ℕ → Option Read
    line_kind block = raw_record_of a len n block.0 (length block.1)

    abbrev part_kind : ℕ × List Val → List ℕ → Option (List (ℕ × Msg))
    part_kind block = parts_record_of a (length block.1)

    abbrev closing_part : ℕ × List Val → List (List ℕ) → Part
    closing_part block = closed_part a as_msg len n block.0 block.1 []

    abbrev closing_out : ℕ × List Val → List Read → List ℕ
    closing_out block ys = closed_lines a as_msg len n block.0 ys block.1

    abbrev Sent : Type 0
    Sent = ℕ × List (ℕ × Msg)

    abbrev pair : Sent → Pair
    pair = as_pair a as_msg laws closing list_rounds len n some short few number entries has.fit lines has.good has.are_cut counts most v vector

    abbrev to : Sent → ℕ
    to = block_of_sent a as_msg laws closing list_rounds len n some short few number entries has.fit lines has.good has.are_cut counts most v vector

    abbrev parts : Sent → List (ℕ × Msg)
    parts = parts_in a as_msg laws closing list_rounds len n some short few number entries has.fit lines has.good has.are_cut counts most v vector

    abbrev sent_of_block : ℕ → List Sent
    sent_of_block = sent_by a as_msg laws closing list_rounds len n some short few number entries has.fit lines has.good has.are_cut counts most v vector

    abbrev everything : List Sent
    everything = all_sent a as_msg laws closing list_rounds len n some short few number entries has.fit lines has.good has.are_cut counts most v vector

    abbrev sends : ℕ → List Pair
    sends j = map pair (sent_of_block j)

    writes : WritesWhole line_kind closing_part closing_out
    writes block rs ys all' = ap (λ (read : Reading Read). unless_bad read.bad (closing_out block read.items)) all'

    are_sent : IsPermutation (flat_map sends all) (map pair everything)
    are_sent = same_items (flat_map sends all) (map pair everything) (sym (map-flat_map pair sent_of_block all))

    next_is : job_by gives cut words.copy words.block2 (job_by gives cut words.copy words.block1 (blocks ++ old)) ≡ at_blocks new_pair
    next_is =
        step_is gives words.copy follows.copy cut some_bytes some_reducers decimal eqb In all keyed leb_order
        old_pair (λ j. refl) values_at (block_record_of a len n) (heads_good a laws len n some short few counts most v vector)
        (line_pair number) columns raw line_kind lines (joins_raw a as_msg laws closing list_rounds len n some short few number entries has.fit lines has.good has.are_cut counts most v vector)
        closing_part closing_out writes sends
        (passes_on a as_msg laws closing list_rounds len n some short few number entries has.fit lines has.good has.are_cut counts most v vector)
        words.block1 follows.diag1 blocks old has.holds old_is
        pair to parts part_kind everything are_sent (joins_sent a as_msg laws closing list_rounds len n some short few number entries has.fit lines has.good has.are_cut counts most v vector)
        (λ (block : ℕ × List Val) ss. new_values_line a block.0 block.1 (new_values a (with_messages a (λ row. a.algorithm.unit) (flat_map (λ sent. sent) ss)) 0 block.1)) new_pair (λ j. refl)
        (makes a as_msg laws closing list_rounds sent_closed len n some short few number entries has.fit lines has.good has.are_cut counts most v vector)
        words.block2 follows.block2

  -- ---- all iterations

  abbrev vectors : ℕ → Vector Val
  vectors k = closed_iterate a.algorithm len entries k

  abbrev made : ℕ → ℕ → Pair
  made k = vector_pair a len n (change_at a.algorithm vectors k) (vectors k)

  folders_are : (folder : ℕ → List (List ℕ)) → AreMadeInBlocks gives words cut n (λ p. p) blocks folder → (k : ℕ) → folder k ≡ at_blocks (made k)
  folders_are folder are zero = are.begins ∙ first_is a gives cut some_bytes len n some short few words.group words.firstb follows.group follows.firstb (λ p. p) (λ p low. low)
  folders_are folder are (suc k) =
      are.goes_on k ∙ next_is (change_at a.algorithm vectors k) (changes_one a.algorithm vectors k) (vectors k) (iterates_fit a laws len n few entries has.fit k) (folder k) (folders_are folder are k)

  pub layouts_are : (folder : ℕ → List (List ℕ)) → AreMadeInBlocks gives words cut n (λ p. p) blocks folder → (k : ℕ) → folder k ≡ block_layout (sequence a vectors) len n cut.reducers k
  layouts_are folder are k = folders_are folder are k ∙ sym (layout_is a vectors len n cut.reducers k)
