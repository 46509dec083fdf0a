-- The folders of the base form hold the iterates, for each algorithm that keeps the laws.
use Rattle.std.proofs.Common.{◌++◌, Bool, List, Option, Some, [], ap, arith, cond, decimal, eqb, false, fold, map, option_map, refl, subst, suc, sym, true, zero, ℕ, ◌<◌, ◌^◌, ◌∙◌, ◌∷◌, ◌≡◌, ◌≤◌}
use Rattle.std.specs.List.{All, flat_map, range_with_len}
use Rattle.std.specs.List.Sorted.{IsPermutation}
use Rattle.std.proofs.lemmas.Bool.{lt-ltb}
use Rattle.std.proofs.lemmas.List.{append-nil}
use Rattle.std.proofs.lemmas.List.Elements.{All-nil, All-cons, All-weaker, All-map}
use Rattle.peg_text.specs.Pairs.{pair_line}
use Rattle.graph.specs.Entries.{Entry}
use Rattle.graph.specs.Steps.{Vector, step, iterate}
use Rattle.gimv_core.specs.Algebras.{Algebra, VectorFits, EntryFits, EntriesFit}
use Rattle.gimv_core.specs.Laws.{IsLawful}
use Rattle.gimv_core.specs.Consequences.{first_nodes}
use Rattle.gimv_core.proofs.Fitting.{iterate_fits}
use Rattle.gimv_base.specs.Lines.{value_line, number_line}
use Rattle.gimv_base.specs.Records.{node_record_of, value_record_of, entry_record_of, message_record_of}
use Rattle.gimv_base.specs.BaseRules.{Reading, passed_line, passed_part, new_value_line}
use Rattle.pairs.specs.Pairs.{Pair, IsPlain, pairs_text}
use Rattle.partition.specs.Hash.{part_among}
use Rattle.store.specs.Sealed.{nodes_text}
use Rattle.flow_core.specs.Following.{Giving}
use Rattle.flow_core.specs.Jobs.{Cut, job_by}
use Rattle.flow_base.specs.Roles.{RoleWords, FollowsRoles}
use Rattle.flow_core.specs.Parts.{parts_with, part_lines}
use Rattle.flow_core.specs.Holding.{Holds, record_of}
use Rattle.flow_base.specs.Layouts.{Sequence, sequence, change_at, value_pair, number_pair, layout, result_parts}
use Rattle.flow_base.proofs.Lines.{message_pair, node_pair, place_pair}
use Rattle.std.proofs.lemmas.List.Concat.{flat_map_single}
use Rattle.list_laws.proofs.Ranges.{all_below}
use Rattle.flow_core.proofs.Nodes.{nodes_keyed, leb_order, part_nodes, nodes_in, sorted_nodes, sorted_at}
use Rattle.flow_base.proofs.Stages.{small, head_plain, head_reads, heads_good, joins1, passes1, joins2, messages_all}
use Rattle.flow_core.proofs.Joins.{Joins, WritesWhole, sends_all, passes_each}
use Rattle.flow_core.proofs.Steps.{step_is}
use Rattle.flow_core.proofs.Jobs.{copied, gathered, reduces_by_record}
use Rattle.flow_core.proofs.Folders.{holds_parts, holds_one}
use Rattle.flow_core.proofs.MapPhase.{Gives}
use Rattle.flow_base.proofs.RecordsBack.{numbered_plain, place_plain, place_back, nodes_are}
use Rattle.flow_base.specs.Matrices.{Weighs, entry_pair}

at_most_one : (b : Bool) → cond b 0 1 ≤ 256
at_most_one true = omega arith
at_most_one false = omega arith

module _ {Val Msg Weight : Type 0} (gives : Giving) (a : Algebra Val Msg Weight) (laws : IsLawful a) (n : ℕ) (few : n ≤ 2 ^ 32) (words : RoleWords) (follows : FollowsRoles gives a n words)
    (cut : Cut) (some_bytes : 1 ≤ cut.split) (some_reducers : 1 ≤ cut.reducers) where
  abbrev nodes : List ℕ
  nodes = range_with_len 0 n

  abbrev at_nodes : (ℕ → Pair) → List (List ℕ)
  at_nodes f = parts_with cut.reducers (map f nodes)

  -- ---- the first values

  first_is : job_by gives cut words.copy words.first (nodes_text n ∷ []) ≡ at_nodes (node_pair a (λ i. 1) a.algorithm.first)
  first_is =
      let f : ℕ → Pair = node_pair a (λ i. 1) a.algorithm.first in
      let text : List ℕ → Option (List ℕ) = λ rec. option_map (λ (place : ℕ × ℕ). value_line a place.0 1 (a.algorithm.first place.1)) (node_record_of n rec) in
      let plain : All IsPlain (map place_pair nodes) = All-map IsPlain place_pair nodes (all_below n (λ i. IsPlain (place_pair i)) (λ i low. place_plain i (omega arith))) in
      copied gives words.copy follows.copy cut some_bytes (nodes_text n ∷ []) words.first (map place_pair nodes) (part_lines cut.reducers (map f nodes))
      (subst (λ (t : List ℕ). Holds (t ∷ []) (map place_pair nodes)) (sym (nodes_are n)) (holds_one (map place_pair nodes) plain)) (λ r.
      let mine = part_nodes cut.reducers n r in
      ap (λ (ps : List Pair). gives words.first (pairs_text ps)) (sorted_nodes cut.reducers n (omega arith) place_pair (λ j. refl) r)
      ∙ reduces_by_record gives words.first text place_pair f mine follows.first (All-weaker (λ i. (i < n) × (part_among (decimal i) cut.reducers ≡ r)) (λ i. IsPlain (place_pair i) × (text (record_of (place_pair i)) ≡ Some (pair_line (f i).0 (f i).1))) (λ i h. (place_plain i (omega (arith, h.0)), ap (option_map (λ (place : ℕ × ℕ). value_line a place.0 1 (a.algorithm.first place.1))) (place_back n i h.0 few))) mine (nodes_in cut.reducers n (omega arith) r))
      ∙ ap pairs_text (sym (sorted_nodes cut.reducers n (omega arith) f (λ j. refl) r)))

  module _ (number : Weight → ℕ) (entries : List (Entry Weight)) (good : All (λ e. EntryFits a (first_nodes n) e × Weighs a number e) entries)
      (matrix : List (List ℕ)) (holds : Holds matrix (map (entry_pair number) entries)) where
    fits : EntriesFit a (first_nodes n) entries
    fits = All-weaker (λ e. EntryFits a (first_nodes n) e × Weighs a number e) (EntryFits a (first_nodes n)) (λ e h. h.0) entries good

    -- ---- one step

    module _ (counts : ℕ → ℕ) (most : (i : ℕ) → counts i ≤ 256) (v : Vector Val) (vector : VectorFits a (first_nodes n) v) (old : List (List ℕ)) (old_is : old ≡ at_nodes (node_pair a counts v)) where
      abbrev next : Vector Val
      next = step a.algorithm entries v

      abbrev changes : ℕ → ℕ
      changes i = cond (a.algorithm.same (next i) (v i)) 0 1

      abbrev column_of : Entry Weight → ℕ
      column_of e = e.column

      abbrev entry_at : Entry Weight → ℕ × Weight
      entry_at e = (e.row, e.weight)

      abbrev passed : ℕ × Val → ℕ × Weight → List ℕ
      passed node = passed_line a node.1

      abbrev sends : ℕ → List Pair
      sends i = flat_map (λ e. message_pair a v e ∷ []) (sorted_at (entry_pair number) column_of entries i)

      writes : WritesWhole (λ (node : ℕ × Val). entry_record_of a n) (λ (node : ℕ × Val). passed_part a n node.1) (λ node ys. flat_map (passed node) ys)
      writes node rs ys all = ap (λ (read : Reading (ℕ × Weight)). record { out = flat_map (passed node) read.items; bad = read.bad }) all

      joins : All (Joins decimal eqb (λ i. i < n) (node_pair a counts v) (λ i. (i, v i)) (entry_pair number) column_of entry_at (λ (node : ℕ × Val). entry_record_of a n)) entries
      joins = joins1 a laws n few counts most v vector number entries good

      each : All (λ e. (passed (e.column, v e.column) (entry_at e) ≡ pairs_text (message_pair a v e ∷ [])) × All IsPlain (message_pair a v e ∷ [])) entries
      each = passes1 a laws n few counts most v vector number entries good

      are_sent : IsPermutation (flat_map sends nodes) (map (message_pair a v) entries)
      are_sent =
          subst (λ zs. IsPermutation (flat_map sends nodes) zs) (flat_map_single (message_pair a v) entries)
          (sends_all decimal eqb (λ i. i < n) nodes (nodes_keyed n (small a laws n few)) (node_pair a counts v) (λ j. refl) (λ i. (i, v i)) (value_record_of a n) (heads_good a laws n few counts most v vector)
          (entry_pair number) column_of entry_at (λ (node : ℕ × Val). entry_record_of a n) entries joins passed (λ e. message_pair a v e ∷ []) each)

      next_is : job_by gives cut words.copy words.stage2 (job_by gives cut words.copy words.stage1 (matrix ++ old)) ≡ at_nodes (node_pair a changes next)
      next_is =
          step_is gives words.copy follows.copy cut some_bytes some_reducers decimal eqb (λ i. i < n) nodes (nodes_keyed n (small a laws n few)) leb_order
          (node_pair a counts v) (λ j. refl) (λ i. (i, v i)) (value_record_of a n) (heads_good a laws n few counts most v vector)
          (entry_pair number) column_of entry_at (λ (node : ℕ × Val). entry_record_of a n) entries joins
          (λ (node : ℕ × Val). passed_part a n node.1) (λ node ys. flat_map (passed node) ys) writes sends
          (passes_each decimal eqb (λ i. i < n) nodes (nodes_keyed n (small a laws n few)) (node_pair a counts v) (λ j. refl) (λ i. (i, v i)) (value_record_of a n) (heads_good a laws n few counts most v vector)
          (entry_pair number) column_of entry_at (λ (node : ℕ × Val). entry_record_of a n) entries joins passed (λ e. message_pair a v e ∷ []) each)
          words.stage1 follows.stage1 matrix old holds old_is
          (message_pair a v) (λ (e : Entry Weight). e.row) (λ e. a.algorithm.combine2 e.weight (v e.column)) (λ (node : ℕ × Val). message_record_of a) entries are_sent (joins2 a laws n few counts most v vector entries fits)
          (λ (node : ℕ × Val) ms. new_value_line a node (a.algorithm.assign node.1 (fold a.algorithm.combine a.algorithm.unit ms))) (node_pair a changes next) (λ j. refl)
          (λ i low. ap (λ (all : Msg). new_value_line a (i, v i) (a.algorithm.assign (v i) all)) (messages_all a laws n few counts most v vector entries fits i))
          words.stage2 follows.stage2

    -- ---- all iterations

    abbrev vectors : ℕ → Vector Val
    vectors k = iterate a.algorithm entries k

    abbrev pub iterates : Sequence
    iterates = sequence a vectors

    pub changes_few : (k i : ℕ) → change_at a.algorithm vectors k i ≤ 256
    changes_few zero i = omega arith
    changes_few (suc k) i = at_most_one (a.algorithm.same (vectors (suc k) i) (vectors k i))

    pub vectors_fit : (k : ℕ) → VectorFits a (first_nodes n) (vectors k)
    vectors_fit k = iterate_fits a laws n entries k few fits

    -- folders of which the first one is made of the nodes, and each later one of the one before it
    pub layouts_are : (folder : ℕ → List (List ℕ)) → folder 0 ≡ job_by gives cut words.copy words.first (nodes_text n ∷ [])
        → ((k : ℕ) → folder (suc k) ≡ job_by gives cut words.copy words.stage2 (job_by gives cut words.copy words.stage1 (matrix ++ folder k)))
        → (k : ℕ) → folder k ≡ layout iterates n cut.reducers k
    layouts_are folder begins goes_on zero = begins ∙ first_is
    layouts_are folder begins goes_on (suc k) =
        goes_on k ∙ next_is (change_at a.algorithm vectors k) (changes_few k) (vectors k) (vectors_fit k) (folder k) (layouts_are folder begins goes_on k)

    pub heads_hold : (k : ℕ) → Holds (layout iterates n cut.reducers k) (map (value_pair iterates k) nodes)
    heads_hold k =
        holds_parts cut.reducers (map (value_pair iterates k) nodes) some_reducers (All-map IsPlain (value_pair iterates k) nodes (all_below n (λ i. IsPlain (value_pair iterates k i)) (head_plain a laws n few (change_at a.algorithm vectors k) (changes_few k) (vectors k) (vectors_fit k))))

    -- ---- the result

    pub number_small : (k i : ℕ) → i < n → iterates.number k i < 2 ^ 64
    number_small k i low = laws.number_fits (vectors k i) (vectors_fit k i (lt-ltb i n low))

    number_plain : (k i : ℕ) → i < n → IsPlain (number_pair iterates k i)
    number_plain k i low = numbered_plain i (iterates.number k i) (omega arith) (number_small k i low)

    pub numbers_hold : (k : ℕ) → Holds (result_parts iterates n cut.reducers k) (map (number_pair iterates k) nodes)
    numbers_hold k =
        holds_parts cut.reducers (map (number_pair iterates k) nodes) some_reducers (All-map IsPlain (number_pair iterates k) nodes (all_below n (λ i. IsPlain (number_pair iterates k i)) (number_plain k)))

    pub results_are : (k : ℕ) (folder : List (List ℕ)) → folder ≡ layout iterates n cut.reducers k → job_by gives cut words.number words.copy folder ≡ result_parts iterates n cut.reducers k
    results_are k folder is =
        let head : ℕ → Pair = value_pair iterates k in
        let out : ℕ → Pair = number_pair iterates k in
        let text : List ℕ → Option (List ℕ) = λ r. option_map (λ (node : ℕ × Val). number_line node.0 (a.algorithm.number node.1)) (value_record_of a n r) in
        gathered gives words.copy follows.copy cut some_bytes text folder words.number head (λ i. out i ∷ []) nodes (map out nodes) follows.number (subst (λ ts. Holds ts (map head nodes)) (sym is) (heads_hold k)) (all_below n (λ i. Gives text (record_of (head i)) (out i ∷ [])) (λ i low. record {
          is = ap (option_map (λ (node : ℕ × Val). number_line node.0 (a.algorithm.number node.1))) (head_reads a laws n few (change_at a.algorithm vectors k) (changes_few k) (vectors k) (vectors_fit k) i low) ∙ ap Some (sym (append-nil (pair_line (out i).0 (out i).1)));
          plain = All-cons IsPlain (out i) [] (number_plain k i low) (All-nil IsPlain);
        })) (flat_map_single out nodes) (All-map IsPlain out nodes (all_below n (λ i. IsPlain (out i)) (number_plain k)))
