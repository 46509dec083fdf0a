-- The diagonal form of the components.
use Rattle.std.proofs.Common.{◌≡◌, ◌≢◌, refl, sym, ap, ◌∙◌, subst, Bool, true, false, cond, not, ◌&&◌, eqb, leb, ℕ, zero, suc, ◌<◌, ◌≤◌, ◌^◌, List, [], ◌∷◌, map, get_or, decimal, Option, Some, inl, inr, arith}
use Rattle.std.specs.Prelude.{◌||◌, unwrap_or}
use Rattle.std.specs.List.{find, range_with_len}
use Rattle.std.proofs.lemmas.Bool.{and_parts, cases_Bool, cases_lt, eq-eqb, eqb-true, false≢true, le-leb, lt-ltb, ltb-true}
use Rattle.std.proofs.lemmas.List.Elements.{All-map}
use Rattle.graph.specs.declared.edges.Edge.{Edge}
use Rattle.graph.specs.Algorithms.{hcc}
use Rattle.graph.specs.Entries.{hcc_entries}
use Rattle.graph.specs.Laws.{EndsAtLeast}
use Rattle.graph.specs.Steps.{Vector, iterate}
use Rattle.graph.proofs.WalkLemmas.{IsLeast-unique}
use Rattle.gimv_core.specs.Algebras.{VectorFits}
use Rattle.gimv_core.specs.Consequences.{first_nodes}
use Rattle.hcc.specs.Components.{hcc_algebra, label_as_message}
use Rattle.hcc.specs.Lawful.{hcc_is_lawful}
use Rattle.gimv_diag.specs.Diagonal.{diagonal_after, diagonal_changed, DiagonalEnds, DiagonalEndsAtLeast}
use Rattle.edge_text.specs.Edges.{edges_of, text_of}
use Rattle.conf.specs.declared.commands.Command.{Command}
use Rattle.conf.specs.declared.commands.Command.TheVariants.{Plain, Hcc, Hadi, PageRank}
use Rattle.conf.specs.declared.commands.Form.{Form}
use Rattle.conf.specs.declared.commands.Form.TheVariants.{Base, Diagonal}
use Rattle.conf.specs.declared.reading.Conf.{Conf}
use Rattle.conf.specs.Commands.{has_form, is_mining}
use Rattle.mining.specs.declared.place.Place.TheVariants.{Blocks, Matrix, Results, Vector as VectorOf}
use Rattle.mining.specs.Flow.{changes_in, count_of, ends_at_most, ends_unchanged, flow, is_end, is_unchanged, last_of, mining_of, most_of, total_in}
use Rattle.mining.specs.Table.{matrix_map, matrix_reduce}
use Rattle.mining.proofs.Flows.{vector_flow}
use Rattle.pairs.specs.Pairs.{IsPlain}
use Rattle.list_laws.proofs.Alls.{all_each}
use Rattle.list_laws.proofs.Images.{map_agree}
use Rattle.list_laws.proofs.Ranges.{all_below}
use Rattle.list_laws.proofs.Sums.{ones, sum_agree}
use Rattle.flow_core.specs.Following.{Giving}
use Rattle.flow_core.specs.Holding.{Holds}
use Rattle.flow_core.specs.Jobs.{job_by}
use Rattle.flow_core.specs.Parts.{parts_with}
use Rattle.flow_core.proofs.Folders.{holds_parts}
use Rattle.flow_base.specs.Laws.{IsCut}
use Rattle.flow_base.specs.Layouts.{Sequence, changed_in, number_pair, result_parts}
use Rattle.flow_base.specs.Matrices.{one_number}
use Rattle.flow_base.proofs.MatrixFolders.{one_matrix, same_matrix}
use Rattle.flow_base.proofs.RecordsBack.{numbered_plain}
use Rattle.flow_base.proofs.SomeTexts.{decimal_some, one_back}
use Rattle.flow_block.specs.BlockFolders.{HasBlocks}
use Rattle.flow_block.specs.BlockRoles.{FollowsBlockRoles}
use Rattle.flow_block.proofs.BlockChain.{results_are}
use Rattle.flow_block.proofs.BlockFolder.{blocks_hold_entries}
use Rattle.flow_diag.specs.DiagonalRoles.{FollowsDiagonalRoles}
use Rattle.flow_diag.specs.Laws.{DiagonalLabelsFit, DiagonalVectorsAreLabels}
use Rattle.flow.specs.Children.{FollowsChildren}
use Rattle.flow.specs.Iterates.{EndsAt, IsBaseRun, IsLast, iterates_by, total_by}
use Rattle.flow.specs.Laws.{AreCountable, HasResult, parts_of_numbers}
use Rattle.flow.proofs.Ends.{base_result, ends, hcc_last}
use Rattle.flow.proofs.Files.{file_edges_are_countable}
use Rattle.flow.proofs.Searches.{IsFound, find_agree, found_up_to}
use Rattle.flow.proofs.Table.{cut_of}
use Rattle.flow.proofs.TotalsBack.{total_of_result}
use Rattle.flow.proofs.WordsBack.{copies, follows_both, with_program}
use Rattle.flow_forms.specs.AsBase.{as_base, HasBaseResult}
use Rattle.flow_forms.specs.DiagonalForm.{IsDiagonalRun, DiagonalEndsAsBase, DiagonalFlow, DiagonalKeepsLabels, FileDiagonalEndsAsBase, FileDiagonalFlow, diagonal_layout_of, labels_of}
use Rattle.flow_forms.specs.Ends.{EndsWith}
use Rattle.flow_forms.proofs.AsBase.{base_run}
use Rattle.flow_forms.proofs.BlockCounts.{count_of_blocks}
use Rattle.flow_forms.proofs.Held.{forms_keep_iterations}
use Rattle.flow_forms.proofs.Says.{said_is}
use Rattle.flow_forms.proofs.Table.{blocks_made, diagonal_goes, diagonal_sender, matrix_made, result_made, vectors_made, words_of}
use Rattle.flow_forms.proofs.WordsBack.{block_words, follows_diag1, follows_hcc}

of_components : (command : Command) → has_form command Diagonal ≡ true → command ≡ Hcc
of_components Plain is = absurd (false≢true is)
of_components Hcc is = refl
of_components Hadi is = absurd (false≢true is)
of_components PageRank is = absurd (false≢true is)

turned_bit : (b : Bool) → ◌≡◌ {A = ℕ} (cond b 0 1) (cond (not b) 1 0)
turned_bit true = refl
turned_bit false = refl

-- the sum of a folder's changes is the number of labels that changed
changes_are : (len : ℕ) (edges : List Edge) (conf : Conf) (k : ℕ) → changed_in (labels_of (record conf { block = len }) edges) conf.nodes k ≡ diagonal_changed len edges conf.nodes k
changes_are len edges conf zero = ones 0 conf.nodes
changes_are len edges conf (suc k) =
    let same : ℕ → Bool = λ i. hcc.same (diagonal_after len edges (suc k) i) (diagonal_after len edges k i) in
    let nodes = range_with_len 0 conf.nodes in
    sum_agree (λ i. cond (same i) 0 1) (λ i. cond (not (same i)) 1 0) nodes (all_each (λ i. ◌≡◌ {A = ℕ} (cond (same i) 0 1) (cond (not (same i)) 1 0)) (λ i. turned_bit (same i)) nodes)

module _ (vectors_law : DiagonalVectorsAreLabels) (fit_law : DiagonalLabelsFit) (gives : Giving) (children : FollowsChildren gives) (conf : Conf) (run : IsDiagonalRun conf) (edges : List Edge) (good : AreCountable conf.nodes edges) where
  is_hcc : conf.command ≡ Hcc
  is_hcc =
      let apart : conf.form ≢ Base = λ same. let both : Diagonal ≡ Base = sym run.form ∙ same in cc in
      of_components conf.command (subst (λ (form : Form). has_form conf.command form ≡ true) run.form (run.limits.form apart))

  few : conf.nodes ≤ 2 ^ 32
  few = let low = run.limits.nodes.1 in omega arith

  is_cut : IsCut (cut_of conf)
  is_cut = record { some_bytes = run.limits.split.0; some_reducers = run.limits.reducers.0 }

  roles : FollowsBlockRoles gives hcc_algebra conf.block conf.nodes (block_words conf)
  roles = follows_hcc gives children conf run.limits.nodes.0 run.limits.nodes.1 run.limits.block.0 run.limits.block.1 is_hcc

  diagonal_roles : FollowsDiagonalRoles gives hcc_algebra label_as_message conf.block conf.nodes (words_of conf (diagonal_sender conf))
  diagonal_roles = record {
    copy = roles.copy;
    group = roles.group;
    firstb = roles.firstb;
    diag1 = follows_diag1 gives children conf run.limits.nodes.0 run.limits.nodes.1 run.limits.block.0 run.limits.block.1;
    block2 = roles.block2;
  }

  abbrev s : Sequence
  s = labels_of conf edges

  abbrev labels : ℕ → Vector ℕ
  labels = diagonal_after conf.block edges

  -- ---- vectors

  matrix_is : flow (mining_of gives conf edges) Matrix ≡ job_by gives (cut_of conf) (with_program (matrix_map Hcc conf.sym)) (with_program (matrix_reduce Hcc)) (text_of edges ∷ [])
  matrix_is =
      matrix_made gives conf Diagonal run.form (diagonal_sender conf) (diagonal_goes conf) edges
      ∙ ap (λ (c : Command). job_by gives (cut_of conf) (with_program (matrix_map c conf.sym)) (with_program (matrix_reduce c)) (text_of edges ∷ [])) is_hcc

  blocks : HasBlocks hcc_algebra one_number conf.block conf.nodes (hcc_entries edges) (flow (mining_of gives conf edges) Blocks)
  blocks =
      let matrix = same_matrix hcc_algebra one_number conf.nodes (hcc_entries edges) _ _ (sym matrix_is)
      (one_matrix gives (block_words conf).copy (copies gives children) (cut_of conf) is_cut.some_bytes is_cut.some_reducers conf.nodes few edges good.below hcc_algebra hcc_is_lawful (λ w. refl) one_back true (with_program (matrix_map Hcc true)) (follows_both gives children)) in
      subst (HasBlocks hcc_algebra one_number conf.block conf.nodes (hcc_entries edges)) (sym (blocks_made gives conf Diagonal run.form (diagonal_sender conf) (diagonal_goes conf) edges))
      (blocks_hold_entries gives conf.block run.limits.block.0 (block_words conf).cut (block_words conf).blocks roles.cut roles.blocks (cut_of conf) is_cut hcc_algebra one_number conf.nodes few (hcc_entries edges) (flow (mining_of gives conf edges) Matrix) matrix)

  abbrev folder : ℕ → List (List ℕ)
  folder k = flow (mining_of gives conf edges) (VectorOf k)

  vectors_are : (k : ℕ) → folder k ≡ diagonal_layout_of conf edges k
  vectors_are =
      vectors_law gives conf.block conf.nodes (record { some = run.limits.block.0; few = run.limits.block.1 }) few (words_of conf (diagonal_sender conf)) diagonal_roles (cut_of conf) is_cut edges (flow (mining_of gives conf edges) Blocks) blocks folder
      (vectors_made gives conf Diagonal run.form (diagonal_sender conf) (diagonal_goes conf) edges)

  fit : (k : ℕ) → VectorFits hcc_algebra (first_nodes conf.nodes) (labels k)
  fit = fit_law conf.block conf.nodes few edges blocks.fit

  counts : (k : ℕ) → count_of (mining_of gives conf edges) k ≡ Some (changed_in s conf.nodes k)
  counts k =
      ap changes_in (sym (vector_flow (mining_of gives conf edges) k) ∙ vectors_are k)
      ∙ count_of_blocks gives hcc_algebra hcc_is_lawful conf.block conf.nodes run.limits.block.0 run.limits.block.1 few (block_words conf) roles (cut_of conf) is_cut.some_bytes is_cut.some_reducers (λ v fits. decimal_some v (ltb-true v (2 ^ 64) fits)) labels fit k

  changed_is : (k : ℕ) → changed_in s conf.nodes k ≡ diagonal_changed conf.block edges conf.nodes k
  changed_is = changes_are conf.block edges conf

  results : (k : ℕ) → job_by gives (cut_of conf) (block_words conf).unblock (block_words conf).copy (folder k) ≡ result_parts s conf.nodes conf.reducers k
  results k =
      ap (job_by gives (cut_of conf) (block_words conf).unblock (block_words conf).copy) (vectors_are k)
      ∙ results_are gives hcc_algebra hcc_is_lawful conf.block conf.nodes run.limits.block.0 run.limits.block.1 few (block_words conf) roles (cut_of conf) is_cut.some_bytes is_cut.some_reducers labels fit k

  -- ---- the last iteration

  module _ (ends_law : DiagonalEndsAtLeast) where
    abbrev own_end : DiagonalEnds conf.nodes conf.block edges
    own_end = ends_law conf.nodes conf.block edges run.limits.nodes.0 (let low = run.limits.nodes.1 in omega arith) good.below

    abbrev passes : ℕ → Bool
    passes k = leb 1 k && (eqb (diagonal_changed conf.block edges conf.nodes k) 0 || false)

    end_is : (k : ℕ) → is_end conf k (count_of (mining_of gives conf edges) k) ≡ passes k
    end_is k =
        let m = diagonal_changed conf.block edges conf.nodes k in
        ap (is_end conf k) (counts k ∙ ap Some (changed_is k))
        ∙ ap (λ (c : Command). leb 1 k && ((ends_unchanged c && is_unchanged (Some m)) || (ends_at_most c && eqb k (most_of conf c)))) is_hcc

    passes_last : passes own_end.last ≡ true
    passes_last =
        let low : leb 1 own_end.last ≡ true = le-leb 1 own_end.last own_end.made in
        let none : eqb (diagonal_changed conf.block edges conf.nodes own_end.last) 0 ≡ true = eq-eqb (diagonal_changed conf.block edges conf.nodes own_end.last) 0 own_end.unchanged in
        rw (low, none) refl

    unchanged_at : (k : ℕ) → passes k ≡ true → diagonal_changed conf.block edges conf.nodes k ≡ 0
    unchanged_at k is =
        let m = diagonal_changed conf.block edges conf.nodes k in
        let tail : (eqb m 0 || false) ≡ true = (and_parts (leb 1 k) (eqb m 0 || false) is).1 in
        elim (cases_Bool (eqb m 0)) [
          | inl none ↦ eqb-true m 0 none
          | inr some ↦ absurd (false≢true (rw some at tail))
        ]

    found : IsFound passes 1 conf.nodes own_end.last
    found = found_up_to passes 1 conf.nodes own_end.last own_end.made (let soon = own_end.soon in omega arith) passes_last

    found_last : found.at ≡ own_end.last
    found_last =
        elim (cases_lt found.at own_end.last) [
          | inl less ↦ absurd (own_end.earlier found.at found.low less (unchanged_at found.at found.passes))
          | inr ge ↦ let high = found.high in omega arith
        ]

    most_is : most_of conf conf.command ≡ conf.nodes
    most_is = ap (most_of conf) is_hcc

    is_last : last_of (mining_of gives conf edges) ≡ Some own_end.last
    unfolding last_of
    is_last =
        find_agree (λ k. is_end conf k (count_of (mining_of gives conf edges) k)) passes (range_with_len 1 (most_of conf conf.command)) end_is
        ∙ ap (λ (most : ℕ). find passes (range_with_len 1 most)) most_is
        ∙ found.found ∙ ap Some found_last

    first : IsLast conf (changed_in s conf.nodes) own_end.last
    first = record {
      made = own_end.made;
      ends = subst (λ (c : Command). EndsAt c conf (changed_in s conf.nodes own_end.last) own_end.last) (sym is_hcc) (changed_is own_end.last ∙ own_end.unchanged);
      earlier = λ j low less at. own_end.earlier j low less (sym (changed_is j) ∙ subst (λ (c : Command). EndsAt c conf (changed_in s conf.nodes j) j) is_hcc at);
    }

    -- ---- the result

    result_is : flow (mining_of gives conf edges) Results ≡ result_parts s conf.nodes conf.reducers own_end.last
    result_is =
        result_made gives conf Diagonal run.form (diagonal_sender conf) (diagonal_goes conf) edges
        ∙ results (unwrap_or (last_of (mining_of gives conf edges)) 0)
        ∙ ap (λ (l : Option ℕ). result_parts s conf.nodes conf.reducers (unwrap_or l 0)) is_last

    number_small : (i : ℕ) → i < conf.nodes → s.number own_end.last i < 2 ^ 64
    number_small i low = hcc_is_lawful.number_fits (labels own_end.last i) (fit own_end.last i (lt-ltb i conf.nodes low))

    numbers_hold : Holds (result_parts s conf.nodes conf.reducers own_end.last) (map (number_pair s own_end.last) (range_with_len 0 conf.nodes))
    numbers_hold =
        holds_parts conf.reducers (map (number_pair s own_end.last) (range_with_len 0 conf.nodes)) is_cut.some_reducers
        (All-map IsPlain (number_pair s own_end.last) (range_with_len 0 conf.nodes) (all_below conf.nodes (λ i. IsPlain (number_pair s own_end.last i)) (λ i low. numbered_plain i (s.number own_end.last i) (omega (arith, low, few)) (number_small i low))))

    total_is : total_in conf.command (flow (mining_of gives conf edges) Results) ≡ Some (total_by conf.command s conf.nodes own_end.last)
    total_is = ap (total_in conf.command) result_is ∙ total_of_result s conf.nodes conf.reducers own_end.last few number_small numbers_hold conf.command

    -- numbers that are the least labels too are those of the result
    same_numbers : (number : ℕ → ℕ) → ((i : ℕ) → i < conf.nodes → labels own_end.last i ≡ number i) → result_parts s conf.nodes conf.reducers own_end.last ≡ parts_of_numbers conf number
    same_numbers number same =
        ap (parts_with conf.reducers) (map_agree (number_pair s own_end.last) (λ node. (decimal node, decimal (number node))) (range_with_len 0 conf.nodes) (all_below conf.nodes (λ i. number_pair s own_end.last i ≡ (decimal i, decimal (number i))) (λ i low. ap (λ (label : ℕ). (decimal i, decimal label)) (same i low))))

    ends_with : EndsWith gives conf edges s
    ends_with = record {
      last = own_end.last;
      is_last = is_last;
      first = first;
      soon = subst (λ (most : ℕ). own_end.last ≤ most) (sym most_is) own_end.soon;
      result = result_is;
      total = total_is;
      says = said_is gives conf edges s counts own_end.last total_is;
      least = λ is found' are. same_numbers (λ node. get_or found' node 0) (λ i low. IsLeast-unique edges i (labels own_end.last i) (get_or found' i 0) (own_end.least i low) (are.least i low));
      radii = λ is radius are. let both : Hcc ≡ Hadi = sym is_hcc ∙ is in cc;
    }

    -- ---- the result of the base form

    abbrev base : Conf
    base = as_base conf

    mines : is_mining conf.command ≡ true
    mines = ap is_mining is_hcc

    base_is : IsBaseRun base
    base_is = base_run conf run.limits mines

    has_base : HasResult gives base edges
    has_base = base_result gives children base base_is edges good

    abbrev plain_ends : EndsAtLeast conf.nodes edges
    plain_ends = ends base base_is edges good

    base_numbers : flow (mining_of gives base edges) Results ≡ parts_of_numbers conf (iterate hcc (hcc_entries edges) has_base.last)
    base_numbers = has_base.result ∙ ap (λ (c : Command). result_parts (iterates_by c base edges) conf.nodes conf.reducers has_base.last) is_hcc

    has_base_result : HasBaseResult gives conf edges
    has_base_result =
        let late : has_base.last ≡ plain_ends.last = hcc_last base base_is edges good is_hcc has_base.last has_base.first in
        result_is
        ∙ same_numbers (iterate hcc (hcc_entries edges) has_base.last) (λ i low. IsLeast-unique edges i (labels own_end.last i) (iterate hcc (hcc_entries edges) has_base.last i) (own_end.least i low) (plain_ends.least has_base.last (omega (arith, late)) i low))
        ∙ sym base_numbers

pub diagonal_flow : DiagonalVectorsAreLabels → DiagonalLabelsFit → DiagonalFlow
diagonal_flow vectors_law fit_law gives children conf run edges good k = record {
  vector = vectors_are vectors_law fit_law gives children conf run edges good k;
  count = counts vectors_law fit_law gives children conf run edges good k ∙ ap Some (changed_is vectors_law fit_law gives children conf run edges good k);
}

pub diagonal_ends_as_base : DiagonalVectorsAreLabels → DiagonalLabelsFit → DiagonalEndsAtLeast → DiagonalEndsAsBase
diagonal_ends_as_base vectors_law fit_law ends_law gives children conf run edges good = record {
  ends = ends_with vectors_law fit_law gives children conf run edges good ends_law;
  result = has_base_result vectors_law fit_law gives children conf run edges good ends_law;
}

pub diagonal_keeps_labels : DiagonalVectorsAreLabels → DiagonalLabelsFit → DiagonalEndsAtLeast → DiagonalKeepsLabels
diagonal_keeps_labels vectors_law fit_law ends_law gives children conf run edges good =
    forms_keep_iterations gives conf run.limits edges (labels_of conf edges) (diagonal_ends_as_base vectors_law fit_law ends_law gives children conf run edges good).ends (diagonal_layout_of conf edges) (vectors_are vectors_law fit_law gives children conf run edges good)

pub file_diagonal_flow : DiagonalVectorsAreLabels → DiagonalLabelsFit → FileDiagonalFlow
file_diagonal_flow vectors_law fit_law gives children conf run bytes k = diagonal_flow vectors_law fit_law gives children conf run (edges_of conf.nodes bytes).edges (file_edges_are_countable conf.nodes bytes) k

pub file_diagonal_ends_as_base : DiagonalVectorsAreLabels → DiagonalLabelsFit → DiagonalEndsAtLeast → FileDiagonalEndsAsBase
file_diagonal_ends_as_base vectors_law fit_law ends_law gives children conf run bytes =
    diagonal_ends_as_base vectors_law fit_law ends_law gives children conf run (edges_of conf.nodes bytes).edges (file_edges_are_countable conf.nodes bytes)
