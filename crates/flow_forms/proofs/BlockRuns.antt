-- The block form of the three commands.
use Rattle.std.proofs.Common.{◌≡◌, refl, sym, ap, ◌∙◌, subst, true, ℕ, ◌-◌, ◌≤◌, ◌^◌, List, [], ◌∷◌, Some, arith, codes}
use Rattle.std.specs.Prelude.{unwrap_or}
use Rattle.std.proofs.lemmas.Bool.{false≢true, ltb-true}
use Rattle.graph.specs.declared.edges.Edge.{Edge}
use Rattle.graph.specs.Entries.{Entry, hcc_entries, page_rank_entries, hadi_entries}
use Rattle.graph.specs.Steps.{Vector, iterate}
use Rattle.gimv_core.specs.Algebras.{Algebra, FitsVal, VectorFits}
use Rattle.gimv_core.specs.Consequences.{first_nodes}
use Rattle.gimv_core.specs.Laws.{IsLawful}
use Rattle.hcc.specs.Components.{hcc_algebra}
use Rattle.hcc.specs.Lawful.{hcc_is_lawful}
use Rattle.pagerank.specs.Ranks.{page_rank_algebra}
use Rattle.pagerank.specs.Lawful.{page_rank_is_lawful}
use Rattle.hadi.specs.Hadi.{hadi_algebra}
use Rattle.hadi.specs.Lawful.{hadi_is_lawful}
use Rattle.edge_text.specs.Edges.{edges_of, text_of}
use Rattle.conf.specs.declared.commands.Command.{Command}
use Rattle.conf.specs.declared.commands.Command.TheVariants.{Plain, Hcc, Hadi, PageRank}
use Rattle.conf.specs.declared.commands.Form.TheVariants.{Block}
use Rattle.conf.specs.declared.reading.Conf.{Conf}
use Rattle.conf.specs.Commands.{is_mining}
use Rattle.mining.specs.declared.place.Place.TheVariants.{Blocks, Matrix, Results, Vector as VectorOf}
use Rattle.mining.specs.Table.{matrix_map, matrix_reduce, over_blocks}
use Rattle.mining.specs.Flow.{mining_of, flow, count_of, changes_in, last_of}
use Rattle.mining.proofs.Flows.{vector_flow}
use Rattle.flow_core.specs.Following.{Giving}
use Rattle.flow_core.specs.Jobs.{job_by}
use Rattle.flow_base.specs.Laws.{IsCut}
use Rattle.flow_base.specs.Layouts.{Sequence, sequence, result_parts, changed_in}
use Rattle.flow_base.specs.Matrices.{HasMatrix, one_number}
use Rattle.flow_base.proofs.MatrixFolders.{same_matrix, one_matrix, rank_matrix}
use Rattle.flow_base.proofs.SomeTexts.{decimal_some, one_back, words_some}
use Rattle.flow_block.specs.BlockFolders.{HasBlocks}
use Rattle.flow_block.specs.BlockLayouts.{block_layout}
use Rattle.flow_block.specs.BlockRoles.{FollowsBlockRoles}
use Rattle.flow_block.proofs.BlockChain.{layouts_are, results_are, vectors_fit}
use Rattle.flow_block.proofs.BlockFolder.{blocks_hold_entries}
use Rattle.flow.specs.Children.{FollowsChildren}
use Rattle.flow.specs.Iterates.{iterates_by, iterates_of}
use Rattle.flow.specs.Laws.{AreCountable}
use Rattle.flow.proofs.Files.{file_edges_are_countable}
use Rattle.flow.proofs.Table.{cut_of}
use Rattle.flow.proofs.WordsBack.{with_program, copies, follows_both, follows_sides, follows_degrees}
use Rattle.flow_forms.specs.AsBase.{TellsIterates}
use Rattle.flow_forms.specs.BlockForm.{IsBlockRun, block_layout_of, BlockEndsAsBase, BlockFlow, BlockKeepsIterates, FileBlockEndsAsBase, FileBlockFlow}
use Rattle.flow_forms.proofs.AsBase.{forms_end_as_base}
use Rattle.flow_forms.proofs.BlockCounts.{count_of_blocks}
use Rattle.flow_forms.proofs.Held.{forms_keep_iterations}
use Rattle.flow_forms.proofs.Table.{block_goes, blocks_made, matrix_made, result_made, vectors_made}
use Rattle.flow_forms.proofs.WordsBack.{block_words, follows_hadi, follows_hcc, follows_page_rank}

-- what the flow has, of a sequence of vectors
pub record HasBlockSequence (gives : Giving) (conf : Conf) (edges : List Edge) (s : Sequence) : Type 0 where
  pub vector : (k : ℕ) → flow (mining_of gives conf edges) (VectorOf k) ≡ block_layout s conf.block conf.nodes conf.reducers k
  pub count : (k : ℕ) → count_of (mining_of gives conf edges) k ≡ Some (changed_in s conf.nodes k)
  pub result : flow (mining_of gives conf edges) Results ≡ result_parts s conf.nodes conf.reducers (unwrap_or (last_of (mining_of gives conf edges)) 0)

module _ (gives : Giving) (children : FollowsChildren gives) (conf : Conf) (run : IsBlockRun conf) (edges : List Edge) (good : AreCountable conf.nodes edges) where
  some_nodes : 1 ≤ conf.nodes
  some_nodes = run.limits.nodes.0

  few_nodes : conf.nodes ≤ 2 ^ 30
  few_nodes = run.limits.nodes.1

  few : conf.nodes ≤ 2 ^ 32
  few = let low = few_nodes in omega arith

  some_length : 1 ≤ conf.block
  some_length = run.limits.block.0

  short : conf.block ≤ 256
  short = run.limits.block.1

  is_cut : IsCut (cut_of conf)
  is_cut = record { some_bytes = run.limits.split.0; some_reducers = run.limits.reducers.0 }

  -- from a matrix that holds the entries to the iterates
  module _ {Val Msg Weight : Type 0} (a : Algebra Val Msg Weight) (laws : IsLawful a) (some_text : (v : Val) → FitsVal a v → (a.val_text v ≡ [] → ⊥))
      (follows : FollowsBlockRoles gives a conf.block conf.nodes (block_words conf))
      (number : Weight → ℕ) (entries : List (Entry Weight)) (matrix : HasMatrix a number conf.nodes entries (flow (mining_of gives conf edges) Matrix)) where
    abbrev vectors : ℕ → Vector Val
    vectors k = iterate a.algorithm entries k

    abbrev s : Sequence
    s = sequence a vectors

    abbrev folder : ℕ → List (List ℕ)
    folder k = flow (mining_of gives conf edges) (VectorOf k)

    abbrev last : ℕ
    last = unwrap_or (last_of (mining_of gives conf edges)) 0

    blocks : HasBlocks a number conf.block conf.nodes entries (flow (mining_of gives conf edges) Blocks)
    blocks =
        subst (HasBlocks a number conf.block conf.nodes entries) (sym (blocks_made gives conf Block run.form (over_blocks conf (codes "block1")) (block_goes conf) edges))
        (blocks_hold_entries gives conf.block some_length (block_words conf).cut (block_words conf).blocks follows.cut follows.blocks (cut_of conf) is_cut a number conf.nodes few entries (flow (mining_of gives conf edges) Matrix) matrix)

    vectors_are : (k : ℕ) → folder k ≡ block_layout s conf.block conf.nodes conf.reducers k
    vectors_are =
        layouts_are gives a laws conf.block conf.nodes some_length short few (block_words conf) follows (cut_of conf) is_cut.some_bytes is_cut.some_reducers number entries (flow (mining_of gives conf edges) Blocks) blocks (λ p. p) (λ p low. low) folder (vectors_made gives conf Block run.form (over_blocks conf (codes "block1")) (block_goes conf) edges)

    fit : (k : ℕ) → VectorFits a (first_nodes conf.nodes) (vectors k)
    fit =
        vectors_fit gives a laws conf.block conf.nodes some_length short few (block_words conf) follows (cut_of conf) is_cut.some_bytes is_cut.some_reducers number entries (flow (mining_of gives conf edges) Blocks) blocks (λ p. p) (λ p low. low)

    has_sequence : HasBlockSequence gives conf edges s
    has_sequence = record {
      vector = vectors_are;
      count = λ k. ap changes_in (sym (vector_flow (mining_of gives conf edges) k) ∙ vectors_are k)
          ∙ count_of_blocks gives a laws conf.block conf.nodes some_length short few (block_words conf) follows (cut_of conf) is_cut.some_bytes is_cut.some_reducers some_text vectors fit k;
      result = result_made gives conf Block run.form (over_blocks conf (codes "block1")) (block_goes conf) edges
          ∙ ap (job_by gives (cut_of conf) (block_words conf).unblock (block_words conf).copy) (vectors_are last)
          ∙ results_are gives a laws conf.block conf.nodes some_length short few (block_words conf) follows (cut_of conf) is_cut.some_bytes is_cut.some_reducers vectors fit last;
    }

  -- the matrix of a command
  matrix_by : (command : Command) → conf.command ≡ command → flow (mining_of gives conf edges) Matrix ≡ job_by gives (cut_of conf) (with_program (matrix_map command conf.sym)) (with_program (matrix_reduce command)) (text_of edges ∷ [])
  matrix_by command is =
      matrix_made gives conf Block run.form (over_blocks conf (codes "block1")) (block_goes conf) edges
      ∙ ap (λ (c : Command). job_by gives (cut_of conf) (with_program (matrix_map c conf.sym)) (with_program (matrix_reduce c)) (text_of edges ∷ [])) is

  hcc_sequence : conf.command ≡ Hcc → HasBlockSequence gives conf edges (iterates_by Hcc conf edges)
  hcc_sequence is =
      has_sequence hcc_algebra hcc_is_lawful (λ v fits. decimal_some v (ltb-true v (2 ^ 64) fits)) (follows_hcc gives children conf some_nodes few_nodes some_length short is) one_number (hcc_entries edges)
      (same_matrix hcc_algebra one_number conf.nodes (hcc_entries edges) _ _ (sym (matrix_by Hcc is))
      (one_matrix gives (block_words conf).copy (copies gives children) (cut_of conf) is_cut.some_bytes is_cut.some_reducers conf.nodes few edges good.below hcc_algebra hcc_is_lawful (λ w. refl) one_back true (with_program (matrix_map Hcc true)) (follows_both gives children)))

  hadi_sequence : conf.command ≡ Hadi → HasBlockSequence gives conf edges (iterates_by Hadi conf edges)
  hadi_sequence is =
      let a = hadi_algebra conf.seed in
      let most : conf.seed ≤ 2 ^ 64 - 1 = run.limits.seed.1 in
      has_sequence a (hadi_is_lawful conf.seed) words_some (follows_hadi gives children conf some_nodes few_nodes some_length short is (omega arith)) one_number (hadi_entries conf.sym edges)
      (same_matrix a one_number conf.nodes (hadi_entries conf.sym edges) _ _ (sym (matrix_by Hadi is))
      (one_matrix gives (block_words conf).copy (copies gives children) (cut_of conf) is_cut.some_bytes is_cut.some_reducers conf.nodes few edges good.below a (hadi_is_lawful conf.seed) (λ w. refl) one_back conf.sym (with_program (matrix_map Hadi conf.sym)) (follows_sides gives children conf.sym)))

  page_rank_sequence : conf.command ≡ PageRank → HasBlockSequence gives conf edges (iterates_by PageRank conf edges)
  page_rank_sequence is =
      let a = page_rank_algebra conf.nodes in
      has_sequence a (page_rank_is_lawful conf.nodes) (λ v fits. decimal_some v (ltb-true v (2 ^ 64) fits)) (follows_page_rank gives children conf some_nodes few_nodes some_length short is) (λ m. m) (page_rank_entries edges)
      (same_matrix a (λ m. m) conf.nodes (page_rank_entries edges) _ _ (sym (matrix_by PageRank is))
      (rank_matrix gives (block_words conf).copy (copies gives children) (cut_of conf) is_cut.some_bytes is_cut.some_reducers conf.nodes few edges good.below good.few (with_program (matrix_reduce PageRank)) (follows_degrees gives children)))

  by_command : (command : Command) → conf.command ≡ command → is_mining command ≡ true → HasBlockSequence gives conf edges (iterates_by command conf edges)
  by_command Plain is mines = absurd (false≢true mines)
  by_command Hcc is mines = hcc_sequence is
  by_command Hadi is mines = hadi_sequence is
  by_command PageRank is mines = page_rank_sequence is

  command_sequence : HasBlockSequence gives conf edges (iterates_of conf edges)
  command_sequence = by_command conf.command refl run.mines

  pub tells_iterates : TellsIterates gives conf edges
  tells_iterates = record { counts = command_sequence.count; result = command_sequence.result }

pub block_flow : BlockFlow
block_flow gives children conf run edges good k =
    let has = command_sequence gives children conf run edges good in record { vector = has.vector k; count = has.count k }

pub block_ends_as_base : BlockEndsAsBase
block_ends_as_base gives children conf run edges good = forms_end_as_base gives children conf run.limits run.mines edges good (tells_iterates gives children conf run edges good)

pub block_keeps_iterates : BlockKeepsIterates
block_keeps_iterates gives children conf run edges good =
    forms_keep_iterations gives conf run.limits edges (iterates_of conf edges) (block_ends_as_base gives children conf run edges good).ends (block_layout_of conf edges) (λ k. (block_flow gives children conf run edges good k).vector)

pub file_block_flow : FileBlockFlow
file_block_flow gives children conf run bytes k = block_flow gives children conf run (edges_of conf.nodes bytes).edges (file_edges_are_countable conf.nodes bytes) k

pub file_block_ends_as_base : FileBlockEndsAsBase
file_block_ends_as_base gives children conf run bytes = block_ends_as_base gives children conf run (edges_of conf.nodes bytes).edges (file_edges_are_countable conf.nodes bytes)
