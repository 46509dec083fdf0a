-- The base form of the three commands.
use Rattle.std.proofs.Common.{◌≡◌, refl, sym, ap, ◌∙◌, true, ℕ, ◌-◌, ◌≤◌, ◌^◌, List, [], ◌∷◌, Some, arith}
use Rattle.std.specs.Prelude.{unwrap_or}
use Rattle.std.proofs.lemmas.Bool.{false≢true, lt-ltb, ltb-true}
use Rattle.graph.specs.declared.edges.Edge.{Edge}
use Rattle.graph.specs.Entries.{Entry, hcc_entries, page_rank_entries, hadi_entries}
use Rattle.graph.specs.Steps.{iterate}
use Rattle.gimv_core.specs.Algebras.{Algebra, FitsVal}
use Rattle.gimv_core.specs.Laws.{IsLawful}
use Rattle.hcc.specs.Components.{hcc_algebra}
use Rattle.hcc.specs.Lawful.{hcc_is_lawful}
use Rattle.pagerank.specs.Ranks.{page_rank_algebra}
use Rattle.pagerank.specs.Lawful.{page_rank_is_lawful}
use Rattle.hadi.specs.Hadi.{hadi_algebra}
use Rattle.hadi.specs.Lawful.{hadi_is_lawful}
use Rattle.edge_text.specs.Edges.{text_of}
use Rattle.conf.specs.declared.commands.Command.{Command}
use Rattle.conf.specs.declared.commands.Command.TheVariants.{Plain, Hcc, Hadi, PageRank}
use Rattle.conf.specs.declared.reading.Conf.{Conf}
use Rattle.conf.specs.Commands.{is_mining}
use Rattle.mining.specs.declared.place.Place.TheVariants.{Matrix, Vector, Results}
use Rattle.mining.specs.Table.{matrix_map, matrix_reduce}
use Rattle.mining.specs.Flow.{mining_of, flow, count_of, changes_in, last_of, total_in}
use Rattle.mining.proofs.Flows.{vector_flow}
use Rattle.flow_core.specs.Following.{Giving}
use Rattle.flow_core.specs.Jobs.{job_by}
use Rattle.flow_base.specs.Layouts.{Sequence, sequence, layout, result_parts, changed_in}
use Rattle.flow_base.specs.Roles.{FollowsRoles}
use Rattle.flow.specs.Children.{FollowsChildren}
use Rattle.flow.specs.Iterates.{IsBaseRun, iterates_by, iterates_of, total_by}
use Rattle.flow.specs.Laws.{AreCountable, BaseFlow}
use Rattle.flow_base.proofs.MatrixFolders.{same_matrix, one_matrix, rank_matrix}
use Rattle.flow_base.proofs.SomeTexts.{decimal_some, one_back, words_some}
use Rattle.flow_base.proofs.Chain.{layouts_are, heads_hold, changes_few, vectors_fit, number_small, numbers_hold, results_are}
use Rattle.flow.proofs.CountsBack.{count_of_layout}
use Rattle.flow.proofs.TotalsBack.{total_of_result}
use Rattle.flow.proofs.WordsBack.{with_program, words_for, copies, follows_hcc, follows_page_rank, follows_hadi, follows_both, follows_sides, follows_degrees}
use Rattle.flow.proofs.Table.{cut_of, matrix_made, first_made, next_made, result_made}
use Rattle.flow_base.specs.Matrices.{HasMatrix, one_number}

-- what the flow has, of a sequence of vectors
pub record HasSequence (gives : Giving) (conf : Conf) (edges : List Edge) (s : Sequence) : Type 0 where
  pub vector : (k : ℕ) → flow (mining_of gives conf edges) (Vector k) ≡ layout s conf.nodes conf.reducers k
  pub count : (k : ℕ) → count_of (mining_of gives conf edges) k ≡ Some (changed_in s conf.nodes k)
  pub result : flow (mining_of gives conf edges) Results ≡ result_parts s conf.nodes conf.reducers (unwrap_or (last_of (mining_of gives conf edges)) 0)
  pub total : (command : Command) → total_in command (flow (mining_of gives conf edges) Results) ≡ Some (total_by command s conf.nodes (unwrap_or (last_of (mining_of gives conf edges)) 0))

module _ (gives : Giving) (children : FollowsChildren gives) (conf : Conf) (run : IsBaseRun conf) (edges : List Edge) (good : AreCountable conf.nodes edges) where
  pub some_nodes : 1 ≤ conf.nodes
  some_nodes = run.limits.nodes.0

  pub few_nodes : conf.nodes ≤ 2 ^ 30
  few_nodes = run.limits.nodes.1

  few : conf.nodes ≤ 2 ^ 32
  few = let low = few_nodes in omega arith

  some_bytes : 1 ≤ conf.split
  some_bytes = run.limits.split.0

  some_reducers : 1 ≤ conf.reducers
  some_reducers = run.limits.reducers.0

  -- from a matrix that holds the entries to the iterates
  module _ {Val Msg Weight : Type 0} (a : Algebra Val Msg Weight) (laws : IsLawful a) (some_text : (v : Val) → FitsVal a v → (a.val_text v ≡ [] → ⊥)) (follows : FollowsRoles gives a conf.nodes (words_for conf))
      (number : Weight → ℕ) (entries : List (Entry Weight)) (matrix : HasMatrix a number conf.nodes entries (flow (mining_of gives conf edges) Matrix)) where
    abbrev s : Sequence
    s = sequence a (iterate a.algorithm entries)

    abbrev folder : ℕ → List (List ℕ)
    folder k = flow (mining_of gives conf edges) (Vector k)

    abbrev last : ℕ
    last = unwrap_or (last_of (mining_of gives conf edges)) 0

    vectors_are : (k : ℕ) → folder k ≡ layout s conf.nodes conf.reducers k
    vectors_are =
        layouts_are gives a laws conf.nodes few (words_for conf) follows (cut_of conf) some_bytes some_reducers number entries matrix.good (flow (mining_of gives conf edges) Matrix) matrix.holds folder (first_made gives conf run.form edges) (next_made gives conf run.form edges)

    result_is : flow (mining_of gives conf edges) Results ≡ result_parts s conf.nodes conf.reducers last
    result_is =
        result_made gives conf run.form edges
        ∙ results_are gives a laws conf.nodes few (words_for conf) follows (cut_of conf) some_bytes some_reducers number entries matrix.good (flow (mining_of gives conf edges) Matrix) matrix.holds last (folder last) (vectors_are last)

    has_sequence : HasSequence gives conf edges s
    has_sequence = record {
      vector = vectors_are;
      count = λ k. ap changes_in (sym (vector_flow (mining_of gives conf edges) k) ∙ vectors_are k)
          ∙ count_of_layout s conf.nodes conf.reducers k few (changes_few gives a laws conf.nodes few (words_for conf) follows (cut_of conf) some_bytes some_reducers number entries matrix.good (flow (mining_of gives conf edges) Matrix) matrix.holds k) (λ i low. some_text (iterate a.algorithm entries k i) (vectors_fit gives a laws conf.nodes few (words_for conf) follows (cut_of conf) some_bytes some_reducers number entries matrix.good (flow (mining_of gives conf edges) Matrix) matrix.holds k i (lt-ltb i conf.nodes low)))
          (heads_hold gives a laws conf.nodes few (words_for conf) follows (cut_of conf) some_bytes some_reducers number entries matrix.good (flow (mining_of gives conf edges) Matrix) matrix.holds k);
      result = result_is;
      total = λ command. ap (total_in command) result_is
          ∙ total_of_result s conf.nodes conf.reducers last few (number_small gives a laws conf.nodes few (words_for conf) follows (cut_of conf) some_bytes some_reducers number entries matrix.good (flow (mining_of gives conf edges) Matrix) matrix.holds last)
          (numbers_hold gives a laws conf.nodes few (words_for conf) follows (cut_of conf) some_bytes some_reducers number entries matrix.good (flow (mining_of gives conf edges) Matrix) matrix.holds last) command;
    }

  -- the matrix of a command
  matrix_by : (command : Command) → conf.command ≡ command → flow (mining_of gives conf edges) Matrix ≡ job_by gives (cut_of conf) (with_program (matrix_map command conf.sym)) (with_program (matrix_reduce command)) (text_of edges ∷ [])
  matrix_by command is =
      matrix_made gives conf run.form edges
      ∙ ap (λ (c : Command). job_by gives (cut_of conf) (with_program (matrix_map c conf.sym)) (with_program (matrix_reduce c)) (text_of edges ∷ [])) is

  pub hcc_sequence : conf.command ≡ Hcc → HasSequence gives conf edges (iterates_by Hcc conf edges)
  hcc_sequence is =
      has_sequence hcc_algebra hcc_is_lawful (λ v fits. decimal_some v (ltb-true v (2 ^ 64) fits)) (follows_hcc gives children conf some_nodes few_nodes is) one_number (hcc_entries edges)
      (same_matrix hcc_algebra one_number conf.nodes (hcc_entries edges) _ _ (sym (matrix_by Hcc is))
      (one_matrix gives (words_for conf).copy (copies gives children) (cut_of conf) some_bytes some_reducers conf.nodes few edges good.below hcc_algebra hcc_is_lawful (λ w. refl) one_back true (with_program (matrix_map Hcc true)) (follows_both gives children)))

  pub hadi_sequence : conf.command ≡ Hadi → HasSequence gives conf edges (iterates_by Hadi conf edges)
  hadi_sequence is =
      let a = hadi_algebra conf.seed in
      let most : conf.seed ≤ 2 ^ 64 - 1 = run.limits.seed.1 in
      has_sequence a (hadi_is_lawful conf.seed) words_some (follows_hadi gives children conf some_nodes few_nodes is (omega arith)) one_number (hadi_entries conf.sym edges)
      (same_matrix a one_number conf.nodes (hadi_entries conf.sym edges) _ _ (sym (matrix_by Hadi is))
      (one_matrix gives (words_for conf).copy (copies gives children) (cut_of conf) some_bytes some_reducers conf.nodes few edges good.below a (hadi_is_lawful conf.seed) (λ w. refl) one_back conf.sym (with_program (matrix_map Hadi conf.sym)) (follows_sides gives children conf.sym)))

  pub page_rank_sequence : conf.command ≡ PageRank → HasSequence gives conf edges (iterates_by PageRank conf edges)
  page_rank_sequence is =
      let a = page_rank_algebra conf.nodes in
      has_sequence a (page_rank_is_lawful conf.nodes) (λ v fits. decimal_some v (ltb-true v (2 ^ 64) fits)) (follows_page_rank gives children conf some_nodes few_nodes is) (λ m. m) (page_rank_entries edges)
      (same_matrix a (λ m. m) conf.nodes (page_rank_entries edges) _ _ (sym (matrix_by PageRank is))
      (rank_matrix gives (words_for conf).copy (copies gives children) (cut_of conf) some_bytes some_reducers conf.nodes few edges good.below good.few (with_program (matrix_reduce PageRank)) (follows_degrees gives children)))

  by_command : (command : Command) → conf.command ≡ command → is_mining command ≡ true → HasSequence gives conf edges (iterates_by command conf edges)
  by_command Plain is mines = absurd (false≢true mines)
  by_command Hcc is mines = hcc_sequence is
  by_command Hadi is mines = hadi_sequence is
  by_command PageRank is mines = page_rank_sequence is

  pub command_sequence : HasSequence gives conf edges (iterates_of conf edges)
  command_sequence = by_command conf.command refl run.mines

pub base_flow : BaseFlow
base_flow gives children conf run edges good k =
    let has = command_sequence gives children conf run edges good in record { vector = has.vector k; count = has.count k }
