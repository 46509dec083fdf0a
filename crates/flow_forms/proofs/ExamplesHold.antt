-- The folders of the path in blocks compute.
use Rattle.std.proofs.Common.{◌≡◌, ◌≢◌, ◌∙◌, refl, sym, ap, ℕ, ◌+◌, ◌<◌, [], ◌∷◌, Some, codes, decimal, inl, inr, arith, true, ◌≤◌}
use Rattle.std.proofs.lemmas.Bool.{cases_eq}
use Rattle.std.proofs.lemmas.Fmt.{decimal_digit}
use Rattle.std.proofs.lemmas.List.Elements.{All-nil, All-cons}
use Rattle.graph.specs.declared.edges.Edge.{Edge}
use Rattle.graph.specs.Examples.{from_to}
use Rattle.conf.specs.declared.commands.Command.{Command}
use Rattle.conf.specs.declared.commands.Command.TheVariants.{Hcc, PageRank, Plain}
use Rattle.conf.specs.declared.commands.Form.{Form}
use Rattle.conf.specs.declared.commands.Form.TheVariants.{Block, Diagonal}
use Rattle.conf.specs.Commands.{has_form}
use Rattle.conf.specs.Limits.{IsWithinLimits}
use Rattle.conf.specs.Rules.{most_nodes_at_once}
use Rattle.flow_base.specs.Layouts.{changed_in, result_parts}
use Rattle.flow.specs.Children.{bundled}
use Rattle.flow.specs.Iterates.{IsLast, changed_of, result_of, total_after}
use Rattle.flow.specs.Laws.{AreCountable}
use Rattle.flow.proofs.Ends.{bundled_follow, last_is_one}
use Rattle.flow_forms.specs.BlockForm.{IsBlockRun}
use Rattle.flow_forms.specs.DiagonalForm.{IsDiagonalRun, DiagonalEndsAsBase, DiagonalFlow, labels_of}
use Rattle.flow_forms.specs.Examples.{closed_conf, loop_conf, loop_edges, path_conf, path_edges, path_labels, BlocksByExample, BlockFlowByExample, BlockRanksByExample, ClosedByExample, DiagonalFlowByExample}
use Rattle.flow_forms.proofs.BlockRuns.{block_ends_as_base, block_flow}

digit : (n : ℕ) → n < 10 → decimal n ≡ (48 + n) ∷ []
digit n low = decimal_digit n low

pub blocks_by_example : BlocksByExample
blocks_by_example =
    let d0 = digit 0 (omega arith) in
    let d1 = digit 1 (omega arith) in
    let d2 = digit 2 (omega arith) in
    let d3 = digit 3 (omega arith) in
    (rw (d0, d1, d2, d3) refl, rw (d0, d1, d2) refl, rw (d0, d1, d2) refl, rw (d0, d1) refl, rw (d0, d1) refl, rw (d0, d1, d2) refl)

path_result : result_parts path_labels 4 1 4 ≡ codes "0\t0\n1\t0\n2\t0\n3\t0\n" ∷ []
path_result =
    let d0 = digit 0 (omega arith) in
    let d1 = digit 1 (omega arith) in
    let d2 = digit 2 (omega arith) in
    let d3 = digit 3 (omega arith) in
    rw (d0, d1, d2, d3) refl

edges_countable : AreCountable 4 path_edges
edges_countable =
    let P : Edge → Type 0 = λ e. (e.source < 4) × (e.target < 4) in record {
      below = All-cons P (from_to 0 1) (from_to 1 2 ∷ from_to 2 3 ∷ []) (omega arith, omega arith) (All-cons P (from_to 1 2) (from_to 2 3 ∷ []) (omega arith, omega arith) (All-cons P (from_to 2 3) [] (omega arith, omega arith) (All-nil P)));
      few = omega arith;
    }

loop_countable : AreCountable 2 loop_edges
loop_countable =
    let P : Edge → Type 0 = λ e. (e.source < 2) × (e.target < 2) in record {
      below = All-cons P (from_to 0 1) (from_to 1 1 ∷ []) (omega arith, omega arith) (All-cons P (from_to 1 1) [] (omega arith, omega arith) (All-nil P));
      few = omega arith;
    }

-- another command, form and number of nodes are within the limits as well
limits_of : (command : Command) (form : Form) (nodes : ℕ) → 1 ≤ nodes → nodes ≤ 4 → has_form command form ≡ true → (command ≡ Plain → nodes ≤ most_nodes_at_once) → IsWithinLimits (record path_conf { command = command; form = form; nodes = nodes })
limits_of command form nodes some few has plain = record {
  nodes = (some, omega (arith, few));
  reducers = (omega arith, omega arith);
  split = (omega arith, omega arith);
  slots = (omega arith, omega arith);
  spill = (omega arith, omega arith);
  block = (omega arith, omega arith);
  iters = (omega arith, omega arith);
  hops = (omega arith, omega arith);
  seed = (omega arith, omega arith);
  generated = tt;
  form = λ other. has;
  plain = plain;
  clustered = λ is. omega (arith, few);
}

is_block_run : IsBlockRun path_conf
is_block_run = record { limits = limits_of Hcc Block 4 (omega arith) (omega arith) refl (λ is. cc); mines = refl; form = refl }

apart : (m n : ℕ) → m ≢ n → (j : ℕ) → changed_of path_conf path_edges j ≡ m → changed_of path_conf path_edges j ≢ n
apart m n other j is none = other (sym is ∙ none)

four_is_last : IsLast path_conf (changed_of path_conf path_edges) 4
four_is_last = record {
  made = omega arith;
  ends = refl;
  earlier = λ j low less. elim (cases_eq j 1) [
    | inl one ↦ apart 3 0 (λ e. omega (arith, e)) j (ap (changed_of path_conf path_edges) one)
    | inr above ↦ elim (cases_eq j 2) [
      | inl two ↦ apart 2 0 (λ e. omega (arith, e)) j (ap (changed_of path_conf path_edges) two)
      | inr last ↦ let three : j ≡ 3 = omega arith in apart 1 0 (λ e. omega (arith, e)) j (ap (changed_of path_conf path_edges) three)
    ]
  ];
}

pub flow_by_example : BlockFlowByExample
flow_by_example =
    let two = block_flow bundled bundled_follow path_conf is_block_run path_edges edges_countable 2 in
    let has = (block_ends_as_base bundled bundled_follow path_conf is_block_run path_edges edges_countable).ends in
    let last : has.last ≡ 4 = last_is_one path_conf (changed_of path_conf path_edges) has.last 4 has.first four_is_last in
    (two.vector ∙ blocks_by_example.2, two.count, has.is_last ∙ ap Some last, has.result ∙ ap (result_of path_conf path_edges) last ∙ path_result, has.total ∙ ap (λ (k : ℕ). Some (total_after path_conf path_edges k)) last)

-- ---- closed labels

pub closed_by_example : ClosedByExample
closed_by_example =
    let d0 = digit 0 (omega arith) in
    let d1 = digit 1 (omega arith) in
    let d2 = digit 2 (omega arith) in
    let d3 = digit 3 (omega arith) in
    (rw (d0, d1, d2, d3) refl, rw (d0, d1, d2) refl, rw (d0, d1) refl, rw (d0, d1) refl, rw (d0, d3) refl)

closed_result : result_parts (labels_of closed_conf path_edges) 4 1 3 ≡ codes "0\t0\n1\t0\n2\t0\n3\t0\n" ∷ []
closed_result =
    let d0 = digit 0 (omega arith) in
    let d1 = digit 1 (omega arith) in
    let d2 = digit 2 (omega arith) in
    let d3 = digit 3 (omega arith) in
    rw (d0, d1, d2, d3) refl

is_closed_run : IsDiagonalRun closed_conf
is_closed_run = record { limits = limits_of Hcc Diagonal 4 (omega arith) (omega arith) refl (λ is. cc); form = refl }

abbrev closed_changes : ℕ → ℕ
closed_changes k = changed_in (labels_of closed_conf path_edges) 4 k

three_is_last : IsLast closed_conf closed_changes 3
three_is_last = record {
  made = omega arith;
  ends = refl;
  earlier = λ j low less none. elim (cases_eq j 1) [
    | inl one ↦ let three : 3 ≡ 0 = sym (ap closed_changes one) ∙ none in omega (arith, three)
    | inr above ↦ let two : j ≡ 2 = omega arith in let one : 1 ≡ 0 = sym (ap closed_changes two) ∙ none in omega (arith, one)
  ];
}

pub diagonal_by_example : DiagonalFlow → DiagonalEndsAsBase → DiagonalFlowByExample
diagonal_by_example flows ends =
    let one = flows bundled bundled_follow closed_conf is_closed_run path_edges edges_countable 1 in
    let has = (ends bundled bundled_follow closed_conf is_closed_run path_edges edges_countable).ends in
    let last : has.last ≡ 3 = last_is_one closed_conf closed_changes has.last 3 has.first three_is_last in
    (one.vector ∙ closed_by_example.1, one.count, has.is_last ∙ ap Some last, has.result ∙ ap (result_parts (labels_of closed_conf path_edges) 4 1) last ∙ closed_result)

-- ---- ranks

is_rank_run : IsBlockRun loop_conf
is_rank_run = record { limits = limits_of PageRank Block 2 (omega arith) (omega arith) refl (λ is. cc); mines = refl; form = refl }

pub ranks_by_example : BlockRanksByExample
ranks_by_example =
    let has = (block_ends_as_base bundled bundled_follow loop_conf is_rank_run loop_edges loop_countable).ends in
    let last : has.last ≡ 1 = has.first.ends in
    has.result ∙ ap (result_of loop_conf loop_edges) last
