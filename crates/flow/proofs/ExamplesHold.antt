-- The folders of the small graph compute.
use Rattle.std.proofs.Common.{◌≡◌, ◌∙◌, refl, sym, ap, ℕ, ◌+◌, ◌<◌, [], ◌∷◌, Some, codes, decimal, inl, inr, arith}
use Rattle.std.proofs.lemmas.Bool.{cases_eq}
use Rattle.std.proofs.lemmas.Fmt.{decimal_digit}
use Rattle.std.proofs.lemmas.List.Elements.{All-nil, All-cons}
use Rattle.graph.specs.declared.edges.Edge.{Edge}
use Rattle.graph.specs.Examples.{from_to, three_edges}
use Rattle.flow_base.specs.Layouts.{result_parts}
use Rattle.flow.specs.Children.{bundled}
use Rattle.flow.specs.Iterates.{IsBaseRun, IsLast, changed_of, result_of, total_after}
use Rattle.flow.specs.Laws.{AreCountable}
use Rattle.flow.specs.Examples.{small_conf, labels, LayoutByExample, ChangesByExample, FlowByExample}
use Rattle.flow.proofs.Base.{base_flow}
use Rattle.flow.proofs.Ends.{bundled_follow, base_result, last_is_one}

digit : (n : ℕ) → n < 10 → decimal n ≡ (48 + n) ∷ []
digit n low = decimal_digit n low

pub layout_by_example : LayoutByExample
layout_by_example =
    let d0 = digit 0 (omega arith) in
    let d1 = digit 1 (omega arith) in
    let d2 = digit 2 (omega arith) in
    let d3 = digit 3 (omega arith) in
    let d4 = digit 4 (omega arith) in
    let d5 = digit 5 (omega arith) in
    (rw (d0, d1, d2, d3, d4, d5) refl, rw (d0, d1, d2, d3, d4, d5) refl, rw (d0, d1, d2, d3, d4, d5) refl, rw (d0, d1, d2, d3, d4, d5) refl, rw (d0, d1, d2, d3, d4, d5) refl, rw (d0, d1, d2, d3, d4, d5) refl)

result_in_two : result_parts labels 6 2 3 ≡ codes "1\t0\n3\t3\n5\t5\n" ∷ codes "0\t0\n2\t0\n4\t3\n" ∷ []
result_in_two =
    let d0 = digit 0 (omega arith) in
    let d1 = digit 1 (omega arith) in
    let d2 = digit 2 (omega arith) in
    let d3 = digit 3 (omega arith) in
    let d4 = digit 4 (omega arith) in
    let d5 = digit 5 (omega arith) in
    rw (d0, d1, d2, d3, d4, d5) refl

pub changes_by_example : ChangesByExample
changes_by_example = (refl, refl, refl, refl)

edges_countable : AreCountable 6 three_edges
edges_countable =
    let P : Edge → Type 0 = λ e. (e.source < 6) × (e.target < 6) in record {
      below = All-cons P (from_to 0 1) (from_to 1 2 ∷ from_to 3 4 ∷ []) (omega arith, omega arith) (All-cons P (from_to 1 2) (from_to 3 4 ∷ []) (omega arith, omega arith) (All-cons P (from_to 3 4) [] (omega arith, omega arith) (All-nil P)));
      few = omega arith;
    }

is_base_run : IsBaseRun small_conf
is_base_run = record {
  limits = record {
    nodes = (omega arith, omega arith);
    reducers = (omega arith, omega arith);
    split = (omega arith, omega arith);
    slots = (omega arith, omega arith);
    spill = (omega arith, omega arith);
    block = (omega arith, omega arith);
    iters = (omega arith, omega arith);
    hops = (omega arith, omega arith);
    seed = (omega arith, omega arith);
    generated = tt;
    form = λ other. absurd (other refl);
    plain = λ is. cc;
    clustered = λ is. cc;
  };
  mines = refl;
  form = refl;
}

three_is_last : IsLast small_conf (changed_of small_conf three_edges) 3
three_is_last = record {
  made = omega arith;
  ends = refl;
  earlier = λ j low lt none. elim (cases_eq j 1) [
    | inl one ↦ let three : 3 ≡ 0 = sym (ap (changed_of small_conf three_edges) one) ∙ none in omega arith
    | inr other ↦ let two : j ≡ 2 = omega arith in let one : 1 ≡ 0 = sym (ap (changed_of small_conf three_edges) two) ∙ none in omega arith
  ];
}

pub flow_by_example : FlowByExample
flow_by_example =
    let two = base_flow bundled bundled_follow small_conf is_base_run three_edges edges_countable 2 in
    let has = base_result bundled bundled_follow small_conf is_base_run three_edges edges_countable in
    let last : has.last ≡ 3 = last_is_one small_conf (changed_of small_conf three_edges) has.last 3 has.first three_is_last in
    (two.vector ∙ layout_by_example.4, two.count, has.is_last ∙ ap Some last, has.result ∙ ap (result_of small_conf three_edges) last ∙ result_in_two, has.total ∙ ap (λ (k : ℕ). Some (total_after small_conf three_edges k)) last)
