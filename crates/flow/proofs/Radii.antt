-- The result of HADI has the radii.
use Rattle.std.proofs.Common.{◌≡◌, ap, ◌∙◌, subst, ℕ, ◌≤◌, List, inl, inr, decimal, arith}
use Rattle.std.specs.List.{range_with_len}
use Rattle.std.proofs.lemmas.Bool.{cases_lt}
use Rattle.graph.specs.declared.edges.One.{One}
use Rattle.graph.specs.Entries.{Entry, hadi_entries}
use Rattle.hadi.specs.Hadi.{hadi}
use Rattle.hadi.specs.Radii.{IsRadius, kept_after}
use Rattle.hadi.proofs.RadiusLemmas.{numbers_are_radii}
use Rattle.conf.specs.declared.commands.Command.{Command}
use Rattle.conf.specs.declared.commands.Command.TheVariants.{Hadi}
use Rattle.mining.specs.Flow.{most_of}
use Rattle.list_laws.proofs.Images.{map_agree}
use Rattle.list_laws.proofs.Ranges.{all_below}
use Rattle.flow_core.specs.Parts.{parts_with}
use Rattle.flow_base.specs.Layouts.{number_pair, result_parts}
use Rattle.flow.specs.Iterates.{iterates_by}
use Rattle.flow.specs.Laws.{RadiiEnd}
use Rattle.flow.proofs.Ends.{has_result}

-- a node has one radius
radius_is_one : (seed : ℕ) (entries : List (Entry One)) (k node g h : ℕ) → IsRadius seed entries k node g → IsRadius seed entries k node h → g ≡ h
radius_is_one seed entries k node g h one other =
    elim (cases_lt g h) [
      | inl lt ↦ let far = other.apart g lt in let near = one.near in omega arith
      | inr le ↦ elim (cases_lt h g) [
        | inl lt ↦ let far = one.apart h lt in let near = other.near in omega arith
        | inr ge ↦ omega arith
      ]
    ]

pub radii_end : RadiiEnd
radii_end gives children conf run is edges good =
    let has = has_result conf run edges good gives children in
    let entries = hadi_entries conf.sym edges in
    let soon : has.last ≤ conf.hops = subst (λ (c : Command). has.last ≤ most_of conf c) is has.soon in
    let few : conf.hops ≤ 256 = run.limits.hops.1 in record {
      last = has.last;
      is_last = has.is_last;
      soon = soon;
      radii = λ radius are.
          has.result
          ∙ ap (λ (c : Command). result_parts (iterates_by c conf edges) conf.nodes conf.reducers has.last) is
          ∙ ap (parts_with conf.reducers) (map_agree (number_pair (iterates_by Hadi conf edges) has.last) (λ node. (decimal node, decimal (radius node))) (range_with_len 0 conf.nodes) (all_below conf.nodes (λ node. number_pair (iterates_by Hadi conf edges) has.last node ≡ (decimal node, decimal (radius node))) (λ node low. ap (λ (r : ℕ). (decimal node, decimal r)) (radius_is_one conf.seed entries has.last node ((hadi conf.seed).number (kept_after conf.seed entries has.last node)) (radius node) (numbers_are_radii conf.seed entries has.last node (omega arith)) (are node low)))));
    }
