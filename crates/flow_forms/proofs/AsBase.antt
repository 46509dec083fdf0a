-- A run whose vectors count what the iterates change ends as that of the base form does.
use Rattle.std.proofs.Common.{◌≡◌, refl, sym, ap, ◌∙◌, subst, true, ◌&&◌, eqb, leb, ℕ, ◌<◌, ◌≤◌, List, Option, Some}
use Rattle.std.specs.Prelude.{◌||◌, slice_index, unwrap_or}
use Rattle.std.specs.List.{find, range_with_len}
use Rattle.graph.specs.declared.edges.Edge.{Edge}
use Rattle.graph.specs.Entries.{hadi_entries}
use Rattle.graph.specs.Walks.{AreLeast}
use Rattle.hadi.specs.Radii.{IsRadius}
use Rattle.conf.specs.declared.commands.Command.{Command}
use Rattle.conf.specs.declared.commands.Command.TheVariants.{Plain, Hcc, Hadi, PageRank}
use Rattle.conf.specs.declared.reading.Conf.{Conf}
use Rattle.conf.specs.Commands.{is_mining}
use Rattle.conf.specs.Limits.{IsWithinLimits}
use Rattle.mining.specs.declared.place.Place.TheVariants.{Results}
use Rattle.mining.specs.Flow.{mining_of, flow, count_of, ends_at_most, ends_unchanged, is_end, is_unchanged, last_of, most_of, total_in}
use Rattle.flow_core.specs.Following.{Giving}
use Rattle.flow_base.specs.Layouts.{Sequence, changed_in, result_parts}
use Rattle.flow.specs.Children.{FollowsChildren}
use Rattle.flow.specs.Iterates.{IsBaseRun, iterates_by, iterates_of, changed_of, result_of, total_after, total_by, EndsAt, IsLast}
use Rattle.flow.specs.Laws.{AreCountable, HasResult, parts_of_numbers}
use Rattle.flow.proofs.Base.{base_flow}
use Rattle.flow.proofs.Ends.{base_result, components_end}
use Rattle.flow.proofs.Radii.{radii_end}
use Rattle.flow.proofs.Searches.{find_agree}
use Rattle.flow_forms.specs.AsBase.{as_base, TellsIterates, FormsEndAsBase}
use Rattle.flow_forms.specs.Ends.{EndsWith}
use Rattle.flow_forms.proofs.Says.{said_is}

-- ---- the base form has the same settings

pub same_iterates : (command : Command) (conf : Conf) (edges : List Edge) → iterates_by command (as_base conf) edges ≡ iterates_by command conf edges
same_iterates Plain conf edges = refl
same_iterates Hcc conf edges = refl
same_iterates Hadi conf edges = refl
same_iterates PageRank conf edges = refl

same_most : (command : Command) (conf : Conf) → most_of (as_base conf) command ≡ most_of conf command
same_most Plain conf = refl
same_most Hcc conf = refl
same_most Hadi conf = refl
same_most PageRank conf = refl

ends_back : (command : Command) (conf : Conf) (changed k : ℕ) → EndsAt command (as_base conf) changed k → EndsAt command conf changed k
ends_back Plain conf changed k ends = ends
ends_back Hcc conf changed k ends = ends
ends_back Hadi conf changed k ends = ends
ends_back PageRank conf changed k ends = ends

ends_there : (command : Command) (conf : Conf) (changed k : ℕ) → EndsAt command conf changed k → EndsAt command (as_base conf) changed k
ends_there Plain conf changed k ends = ends
ends_there Hcc conf changed k ends = ends
ends_there Hadi conf changed k ends = ends
ends_there PageRank conf changed k ends = ends

module _ (conf : Conf) (edges : List Edge) where
  pub same_changed : (k : ℕ) → changed_of (as_base conf) edges k ≡ changed_of conf edges k
  same_changed k = ap (λ (s : Sequence). changed_in s conf.nodes k) (same_iterates conf.command conf edges)

  pub same_result : (k : ℕ) → result_of (as_base conf) edges k ≡ result_of conf edges k
  same_result k = ap (λ (s : Sequence). result_parts s conf.nodes conf.reducers k) (same_iterates conf.command conf edges)

  same_total : (k : ℕ) → total_after (as_base conf) edges k ≡ total_after conf edges k
  same_total k = ap (λ (s : Sequence). total_by conf.command s conf.nodes k) (same_iterates conf.command conf edges)

  last_back : (k : ℕ) → IsLast (as_base conf) (changed_of (as_base conf) edges) k → IsLast conf (changed_of conf edges) k
  last_back k last = record {
    made = last.made;
    ends = subst (λ (changed : ℕ). EndsAt conf.command conf changed k) (same_changed k) (ends_back conf.command conf (changed_of (as_base conf) edges k) k last.ends);
    earlier = λ j low less at. last.earlier j low less (ends_there conf.command conf (changed_of (as_base conf) edges j) j (subst (λ (changed : ℕ). EndsAt conf.command conf changed j) (sym (same_changed j)) at));
  }

pub base_run : (conf : Conf) → IsWithinLimits conf → is_mining conf.command ≡ true → IsBaseRun (as_base conf)
base_run conf limits mines = record {
  limits = record {
    nodes = limits.nodes;
    reducers = limits.reducers;
    split = limits.split;
    slots = limits.slots;
    spill = limits.spill;
    block = limits.block;
    iters = limits.iters;
    hops = limits.hops;
    seed = limits.seed;
    generated = limits.generated;
    form = λ other. absurd (other refl);
    plain = limits.plain;
    clustered = λ is. cc;
  };
  mines = mines;
  form = refl;
}

-- ---- the run itself

module _ (gives : Giving) (children : FollowsChildren gives) (conf : Conf) (limits : IsWithinLimits conf) (mines : is_mining conf.command ≡ true) (edges : List Edge) (good : AreCountable conf.nodes edges)
    (tells : TellsIterates gives conf edges) where
  abbrev base : Conf
  base = as_base conf

  has_base : HasResult gives base edges
  has_base = base_result gives children base (base_run conf limits mines) edges good

  counts_same : (k : ℕ) → count_of (mining_of gives conf edges) k ≡ count_of (mining_of gives base edges) k
  counts_same k =
      tells.counts k ∙ ap Some (sym (same_changed conf edges k)) ∙ sym (base_flow gives children base (base_run conf limits mines) edges good k).count

  end_same : (k : ℕ) → is_end conf k (count_of (mining_of gives conf edges) k) ≡ is_end base k (count_of (mining_of gives base edges) k)
  end_same k =
      ap (is_end conf k) (counts_same k)
      ∙ ap (λ (most : ℕ). leb 1 k && ((ends_unchanged conf.command && is_unchanged (count_of (mining_of gives base edges) k)) || (ends_at_most conf.command && eqb k most))) (sym (same_most conf.command conf))

  last_same : last_of (mining_of gives conf edges) ≡ last_of (mining_of gives base edges)
  unfolding last_of
  last_same =
      find_agree (λ k. is_end conf k (count_of (mining_of gives conf edges) k)) (λ k. is_end base k (count_of (mining_of gives base edges) k)) (range_with_len 1 (most_of conf conf.command)) end_same
      ∙ ap (λ (most : ℕ). find (λ k. is_end base k (count_of (mining_of gives base edges) k)) (range_with_len 1 most)) (sym (same_most conf.command conf))

  is_last : last_of (mining_of gives conf edges) ≡ Some has_base.last
  is_last = last_same ∙ has_base.is_last

  result_is : flow (mining_of gives conf edges) Results ≡ result_of conf edges has_base.last
  result_is = tells.result ∙ ap (λ (found : Option ℕ). result_of conf edges (unwrap_or found 0)) is_last

  result_same : flow (mining_of gives conf edges) Results ≡ flow (mining_of gives base edges) Results
  result_same = result_is ∙ sym (has_base.result ∙ same_result conf edges has_base.last)

  total_is : total_in conf.command (flow (mining_of gives conf edges) Results) ≡ Some (total_after conf edges has_base.last)
  total_is = ap (total_in conf.command) result_same ∙ has_base.total ∙ ap Some (same_total conf edges has_base.last)

  least_is : conf.command ≡ Hcc → (labels : List ℕ) → AreLeast conf.nodes edges labels → result_of conf edges has_base.last ≡ parts_of_numbers conf (λ node. slice_index labels node)
  least_is is labels are = sym result_is ∙ result_same ∙ (components_end gives children base (base_run conf limits mines) is edges good).least labels are

  radii_are : conf.command ≡ Hadi → (radius : ℕ → ℕ) → ((node : ℕ) → node < conf.nodes → IsRadius conf.seed (hadi_entries conf.sym edges) has_base.last node (radius node))
      → result_of conf edges has_base.last ≡ parts_of_numbers conf radius
  radii_are is radius are =
      let end = radii_end gives children base (base_run conf limits mines) is edges good in
      let same : has_base.last ≡ end.last = ap (λ (found : Option ℕ). unwrap_or found 0) (sym has_base.is_last ∙ end.is_last) in
      sym result_is ∙ result_same ∙ end.radii radius (λ node low. subst (λ (l : ℕ). IsRadius conf.seed (hadi_entries conf.sym edges) l node (radius node)) same (are node low))

  ends_with : EndsWith gives conf edges (iterates_of conf edges)
  ends_with = record {
    last = has_base.last;
    is_last = is_last;
    first = last_back conf edges has_base.last has_base.first;
    soon = subst (λ (most : ℕ). has_base.last ≤ most) (same_most conf.command conf) has_base.soon;
    result = result_is;
    total = total_is;
    says = said_is gives conf edges (iterates_of conf edges) tells.counts has_base.last total_is;
    least = least_is;
    radii = radii_are;
  }

pub forms_end_as_base : FormsEndAsBase
forms_end_as_base gives children conf limits mines edges good tells = record {
  counts = counts_same gives children conf limits mines edges good tells;
  last = last_same gives children conf limits mines edges good tells;
  result = result_same gives children conf limits mines edges good tells;
  ends = ends_with gives children conf limits mines edges good tells;
}
