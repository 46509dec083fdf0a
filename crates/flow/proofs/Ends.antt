-- The last iteration of the flow is the last one of the iterates.
use Rattle.std.proofs.Common.{◌≡◌, refl, sym, ap, ◌∙◌, subst, Bool, true, false, ◌&&◌, eqb, leb, ℕ, ◌<◌, ◌≤◌, List, get_or, decimal, Option, Some, inl, inr, arith}
use Rattle.std.specs.Prelude.{◌||◌, unwrap_or}
use Rattle.std.specs.List.{range_with_len}
use Rattle.std.proofs.lemmas.Bool.{cases_Bool, cases_lt, eq-eqb, eqb-true, le-leb, and_parts, false≢true}
use Rattle.graph.specs.declared.edges.Edge.{Edge}
use Rattle.graph.specs.Entries.{hcc_entries}
use Rattle.graph.specs.Steps.{changed, iterate}
use Rattle.graph.specs.Laws.{EndsAtLeast}
use Rattle.graph.proofs.ChangeLemmas.{ends_at_least}
use Rattle.graph.proofs.WalkLemmas.{IsLeast-unique}
use Rattle.hcc.specs.Components.{hcc_algebra}
use Rattle.conf.specs.declared.commands.Command.{Command}
use Rattle.conf.specs.declared.commands.Command.TheVariants.{Plain, Hcc, Hadi, PageRank}
use Rattle.conf.specs.declared.reading.Conf.{Conf}
use Rattle.conf.specs.Commands.{is_mining}
use Rattle.mining.specs.Flow.{mining_of, count_of, last_of, most_of, ends_unchanged, ends_at_most, is_end}
use Rattle.list_laws.proofs.Images.{map_agree}
use Rattle.list_laws.proofs.Ranges.{all_below}
use Rattle.flow_core.specs.Following.{Giving}
use Rattle.flow_core.specs.Parts.{parts_with}
use Rattle.flow_base.specs.Layouts.{number_pair, result_parts, changed_in}
use Rattle.flow.specs.Children.{FollowsChildren, BundledFollow, given_by}
use Rattle.flow.specs.Iterates.{IsBaseRun, iterates_by, result_of, changed_of, total_after, EndsAt, IsLast, LastIsOne}
use Rattle.flow.specs.Laws.{AreCountable, HasResult, BaseResult, ComponentsEnd, RanksEnd, parts_of_numbers}
use Rattle.flow.proofs.Base.{command_sequence}
use Rattle.flow.proofs.CountsBack.{changed_is}
use Rattle.flow.proofs.Searches.{IsFound, find_agree, found_up_to}
use Rattle.gimv_base.specs.Parts.{Part}

pub bundled_follow : BundledFollow
bundled_follow words rule is bytes out writes = ap (λ found. given_by found bytes) is ∙ ap (λ (p : Part). p.out) writes

pub last_is_one : LastIsOne
last_is_one conf changed j k one other =
    elim (cases_lt j k) [
      | inl lt ↦ absurd (other.earlier j one.made lt one.ends)
      | inr le ↦ elim (cases_lt k j) [
        | inl lt ↦ absurd (one.earlier k other.made lt other.ends)
        | inr ge ↦ omega arith
      ]
    ]

-- ---- where a command ends, as a test

abbrev pub ends_by : Command → Conf → ℕ → ℕ → Bool
ends_by command conf k changed =
    leb 1 k && ((ends_unchanged command && eqb changed 0) || (ends_at_most command && eqb k (most_of conf command)))

ends_true : (command : Command) (conf : Conf) (k changed : ℕ) → 1 ≤ k → EndsAt command conf changed k → ends_by command conf k changed ≡ true
ends_true Plain conf k changed some ends = absurd ends
ends_true Hcc conf k changed some ends =
    let low : leb 1 k ≡ true = le-leb 1 k some in let none : eqb changed 0 ≡ true = eq-eqb changed 0 ends in rw (low, none) refl
ends_true PageRank conf k changed some ends =
    let low : leb 1 k ≡ true = le-leb 1 k some in let most : eqb k conf.iters ≡ true = eq-eqb k conf.iters ends in rw (low, most) refl
ends_true Hadi conf k changed some (inl ends) =
    let low : leb 1 k ≡ true = le-leb 1 k some in let none : eqb changed 0 ≡ true = eq-eqb changed 0 ends in rw (low, none) refl
ends_true Hadi conf k changed some (inr ends) =
    let low : leb 1 k ≡ true = le-leb 1 k some in
    let most : eqb k conf.hops ≡ true = eq-eqb k conf.hops ends in
    elim (cases_Bool (eqb changed 0)) [
      | inl none ↦ rw (low, none) refl
      | inr others ↦ rw (low, others, most) refl
    ]

ends_back : (command : Command) (conf : Conf) (k changed : ℕ) → ends_by command conf k changed ≡ true → EndsAt command conf changed k
ends_back Plain conf k changed is = absurd (false≢true (and_parts (leb 1 k) false is).1)
ends_back Hcc conf k changed is =
    let ends : (eqb changed 0 || false) ≡ true = (and_parts (leb 1 k) (eqb changed 0 || false) is).1 in
    elim (cases_Bool (eqb changed 0)) [
      | inl none ↦ eqb-true changed 0 none
      | inr others ↦ absurd (false≢true (rw others at ends))
    ]
ends_back PageRank conf k changed is = eqb-true k conf.iters (and_parts (leb 1 k) (eqb k conf.iters) is).1
ends_back Hadi conf k changed is =
    let ends : (eqb changed 0 || eqb k conf.hops) ≡ true = (and_parts (leb 1 k) (eqb changed 0 || eqb k conf.hops) is).1 in
    elim (cases_Bool (eqb changed 0)) [
      | inl none ↦ inl (eqb-true changed 0 none)
      | inr others ↦ inr (eqb-true k conf.hops (rw others at ends))
    ]

-- ---- each command ends

module _ (conf : Conf) (run : IsBaseRun conf) (edges : List Edge) (good : AreCountable conf.nodes edges) where
  abbrev changed_by : Command → ℕ → ℕ
  changed_by command k = changed_in (iterates_by command conf edges) conf.nodes k

  pub ends : EndsAtLeast conf.nodes edges
  ends = let few = run.limits.nodes.1 in ends_at_least conf.nodes edges run.limits.nodes.0 (omega (arith, few)) good.below

  record IsReached (command : Command) : Type 0 where
    at : ℕ
    some : 1 ≤ at
    most : at ≤ most_of conf command
    is : EndsAt command conf (changed_by command at) at

  reached : (command : Command) → is_mining command ≡ true → IsReached command
  reached Plain mines = absurd (false≢true mines)
  reached Hcc mines = record {
    at = ends.last;
    some = ends.first.made;
    most = ends.soon;
    is = changed_is hcc_algebra (hcc_entries edges) conf.nodes ends.last ∙ ends.first.unchanged;
  }
  reached Hadi mines = record { at = conf.hops; some = run.limits.hops.0; most = omega arith; is = inr refl }
  reached PageRank mines = record { at = conf.iters; some = run.limits.iters.0; most = omega arith; is = refl }

  abbrev passes : ℕ → Bool
  passes k = ends_by conf.command conf k (changed_of conf edges k)

  first_end : IsFound passes 1 (most_of conf conf.command) (most_of conf conf.command)
  first_end =
      let r = reached conf.command run.mines in
      let found = found_up_to passes 1 (most_of conf conf.command) r.at r.some (omega (arith, r.most)) (ends_true conf.command conf r.at (changed_of conf edges r.at) r.some r.is) in record {
        at = found.at;
        found = found.found;
        low = found.low;
        high = omega (arith, found.high, r.most);
        passes = found.passes;
        earlier = found.earlier;
      }

  first_is_last : IsLast conf (changed_of conf edges) first_end.at
  first_is_last = record {
    made = first_end.low;
    ends = ends_back conf.command conf first_end.at (changed_of conf edges first_end.at) first_end.passes;
    earlier = λ j low lt at. false≢true (sym (first_end.earlier j low lt) ∙ ends_true conf.command conf j (changed_of conf edges j) low at);
  }

  module _ (gives : Giving) (children : FollowsChildren gives) where
    last_found : last_of (mining_of gives conf edges) ≡ Some first_end.at
    unfolding last_of
    last_found =
        let has = command_sequence gives children conf run edges good in
        find_agree (λ k. is_end conf k (count_of (mining_of gives conf edges) k)) passes (range_with_len 1 (most_of conf conf.command)) (λ k. ap (is_end conf k) (has.count k))
        ∙ first_end.found

    pub has_result : HasResult gives conf edges
    has_result =
        let has = command_sequence gives children conf run edges good in
        let is : unwrap_or (last_of (mining_of gives conf edges)) 0 ≡ first_end.at = ap (λ (found : Option ℕ). unwrap_or found 0) last_found in record {
          last = first_end.at;
          is_last = last_found;
          first = first_is_last;
          soon = first_end.high;
          result = has.result ∙ ap (result_of conf edges) is;
          total = has.total conf.command ∙ ap (λ (k : ℕ). Some (total_after conf edges k)) is;
        }

  -- ---- the components

  pub hcc_last : conf.command ≡ Hcc → (k : ℕ) → IsLast conf (changed_of conf edges) k → k ≡ ends.last
  hcc_last is k last =
      let counts : (j : ℕ) → changed_of conf edges j ≡ changed hcc_algebra.algorithm (hcc_entries edges) conf.nodes j = λ j. ap (λ (c : Command). changed_by c j) is ∙ changed_is hcc_algebra (hcc_entries edges) conf.nodes j in
      last_is_one conf (changed_of conf edges) k ends.last last (record {
        made = ends.first.made;
        ends = subst (λ (c : Command). EndsAt c conf (changed_of conf edges ends.last) ends.last) (sym is) (counts ends.last ∙ ends.first.unchanged);
        earlier = λ j low lt at. ends.first.earlier j low lt (sym (counts j) ∙ subst (λ (c : Command). EndsAt c conf (changed_of conf edges j) j) is at);
      })

  pub hcc_result : conf.command ≡ Hcc → (k : ℕ) → ends.last ≤ k → (labels : List ℕ) → ((node : ℕ) → node < conf.nodes → get_or labels node 0 ≡ iterate hcc_algebra.algorithm (hcc_entries edges) k node)
      → result_of conf edges k ≡ parts_of_numbers conf (λ node. get_or labels node 0)
  hcc_result is k late labels are =
      ap (λ (c : Command). result_parts (iterates_by c conf edges) conf.nodes conf.reducers k) is
      ∙ ap (parts_with conf.reducers) (map_agree (number_pair (iterates_by Hcc conf edges) k) (λ node. (decimal node, decimal (get_or labels node 0))) (range_with_len 0 conf.nodes) (all_below conf.nodes (λ i. number_pair (iterates_by Hcc conf edges) k i ≡ (decimal i, decimal (get_or labels i 0))) (λ i low. ap (λ (label : ℕ). (decimal i, decimal label)) (sym (are i low)))))

pub base_result : BaseResult
base_result gives children conf run edges good = has_result conf run edges good gives children

pub components_end : ComponentsEnd
components_end gives children conf run is edges good =
    let has = has_result conf run edges good gives children in
    let least : EndsAtLeast conf.nodes edges = ends conf run edges good in
    let same : has.last ≡ least.last = hcc_last conf run edges good is has.last has.first in record {
      last = has.last;
      is_last = has.is_last;
      soon = let soon = least.soon in omega arith;
      least = λ labels are. has.result ∙ hcc_result conf run edges good is has.last (omega arith) labels (λ node low. sym (IsLeast-unique edges node (iterate hcc_algebra.algorithm (hcc_entries edges) has.last node) (get_or labels node 0) (least.least has.last (omega arith) node low) (are.least node low)));
    }

pub ranks_end : RanksEnd
ranks_end gives children conf run is edges good =
    let has = has_result conf run edges good gives children in
    let at : has.last ≡ conf.iters = subst (λ (c : Command). EndsAt c conf (changed_of conf edges has.last) has.last) is has.first.ends in
    has.is_last ∙ ap Some at
