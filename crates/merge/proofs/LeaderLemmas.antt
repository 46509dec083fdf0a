-- The least of several sources, and the least of each group.
use Rattle.std.proofs.Common.{◌≡◌, ◌∙◌, ap, sym, refl, subst, ℕ, ◌+◌, ◌*◌, ◌/◌, ◌<◌, ◌≤◌, min, true, false, ⊎_elim, List, [], ◌∷◌, ◌++◌, Option, Some, None, length, get_or, set, arith}
use Rattle.std.specs.Prelude.{IfSome}
use Rattle.std.proofs.lemmas.Bool.{false≢true, cases_Bool, cases_eq, cases_lt}
use Rattle.std.proofs.lemmas.List.{length-append, get_or_append_left, get_or_at, length-set, get_or-set_same, get_or-set_other}
use Rattle.pairs.specs.Pairs.{Pair, pair_before}
use Rattle.pairs.proofs.PairLemmas.{pair_order}
use Rattle.merge.specs.declared.source.Source.{Source}
use Rattle.merge.specs.Sources.{IsLeast, IsLeastOf, AreLeaders}
use Rattle.merge.proofs.StepLemmas.{same_at}

before_itself : (p : Pair) → pair_before p p ≡ true
before_itself p = ⊎_elim (λ yes. yes) (λ no. pair_order.total p p no) (cases_Bool (pair_before p p))

-- ---- one source

module _ (sources : List Source) (at : ℕ) (inside : at < length sources) (found : Source) where
  alone : (other : ℕ) → at ≤ other → other < at + 1 → other ≡ at
  alone other from below = omega arith

  pub alone_ended : (get_or sources at found).ended ≡ true → IsLeastOf sources at (at + 1) None
  alone_ended ended other none from below =
      ap (λ (k : ℕ). (get_or sources k none).ended) (alone other from below) ∙ ap (λ (s : Source). s.ended) (same_at sources at none found inside) ∙ ended

  pub alone_running : (get_or sources at found).ended ≡ false → IsLeast sources at (at + 1) at
  alone_running runs = record {
    from = omega arith;
    below = omega arith;
    inside = inside;
    running = λ none. ap (λ (s : Source). s.ended) (same_at sources at none found inside) ∙ runs;
    first =
        λ other none from below still.
        ap (λ (k : ℕ). pair_before (get_or sources at none).lines.head (get_or sources k none).lines.head) (alone other from below) ∙ before_itself (get_or sources at none).lines.head;
  }

-- ---- two sources

module _ (sources : List Source) (low mid high : ℕ) (up : low ≤ mid) (on : mid ≤ high) where
  pub none_first : (other : Option ℕ) → IsLeastOf sources low mid None → IsLeastOf sources mid high other → IsLeastOf sources low high other
  none_first None none more = λ k d from below.
      ⊎_elim (λ (early : k < mid). none k d from early) (λ (late : mid ≤ k). more k d late below) (cases_lt k mid)
  none_first (Some at) none more = record {
    from = omega (arith, more.from, up);
    below = more.below;
    inside = more.inside;
    running = more.running;
    first =
        λ k d from below runs.
        ⊎_elim (λ (early : k < mid). absurd (false≢true (sym runs ∙ none k d from early))) (λ (late : mid ≤ k). more.first k d late below runs) (cases_lt k mid);
  }

  pub none_second : (at : ℕ) → IsLeast sources low mid at → IsLeastOf sources mid high None → IsLeast sources low high at
  none_second at least none = record {
    from = least.from;
    below = omega (arith, least.below, on);
    inside = least.inside;
    running = least.running;
    first =
        λ k d from below runs.
        ⊎_elim (λ (early : k < mid). least.first k d from early runs) (λ (late : mid ≤ k). absurd (false≢true (sym runs ∙ none k d late below))) (cases_lt k mid);
  }

  module _ (one other : ℕ) (first : IsLeast sources low mid one) (second : IsLeast sources mid high other) (a b : Source) where
    heads : (none : Source) → pair_before (get_or sources one a).lines.head (get_or sources other b).lines.head ≡ pair_before (get_or sources one none).lines.head (get_or sources other none).lines.head
    heads none =
        ap (λ (s : Source). pair_before s.lines.head (get_or sources other b).lines.head) (same_at sources one a none first.inside) ∙ ap (λ (s : Source). pair_before (get_or sources one none).lines.head s.lines.head) (same_at sources other b none second.inside)

    pub first_least : pair_before (get_or sources one a).lines.head (get_or sources other b).lines.head ≡ true → IsLeast sources low high one
    first_least before = record {
      from = first.from;
      below = omega (arith, first.below, on);
      inside = first.inside;
      running = first.running;
      first =
          λ k d from below runs.
          ⊎_elim (λ (early : k < mid). first.first k d from early runs) (λ (late : mid ≤ k). pair_order.further (get_or sources one d).lines.head (get_or sources other d).lines.head (get_or sources k d).lines.head (sym (heads d) ∙ before) (second.first k d late below runs)) (cases_lt k mid);
    }

    pub second_least : pair_before (get_or sources one a).lines.head (get_or sources other b).lines.head ≡ false → IsLeast sources low high other
    second_least fails = record {
      from = omega (arith, second.from, up);
      below = second.below;
      inside = second.inside;
      running = second.running;
      first =
          λ k d from below runs.
          ⊎_elim (λ (early : k < mid). pair_order.further (get_or sources other d).lines.head (get_or sources one d).lines.head (get_or sources k d).lines.head (pair_order.total (get_or sources one d).lines.head (get_or sources other d).lines.head (sym (heads d) ∙ fails)) (first.first k d from early runs)) (λ (late : mid ≤ k). second.first k d late below runs) (cases_lt k mid);
    }

pub inside_of : (sources : List Source) (low high : ℕ) (leader : Option ℕ) → IsLeastOf sources low high leader → IfSome leader (λ at. at < length sources)
inside_of sources low high None least = tt
inside_of sources low high (Some at) least = least.inside

pub nothing_yet : (sources : List Source) (low : ℕ) → IsLeastOf sources low low None
nothing_yet sources low other none from below = absurd (omega arith)

-- ---- groups

-- the leaders of the first groups
pub record LeadersBelow (sources : List Source) (leaders : List (Option ℕ)) (count : ℕ) : Type 0 where
  pub many : length leaders ≡ count
  pub each : (group : ℕ) (none : Option ℕ) → group < length leaders → IsLeastOf sources (4 * group) (min (4 * group + 4) (length sources)) (get_or leaders group none)

-- a change of a source elsewhere
still_least : (sources : List Source) (at : ℕ) (new : Source) (low high : ℕ) (leader : Option ℕ) → ((k : ℕ) → low ≤ k → k < high → k ≡ at → ⊥) → IsLeastOf sources low high leader → IsLeastOf (set sources at new) low high leader
still_least sources at new low high None apart least = λ other none from below.
    ap (λ (s : Source). s.ended) (get_or-set_other sources at other new none (apart other from below)) ∙ least other none from below
still_least sources at new low high (Some k) apart least =
    let own : (none : Source) → get_or (set sources at new) k none ≡ get_or sources k none = λ none. get_or-set_other sources at k new none (apart k least.from least.below) in
    record {
      from = least.from;
      below = least.below;
      inside = omega (arith, least.inside, length-set sources at new);
      running = λ none. ap (λ (s : Source). s.ended) (own none) ∙ least.running none;
      first =
          λ other none from below runs.
          let there = get_or-set_other sources at other new none (apart other from below) in
          ap (λ (s : Source). pair_before s.lines.head (get_or (set sources at new) other none).lines.head) (own none) ∙ ap (λ (s : Source). pair_before (get_or sources k none).lines.head s.lines.head) there ∙ least.first other none from below (sym (ap (λ (s : Source). s.ended) there) ∙ runs);
    }

pub renewed : (sources : List Source) (at : ℕ) (new : Source) (now : List Source) (leaders : List (Option ℕ)) (leader : Option ℕ) (group : ℕ) → now ≡ set sources at new → group ≡ at / 4 → group < length leaders → AreLeaders sources leaders → IsLeastOf now (4 * group) (min (4 * group + 4) (length now)) leader → AreLeaders now (set leaders group leader)
renewed sources at new now leaders leader group is is_group inside before least =
    let many = length-set leaders group leader in
    let long : length now ≡ length sources = ap length is ∙ length-set sources at new in
    record {
      enough = omega (arith, many, long, before.enough);
      few = omega (arith, many, long, before.few);
      each =
          λ k none below.
          ⊎_elim (λ (same : k ≡ group). subst (λ (n : ℕ). IsLeastOf now (4 * n) (min (4 * n + 4) (length now)) (get_or (set leaders group leader) n none)) (sym same) (subst (λ (o : Option ℕ). IsLeastOf now (4 * group) (min (4 * group + 4) (length now)) o) (sym (get_or-set_same leaders group leader none inside)) least)) (λ (other : k ≡ group → ⊥). subst (λ (o : Option ℕ). IsLeastOf now (4 * k) (min (4 * k + 4) (length now)) o) (sym (get_or-set_other leaders group k leader none other)) (subst (λ (n : ℕ). IsLeastOf now (4 * k) (min (4 * k + 4) n) (get_or leaders k none)) (sym long) (subst (λ (l : List Source). IsLeastOf l (4 * k) (min (4 * k + 4) (length sources)) (get_or leaders k none)) (sym is) (still_least sources at new (4 * k) (min (4 * k + 4) (length sources)) (get_or leaders k none) (λ j from to same. other (omega (arith, from, to, same, is_group))) (before.each k none (omega (arith, below, many))))))) (cases_eq k group);
    }

-- ---- steps over the sources of a group, and over the groups

pub leaders_none : (sources : List Source) → LeadersBelow sources [] 0
leaders_none sources = record { many = refl; each = λ group none below. absurd (omega arith) }

pub leaders_more : (sources : List Source) (leaders : List (Option ℕ)) (count : ℕ) (leader : Option ℕ) → LeadersBelow sources leaders count → IsLeastOf sources (4 * count) (min (4 * count + 4) (length sources)) leader → LeadersBelow sources (leaders ++ leader ∷ []) (count + 1)
leaders_more sources leaders count leader so_far least =
    let long = length-append leaders (leader ∷ []) in
    record {
      many = omega (arith, long, so_far.many);
      each =
          λ group none below.
          ⊎_elim (λ (early : group < length leaders). subst (λ (o : Option ℕ). IsLeastOf sources (4 * group) (min (4 * group + 4) (length sources)) o) (sym (get_or_append_left leaders (leader ∷ []) none group early)) (so_far.each group none early)) (λ (late : length leaders ≤ group). let is : group ≡ count = omega (arith, long, so_far.many, late, below) in let there : get_or (leaders ++ leader ∷ []) group none ≡ leader = get_or_at leaders leader [] none group (so_far.many ∙ sym is) in subst (λ (o : Option ℕ). IsLeastOf sources (4 * group) (min (4 * group + 4) (length sources)) o) (sym there) (subst (λ (n : ℕ). IsLeastOf sources (4 * n) (min (4 * n + 4) (length sources)) leader) (sym is) least)) (cases_lt group (length leaders));
    }

pub leaders_all : (sources : List Source) (leaders : List (Option ℕ)) (count : ℕ) → LeadersBelow sources leaders count → count ≡ length sources / 4 + 1 → AreLeaders sources leaders
leaders_all sources leaders count below is =
    let many = below.many in
    record { enough = omega (arith, many, is); few = omega (arith, many, is); each = below.each }

pub next_group : (sources : List Source) (leaders : List (Option ℕ)) (group : ℕ) (none first found : Option ℕ) → AreLeaders sources leaders → group < length leaders → IsLeastOf sources 0 (min (4 * group) (length sources)) first → ((low mid high : ℕ) → low ≤ mid → mid ≤ high → IsLeastOf sources low mid first → IsLeastOf sources mid high (get_or leaders group none) → IsLeastOf sources low high found) → IsLeastOf sources 0 (min (4 * (group + 1)) (length sources)) found
next_group sources leaders group none first found are inside so_far joined =
    let few = are.few in
    let starts : min (4 * group) (length sources) ≡ 4 * group = omega (arith, few, inside) in
    let ends : min (4 * group + 4) (length sources) ≡ min (4 * (group + 1)) (length sources) = omega arith in
    let up : 4 * group ≤ min (4 * group + 4) (length sources) = omega (arith, few, inside) in
    subst (λ (n : ℕ). IsLeastOf sources 0 n found) ends (joined 0 (4 * group) (min (4 * group + 4) (length sources)) (omega arith) up (subst (λ (n : ℕ). IsLeastOf sources 0 n first) starts so_far) (are.each group none inside))

pub all_groups : (sources : List Source) (leaders : List (Option ℕ)) (group : ℕ) (first : Option ℕ) → AreLeaders sources leaders → length leaders ≤ group → IsLeastOf sources 0 (min (4 * group) (length sources)) first → IsLeastOf sources 0 (length sources) first
all_groups sources leaders group first are past so_far =
    let enough = are.enough in
    let whole : min (4 * group) (length sources) ≡ length sources = omega (arith, enough, past) in
    subst (λ (n : ℕ). IsLeastOf sources 0 n first) whole so_far
