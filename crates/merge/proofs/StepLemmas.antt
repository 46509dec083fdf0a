-- What one pair more leaves of the sources.
use Rattle.std.proofs.Common.{◌≡◌, ◌∙◌, ap, sym, refl, subst, ℕ, zero, suc, ◌+◌, ◌<◌, ◌≤◌, true, false, ⊎_elim, List, [], ◌∷◌, ◌++◌, length, get_or, set, drop, if◌then◌else◌, arith}
use Rattle.std.specs.List.{All}
use Rattle.std.proofs.lemmas.Bool.{cases_Bool, cond-true, cond-false}
use Rattle.std.proofs.lemmas.List.{append_assoc, get_or-map, map-set, length-map}
use Rattle.std.proofs.lemmas.List.Elements.{All-get_or, All-map, All-set, All-weaker}
use Rattle.peg_base.specs.Names.{Names, same_path}
use Rattle.peg_text.specs.Pairs.{pair_line}
use Rattle.dir_disk.specs.State.{Held, State, bytes_of}
use Rattle.dir_disk.specs.Calls.{HasFile}
use Rattle.dir_disk.specs.Keeping.{StandsBut}
use Rattle.dir_disk.specs.Lent.{Loan, IsNoOutput}
use Rattle.pairs.specs.Pairs.{Pair, pair_before, pairs_in, pairs_text, sorted_pairs, IsInOrder}
use Rattle.merge.specs.declared.source.Source.{Source}
use Rattle.merge.specs.Sources.{all_of, left_of, lefts, untaken, IsLeast, IsSource}
use Rattle.merge.proofs.MergeLemmas.{IsBeforeAll, in_order_rest, length_taken, merged_step, none_left}

left_running : (state : State) (source : Source) → source.ended ≡ false → left_of state source ≡ source.lines.head ∷ pairs_in (untaken state source)
left_running state source running = cond-false _ _ _ running

left_ended : (state : State) (source : Source) → source.ended ≡ true → left_of state source ≡ []
left_ended state source ended = cond-true _ _ _ ended

-- what is left depends on the run's bytes alone
untaken_same : (s t : State) (source : Source) → s source.path ≡ t source.path → untaken s source ≡ untaken t source
untaken_same s t source same = ap (λ (h : Held). source.lines.rest ++ drop source.place (bytes_of h.now)) same

left_same : (s t : State) (source : Source) → s source.path ≡ t source.path → left_of s source ≡ left_of t source
left_same s t source same =
    ap (λ (bytes : List ℕ). if source.ended then [] else source.lines.head ∷ pairs_in bytes) (untaken_same s t source same)

-- the head is the first pair that is left
first_left : (state : State) (source : Source) (p : Pair) (ps : List Pair) → left_of state source ≡ p ∷ ps → (source.ended ≡ false) × (source.lines.head ≡ p)
first_left state source p ps is =
    ⊎_elim (λ (ended : source.ended ≡ true). let clash : [] ≡ p ∷ ps = sym (left_ended state source ended) ∙ is in absurd cc) (λ (running : source.ended ≡ false). let same : source.lines.head ∷ pairs_in (untaken state source) ≡ p ∷ ps = sym (left_running state source running) ∙ is in (running, cc)) (cases_Bool source.ended)

all_in_order : (out : Names) (state : State) (sources : List Source) → All (IsSource out state) sources → All IsInOrder (lefts state sources)
all_in_order out state sources all =
    All-map IsInOrder (left_of state) sources (All-weaker (IsSource out state) (λ source. IsInOrder (left_of state source)) (λ source is. is.in_order) sources all)

-- ---- the least of them

pub same_at : (sources : List Source) (at : ℕ) (one other : Source) → at < length sources → get_or sources at one ≡ get_or sources at other
same_at [] at one other inside = absurd (omega arith)
same_at (s ∷ sources) zero one other inside = refl
same_at (s ∷ sources) (suc at) one other inside = same_at sources at one other (omega arith)

-- ---- one pair more

-- where all sources have ended no pair is left
pub all_ended : (state : State) (sources : List Source) → ((other : ℕ) (none : Source) → 0 ≤ other → other < length sources → (get_or sources other none).ended ≡ true) → all_of (lefts state sources) ≡ []
all_ended state [] ended = refl
all_ended state (source ∷ sources) ended =
    none_left (lefts state (source ∷ sources)) (λ k inside. let long = length-map (source ∷ sources) (left_of state) in get_or-map (left_of state) (source ∷ sources) k source [] (omega arith) ∙ left_ended state (get_or (source ∷ sources) k source) (ended k source (omega arith) (omega arith)))

module _ (sources : List Source) (at : ℕ) (source new : Source) (is : source ≡ get_or sources at source) (least : IsLeast sources 0 (length sources) at) (path : new.path ≡ source.path) where
  pub lent_more : (lent : List Loan) → All (λ s. IsNoOutput lent s.path) sources → All (λ s. IsNoOutput lent s.path) (set sources at new)
  lent_more lent all =
      All-set (λ s. IsNoOutput lent s.path) sources at new (subst (λ (q : Names). IsNoOutput lent q) (sym (path ∙ ap (λ (s : Source). s.path) is)) (All-get_or (λ s. IsNoOutput lent s.path) sources at source least.inside all)) all

module _ (out : Names) (entry state : State) (sources : List Source) (at : ℕ) (source new : Source) (is : source ≡ get_or sources at source) (least : IsLeast sources 0 (length sources) at) (path : new.path ≡ source.path) (all : All (IsSource out entry) sources) (stands : StandsBut out entry state) (left_now : left_of state new ≡ pairs_in (untaken state source)) where
  running : source.ended ≡ false
  running = ap (λ (s : Source). s.ended) is ∙ least.running source

  own : IsSource out entry source
  own =
      subst (λ (s : Source). IsSource out entry s) (sym is) (All-get_or (IsSource out entry) sources at source least.inside all)

  -- the pairs that are left are those that were left at entry
  left : left_of entry new ≡ pairs_in (untaken entry source)
  left =
      sym (left_same state entry new (stands new.path (ap (same_path out) path ∙ own.other))) ∙ left_now ∙ ap pairs_in (untaken_same state entry source (stands source.path own.other))

  here : get_or (lefts entry sources) at [] ≡ source.lines.head ∷ pairs_in (untaken entry source)
  here =
      get_or-map (left_of entry) sources at source [] least.inside ∙ ap (left_of entry) (sym is) ∙ left_running entry source running

  inside : at < length (lefts entry sources)
  inside = let long = length-map sources (left_of entry) in omega (arith, least.inside)

  after : lefts entry (set sources at new) ≡ set (lefts entry sources) at (pairs_in (untaken entry source))
  after =
      map-set (left_of entry) sources at new ∙ ap (λ (l : List Pair). set (lefts entry sources) at l) left

  first : IsBeforeAll source.lines.head (lefts entry sources)
  first k p ps low begins =
      let long = length-map sources (left_of entry) in
      let low' : k < length sources = omega arith in
      let found = first_left entry (get_or sources k source) p ps (sym (get_or-map (left_of entry) sources k source [] low') ∙ begins) in
      ap (λ (q : Pair). pair_before source.lines.head q) (sym found.1) ∙ ap (λ (s : Source). pair_before s.lines.head (get_or sources k source).lines.head) is ∙ least.first k source (omega arith) low' found.0

  pub sources_more : All (IsSource out entry) (set sources at new)
  sources_more =
      All-set (IsSource out entry) sources at new (record { there = subst (λ (q : Names). HasFile entry q) (sym path) own.there; other = ap (same_path out) path ∙ own.other; in_order = subst (λ (l : List Pair). IsInOrder l) (sym left) (in_order_rest source.lines.head (pairs_in (untaken entry source)) (subst (λ (l : List Pair). IsInOrder l) (left_running entry source running) own.in_order)) }) all

  pub counted_more : (count whole : ℕ) → count + length (all_of (lefts entry sources)) ≡ whole → count + 1 + length (all_of (lefts entry (set sources at new))) ≡ whole
  counted_more count whole so_far =
      let taken = length_taken (lefts entry sources) at source.lines.head (pairs_in (untaken entry source)) inside here in
      let same = ap (λ (ls : List (List Pair)). length (all_of ls)) after in
      omega (arith, taken, same, so_far)

  pub sent_more : (before sent whole : List ℕ) → before ++ pairs_text (sorted_pairs (all_of (lefts entry sources))) ≡ whole → sent ≡ before ++ pair_line source.lines.head.0 source.lines.head.1 → sent ++ pairs_text (sorted_pairs (all_of (lefts entry (set sources at new)))) ≡ whole
  sent_more before sent whole so_far now =
      let line : List ℕ = pair_line source.lines.head.0 source.lines.head.1 in
      let later : List Pair = sorted_pairs (all_of (set (lefts entry sources) at (pairs_in (untaken entry source)))) in
      ap (λ (l : List ℕ). l ++ pairs_text (sorted_pairs (all_of (lefts entry (set sources at new))))) now ∙ ap (λ (ls : List (List Pair)). (before ++ line) ++ pairs_text (sorted_pairs (all_of ls))) after ∙ append_assoc before line (pairs_text later) ∙ ap (λ (ps : List Pair). before ++ pairs_text ps) (sym (merged_step (lefts entry sources) at source.lines.head (pairs_in (untaken entry source)) inside here (all_in_order out entry sources all) first)) ∙ so_far
