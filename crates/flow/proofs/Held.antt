-- What is kept holds the iterates, and what a run says of them are their own counts.
use Rattle.std.proofs.Common.{◌≡◌, refl, sym, ap, ◌∙◌, subst, ℕ, zero, suc, ◌+◌, ◌-◌, ◌^◌, ◌<◌, ◌≤◌, ◌⊎◌, List, [], ◌∷◌, ◌++◌, Option, Some, None, inl, inr, arith}
use Rattle.std.specs.Prelude.{◌==◌, IsSome, IfSome, unwrap_or}
use Rattle.std.specs.List.{flat_map, range_with_len}
use Rattle.std.proofs.lemmas.Bool.{cases_lt, false≢true}
use Rattle.graph.specs.declared.edges.Edge.{Edge}
use Rattle.graph.specs.Entries.{hadi_entries}
use Rattle.hadi.specs.Radii.{IsRadius}
use Rattle.conf.specs.declared.reading.Conf.{Conf}
use Rattle.dir_disk.specs.State.{Content, Image}
use Rattle.committer.specs.Paths.{success_of}
use Rattle.job.specs.Whole.{HasOutputIfWhole}
use Rattle.mining.specs.declared.place.Place.TheVariants.{Vector, Results}
use Rattle.mining.specs.Places.{folder_of, is_sealed, rank_of}
use Rattle.mining.specs.Flow.{flow, is_unchanged, last_of, mining_of, total_in}
use Rattle.mining.specs.Iterations.{console, console_after, done_line_at, line_at, lines_after}
use Rattle.mining.specs.Kept.{Has, Kept}
use Rattle.mining.proofs.LastLemmas.{most_small}
use Rattle.report.specs.Lines.{done_text, iteration_text, resumed_text}
use Rattle.flow_core.specs.Following.{Giving}
use Rattle.flow.specs.Children.{FollowsChildren}
use Rattle.flow.specs.Iterates.{IsBaseRun, IsLast, changed_of, layout_of, result_of, total_after}
use Rattle.flow.specs.Laws.{AreCountable, HasResult}
use Rattle.flow.specs.Held.{IsWholeUpTo, KeptHoldsIterates, KeptHoldsResult, ConsoleIsOfIterates, iterate_line, iterates_after, iterates_console, iterates_done}
use Rattle.flow.proofs.Base.{base_flow}
use Rattle.flow.proofs.Ends.{base_result, components_end, last_is_one}
use Rattle.flow.proofs.Radii.{radii_end}

-- ---- the newest iteration that an image has whole

there_or_not : (content : Content) → IsSome content ⊎ (IsSome content → ⊥)
there_or_not None = inr (λ is. false≢true is)
there_or_not (Some bytes) = inl refl

-- of the iterations up to n
abbrev IsNewest : ℕ → Image → Option ℕ → Type 0
IsNewest n image None = (j : ℕ) → j ≤ n → Has (Vector j) image → ⊥
IsNewest n image (Some k) =
    (k ≤ n) × Has (Vector k) image × ((j : ℕ) → k < j → j ≤ n → Has (Vector j) image → ⊥)

record Newest (n : ℕ) (image : Image) : Type 0 where
  found : Option ℕ
  is : IsNewest n image found

one_more : (n : ℕ) (image : Image) (found : Option ℕ) → (Has (Vector (suc n)) image → ⊥) → IsNewest n image found → IsNewest (suc n) image found
one_more n image None isnt none =
    λ j low has. elim (cases_lt j (suc n)) [
      | inl below ↦ none j (omega (arith, below)) has
      | inr above ↦ let same : j ≡ suc n = omega (arith, above, low) in isnt (subst (λ (i : ℕ). Has (Vector i) image) same has)
    ]
one_more n image (Some k) isnt is =
    let few = is.0 in (
      omega (arith, few),
      is.1,
      λ j late low has. elim (cases_lt j (suc n)) [
        | inl below ↦ is.2 j late (omega (arith, below)) has
        | inr above ↦ let same : j ≡ suc n = omega (arith, above, low) in isnt (subst (λ (i : ℕ). Has (Vector i) image) same has)
      ],
    )

newest : (n : ℕ) (image : Image) → Newest n image
newest zero image =
    elim (there_or_not (image (success_of (folder_of (Vector 0))))) [
      | inl is ↦ record { found = Some 0; is = (omega arith, is, λ j late low has. absurd (omega (arith, late, low))) }
      | inr isnt ↦ record { found = None; is = λ j low has. let same : j ≡ 0 = omega (arith, low) in isnt (subst (λ (i : ℕ). Has (Vector i) image) same has) }
    ]
newest (suc n) image =
    elim (there_or_not (image (success_of (folder_of (Vector (suc n)))))) [
      | inl is ↦ record { found = Some (suc n); is = (omega arith, is, λ j late low has. absurd (omega (arith, late, low))) }
      | inr isnt ↦ let before = newest n image in record { found = before.found; is = one_more n image before.found isnt before.is }
    ]

newest_few : (n : ℕ) (image : Image) (found : Option ℕ) → IsNewest n image found → IfSome found (λ k. k ≤ n)
newest_few n image None is = tt
newest_few n image (Some k) is = is.0

-- ---- what is whole in what is kept

module _ (gives : Giving) (conf : Conf) (edges : List Edge) (last : ℕ) (is_last : last_of (mining_of gives conf edges) ≡ Some last) (small : last < 10 ^ 10) (image : Image) (kept : Kept (mining_of gives conf edges) image) where
  allowed : (j : ℕ) → j ≤ last → IfSome (last_of (mining_of gives conf edges)) (λ l. j ≤ l)
  allowed j low = subst (λ (found : Option ℕ). IfSome found (λ l. j ≤ l)) (sym is_last) low

  bounded : (j : ℕ) → j < 10 ^ 10 → Has (Vector j) image → j ≤ last
  bounded j few has = subst (λ (found : Option ℕ). IfSome found (λ l. j ≤ l)) is_last (kept.bounds (Vector j) few has)

  before_vector : (j k : ℕ) → j < k → k ≤ last → Has (Vector k) image → Has (Vector j) image
  unfolding rank_of
  before_vector j k less low has =
      kept.order (Vector k) (Vector j) (omega (arith, low, small)) refl (record {
        before = omega (arith, less);
        is_there = omega (arith, less, low, small);
        made = refl;
        stays = refl;
        up_to = allowed j (omega (arith, less, low));
      }) has

  before_result : (k : ℕ) → k ≤ last → Has Results image → Has (Vector k) image
  unfolding rank_of
  before_result k low has =
      kept.order Results (Vector k) tt refl (record {
        before = omega (arith, low, small);
        is_there = omega (arith, low, small);
        made = refl;
        stays = refl;
        up_to = allowed k low;
      }) has

  whole_up_to : (found : Option ℕ) → IsNewest last image found → IsWholeUpTo found image
  whole_up_to None none = λ j few has. none j (bounded j few has) has
  whole_up_to (Some k) is =
      let low = is.0 in (
        λ j le. elim (cases_lt j k) [
          | inl less ↦ before_vector j k less low is.1
          | inr above ↦ let same : k ≡ j = omega (arith, above, le) in subst (λ (i : ℕ). Has (Vector i) image) same is.1
        ],
        λ j few has. elim (cases_lt k j) [
          | inl late ↦ absurd (is.2 j late (bounded j few has) has)
          | inr le ↦ le
        ],
      )

-- ---- each iteration is so many steps

module _ (gives : Giving) (children : FollowsChildren gives) (conf : Conf) (run : IsBaseRun conf) (edges : List Edge) (good : AreCountable conf.nodes edges) (image : Image) (kept : Kept (mining_of gives conf edges) image) where
  steps_held : (k : ℕ) → k < 10 ^ 10 → HasOutputIfWhole (folder_of (Vector k)) (layout_of conf edges k) image
  steps_held k few =
      subst (λ (parts : List (List ℕ)). HasOutputIfWhole (folder_of (Vector k)) parts image) (base_flow gives children conf run edges good k).vector (kept.contents (Vector k) few (λ same. false≢true (ap is_sealed same)))

  result_held : (has : HasResult gives conf edges) → HasOutputIfWhole (folder_of Results) (result_of conf edges has.last) image
  result_held has =
      subst (λ (parts : List (List ℕ)). HasOutputIfWhole (folder_of Results) parts image) has.result (kept.contents Results tt (λ same. false≢true (ap is_sealed same)))

last_small : (gives : Giving) (conf : Conf) (run : IsBaseRun conf) (edges : List Edge) (has : HasResult gives conf edges) → has.last < 10 ^ 10
last_small gives conf run edges has = let soon = has.soon in let small = most_small conf run.limits in omega (arith, soon, small)

pub kept_holds_iterates : KeptHoldsIterates
kept_holds_iterates gives children conf run edges good image kept =
    let has = base_result gives children conf run edges good in
    let front = newest has.last image in record {
      newest = front.found;
      whole = whole_up_to gives conf edges has.last has.is_last (last_small gives conf run edges has) image kept front.found front.is;
      last = has.last;
      is_last = has.first;
      few = newest_few has.last image front.found front.is;
      steps = steps_held gives children conf run edges good image kept;
      result = result_held gives children conf run edges good image kept has;
    }

pub kept_holds_result : KeptHoldsResult
kept_holds_result gives children conf run edges good image kept whole =
    let has = base_result gives children conf run edges good in
    let small = last_small gives conf run edges has in record {
      last = has.last;
      is_last = has.first;
      soon = has.soon;
      vectors = λ k low. let there = before_result gives conf edges has.last has.is_last small image kept k low whole in (there, steps_held gives children conf run edges good image kept k (omega (arith, low, small)) there);
      whole = whole;
      result = result_held gives children conf run edges good image kept has whole;
      least = λ is labels are. sym has.result ∙ (components_end gives children conf run is edges good).least labels are;
      radii = λ is radius are.
          let end = radii_end gives children conf run is edges good in
          let same : has.last ≡ end.last = ap (λ (found : Option ℕ). unwrap_or found 0) (sym has.is_last ∙ end.is_last) in
          sym has.result ∙ end.radii radius (λ node low. subst (λ (l : ℕ). IsRadius conf.seed (hadi_entries conf.sym edges) l node (radius node)) same (are node low));
    }

-- ---- what a run says

flat_map_same : (f g : ℕ → List ℕ) → ((k : ℕ) → f k ≡ g k) → (ks : List ℕ) → flat_map f ks ≡ flat_map g ks
flat_map_same f g same [] = refl
flat_map_same f g same (k ∷ ks) = ap (λ bytes. bytes ++ flat_map f ks) (same k) ∙ ap (λ bytes. g k ++ bytes) (flat_map_same f g same ks)

module _ (gives : Giving) (children : FollowsChildren gives) (conf : Conf) (run : IsBaseRun conf) (edges : List Edge) (good : AreCountable conf.nodes edges) where
  line_is : (k : ℕ) → line_at (mining_of gives conf edges) k ≡ iterate_line conf edges k
  line_is k = ap (λ (count : Option ℕ). iteration_text k (unwrap_or count 0)) (base_flow gives children conf run edges good k).count

  module _ (last : ℕ) (first : IsLast conf (changed_of conf edges) last) where
    abbrev has : HasResult gives conf edges
    has = base_result gives children conf run edges good

    same_last : has.last ≡ last
    same_last = last_is_one conf (changed_of conf edges) has.last last has.first first

    done_is : done_line_at (mining_of gives conf edges) last ≡ iterates_done conf edges last
    done_is =
        ap (λ (count : Option ℕ). done_text conf last (is_unchanged count) (unwrap_or (total_in conf.command (flow (mining_of gives conf edges) Results)) 0)) (base_flow gives children conf run edges good last).count
        ∙ ap (λ (total : Option ℕ). done_text conf last (changed_of conf edges last == 0) (unwrap_or total 0)) (has.total ∙ ap (λ (l : ℕ). Some (total_after conf edges l)) same_last)

    after_is : (k : ℕ) → console_after (mining_of gives conf edges) k last ≡ iterates_after conf edges k last
    after_is k =
        ap (λ bytes. bytes ++ done_line_at (mining_of gives conf edges) last) (flat_map_same (line_at (mining_of gives conf edges)) (iterate_line conf edges) line_is (range_with_len (k + 1) (last - k)))
        ∙ ap (λ bytes. flat_map (iterate_line conf edges) (range_with_len (k + 1) (last - k)) ++ bytes) done_is

    said_is : (k : Option ℕ) → console (mining_of gives conf edges) k last ≡ iterates_console conf edges k last
    said_is None = ap (λ bytes. bytes ++ console_after (mining_of gives conf edges) 0 last) (line_is 0) ∙ ap (λ bytes. iterate_line conf edges 0 ++ bytes) (after_is 0)
    said_is (Some k) = ap (λ bytes. resumed_text k ++ bytes) (after_is k)

pub console_is_of_iterates : ConsoleIsOfIterates
console_is_of_iterates gives children conf run edges good last first =
    let has = base_result gives children conf run edges good in
    (has.is_last ∙ ap Some (same_last gives children conf run edges good last first), said_is gives children conf run edges good last first)
