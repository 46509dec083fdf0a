-- What is kept holds the vectors of a form, and the result of the last one.
use Rattle.std.proofs.Common.{◌≡◌, refl, sym, ap, subst, ℕ, zero, suc, ◌^◌, ◌<◌, ◌≤◌, ◌⊎◌, List, Option, Some, None, inl, inr, arith}
use Rattle.std.specs.Prelude.{IsSome, IfSome}
use Rattle.std.proofs.lemmas.Bool.{cases_lt, false≢true}
use Rattle.graph.specs.declared.edges.Edge.{Edge}
use Rattle.conf.specs.declared.reading.Conf.{Conf}
use Rattle.conf.specs.Limits.{IsWithinLimits}
use Rattle.dir_disk.specs.State.{Content, Image}
use Rattle.committer.specs.Paths.{success_of}
use Rattle.job.specs.Whole.{HasOutputIfWhole}
use Rattle.mining.specs.declared.place.Place.TheVariants.{Vector, Results}
use Rattle.mining.specs.Flow.{flow, last_of, mining_of}
use Rattle.mining.specs.Kept.{Has, Kept}
use Rattle.mining.specs.Places.{folder_of, is_sealed, rank_of}
use Rattle.mining.proofs.LastLemmas.{most_small}
use Rattle.flow_core.specs.Following.{Giving}
use Rattle.flow_base.specs.Layouts.{Sequence, result_parts}
use Rattle.flow.specs.Held.{IsWholeUpTo}
use Rattle.flow_forms.specs.Ends.{EndsWith}
use Rattle.flow_forms.specs.Held.{HoldsAll, HoldsVectors, FormsKeepIterations}

-- ---- the newest iteration that an image has whole

there_or_not : (content : Content) → IsSome content ⊎ (IsSome content → ⊥)
there_or_not None = inr (λ is. false≢true is)
there_or_not (Some bytes) = inl refl

-- of the iterations up to n
abbrev IsNewest : ℕ → Image → Option ℕ → Type 0
IsNewest n image None = (j : ℕ) → j ≤ n → Has (Vector j) image → ⊥
IsNewest n image (Some k) =
    (k ≤ n) × Has (Vector k) image × ((j : ℕ) → k < j → j ≤ n → Has (Vector j) image → ⊥)

record Newest (n : ℕ) (image : Image) : Type 0 where
  found : Option ℕ
  is : IsNewest n image found

one_more : (n : ℕ) (image : Image) (found : Option ℕ) → (Has (Vector (suc n)) image → ⊥) → IsNewest n image found → IsNewest (suc n) image found
one_more n image None isnt none =
    λ j low has. elim (cases_lt j (suc n)) [
      | inl below ↦ none j (omega (arith, below)) has
      | inr above ↦ let same : j ≡ suc n = omega (arith, above, low) in isnt (subst (λ (i : ℕ). Has (Vector i) image) same has)
    ]
one_more n image (Some k) isnt is =
    let few = is.0 in (
      omega (arith, few),
      is.1,
      λ j late low has. elim (cases_lt j (suc n)) [
        | inl below ↦ is.2 j late (omega (arith, below)) has
        | inr above ↦ let same : j ≡ suc n = omega (arith, above, low) in isnt (subst (λ (i : ℕ). Has (Vector i) image) same has)
      ],
    )

newest : (n : ℕ) (image : Image) → Newest n image
newest zero image =
    elim (there_or_not (image (success_of (folder_of (Vector 0))))) [
      | inl is ↦ record { found = Some 0; is = (omega arith, is, λ j late low has. absurd (omega (arith, late, low))) }
      | inr isnt ↦ record { found = None; is = λ j low has. let same : j ≡ 0 = omega (arith, low) in isnt (subst (λ (i : ℕ). Has (Vector i) image) same has) }
    ]
newest (suc n) image =
    elim (there_or_not (image (success_of (folder_of (Vector (suc n)))))) [
      | inl is ↦ record { found = Some (suc n); is = (omega arith, is, λ j late low has. absurd (omega (arith, late, low))) }
      | inr isnt ↦ let before = newest n image in record { found = before.found; is = one_more n image before.found isnt before.is }
    ]

newest_few : (n : ℕ) (image : Image) (found : Option ℕ) → IsNewest n image found → IfSome found (λ k. k ≤ n)
newest_few n image None is = tt
newest_few n image (Some k) is = is.0

-- ---- what is whole in what is kept

module _ (gives : Giving) (conf : Conf) (edges : List Edge) (last : ℕ) (is_last : last_of (mining_of gives conf edges) ≡ Some last) (small : last < 10 ^ 10) (image : Image) (kept : Kept (mining_of gives conf edges) image) where
  allowed : (j : ℕ) → j ≤ last → IfSome (last_of (mining_of gives conf edges)) (λ l. j ≤ l)
  allowed j low = subst (λ (found : Option ℕ). IfSome found (λ l. j ≤ l)) (sym is_last) low

  bounded : (j : ℕ) → j < 10 ^ 10 → Has (Vector j) image → j ≤ last
  bounded j few has = subst (λ (found : Option ℕ). IfSome found (λ l. j ≤ l)) is_last (kept.bounds (Vector j) few has)

  before_vector : (j k : ℕ) → j < k → k ≤ last → Has (Vector k) image → Has (Vector j) image
  unfolding rank_of
  before_vector j k less low has =
      kept.order (Vector k) (Vector j) (omega (arith, low, small)) refl (record {
        before = omega (arith, less);
        is_there = omega (arith, less, low, small);
        made = refl;
        stays = refl;
        up_to = allowed j (omega (arith, less, low));
      }) has

  before_result : (k : ℕ) → k ≤ last → Has Results image → Has (Vector k) image
  unfolding rank_of
  before_result k low has =
      kept.order Results (Vector k) tt refl (record {
        before = omega (arith, low, small);
        is_there = omega (arith, low, small);
        made = refl;
        stays = refl;
        up_to = allowed k low;
      }) has

  whole_up_to : (found : Option ℕ) → IsNewest last image found → IsWholeUpTo found image
  whole_up_to None none = λ j few has. none j (bounded j few has) has
  whole_up_to (Some k) is =
      let low = is.0 in (
        λ j le. elim (cases_lt j k) [
          | inl less ↦ before_vector j k less low is.1
          | inr above ↦ let same : k ≡ j = omega (arith, above, le) in subst (λ (i : ℕ). Has (Vector i) image) same is.1
        ],
        λ j few has. elim (cases_lt k j) [
          | inl late ↦ absurd (is.2 j late (bounded j few has) has)
          | inr le ↦ le
        ],
      )

-- ---- what they hold

module _ (gives : Giving) (conf : Conf) (limits : IsWithinLimits conf) (edges : List Edge) (s : Sequence) (ends : EndsWith gives conf edges s)
    (vector : ℕ → List (List ℕ)) (vectors : (k : ℕ) → flow (mining_of gives conf edges) (Vector k) ≡ vector k) (image : Image) (kept : Kept (mining_of gives conf edges) image) where
  last_small : ends.last < 10 ^ 10
  last_small = let soon = ends.soon in let small = most_small conf limits in omega (arith, soon, small)

  vector_held : (k : ℕ) → k < 10 ^ 10 → HasOutputIfWhole (folder_of (Vector k)) (vector k) image
  vector_held k few =
      subst (λ (parts : List (List ℕ)). HasOutputIfWhole (folder_of (Vector k)) parts image) (vectors k) (kept.contents (Vector k) few (λ same. false≢true (ap is_sealed same)))

  result_held : HasOutputIfWhole (folder_of Results) (result_parts s conf.nodes conf.reducers ends.last) image
  result_held =
      subst (λ (parts : List (List ℕ)). HasOutputIfWhole (folder_of Results) parts image) ends.result (kept.contents Results tt (λ same. false≢true (ap is_sealed same)))

  holds_vectors : HoldsVectors conf s vector image
  holds_vectors =
      let front = newest ends.last image in record {
        newest = front.found;
        whole = whole_up_to gives conf edges ends.last ends.is_last last_small image kept front.found front.is;
        last = ends.last;
        is_last = ends.first;
        few = newest_few ends.last image front.found front.is;
        vectors = vector_held;
        result = result_held;
      }

  holds_all : Has Results image → HoldsAll conf s vector image
  holds_all whole = record {
    last = ends.last;
    is_last = ends.first;
    vectors = λ k low. let there = before_result gives conf edges ends.last ends.is_last last_small image kept k low whole in (there, vector_held k (omega (arith, low, last_small)) there);
    whole = whole;
    result = result_held whole;
  }

pub forms_keep_iterations : FormsKeepIterations
forms_keep_iterations gives conf limits edges s ends vector vectors = record { iterates = holds_vectors gives conf limits edges s ends vector vectors; all = holds_all gives conf limits edges s ends vector vectors }
