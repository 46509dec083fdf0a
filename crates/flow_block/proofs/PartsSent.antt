-- What is put together of the messages of a line.
use Rattle.std.proofs.Common.{◌≡◌, ◌≢◌, ap, subst, Bool, cond, ℕ, zero, suc, ◌+◌, ◌<◌, ◌≤◌, eqb, List, [], ◌∷◌, ◌++◌, map, filter, inl, inr, refl, arith}
use Rattle.std.specs.List.{All, flat_map, range_with_len}
use Rattle.std.proofs.lemmas.Bool.{cases_Bool, eq-eqb, eqb-true, eqb-false}
use Rattle.std.proofs.lemmas.List.Elements.{All-nil, All-cons, All-filter, All-map}
use Rattle.graph.specs.Steps.{all_of}
use Rattle.gimv_core.specs.Algebras.{Algebra, FitsMsg}
use Rattle.gimv_core.specs.Laws.{IsLawful}
use Rattle.gimv_core.proofs.Fitting.{fold_fits}
use Rattle.gimv_block.specs.BlockLines.{messages_in, part_of_row, parts_of}
use Rattle.gimv_block.specs.BlockSteps.{of_some}
use Rattle.list_laws.proofs.Alls.{all_flat_map}
use Rattle.list_laws.proofs.Ranges.{all_below}

none_of_flat : {A : Type 0} (f : ℕ → List A) (i c r : ℕ) → i ≤ r → r < i + c → flat_map f (range_with_len i c) ≡ [] → f r ≡ []
none_of_flat f i zero r low high none = absurd (omega arith)
none_of_flat {A} f i (suc c) r low high none =
    let both = apart (f i) (flat_map f (range_with_len (i + 1) c)) none in
    elim (cases_Bool (eqb i r)) [
      | inl is ↦ subst (λ k. f k ≡ []) (eqb-true i r is) both.0
      | inr isnt ↦ none_of_flat f (i + 1) c r (omega (arith, eqb-false i r isnt)) (omega arith) both.1
    ]
  where
    apart : (xs ys : List A) → xs ++ ys ≡ [] → (xs ≡ []) × (ys ≡ [])
    apart [] ys is = (refl, is)
    apart (x ∷ xs) ys is = cc

module _ {Val Msg Weight : Type 0} (a : Algebra Val Msg Weight) where
  -- a part of a row that there is, with a message that fits
  abbrev pub IsGoodPart : ℕ → ℕ × Msg → Type 0
  IsGoodPart rows p = (p.0 < rows) × FitsMsg a p.1

  abbrev together : ℕ → List Msg → ℕ × Msg
  together row ms = (row, all_of a.algorithm ms)

  module _ (laws : IsLawful a) where
    one_fits : (rows row : ℕ) → row < rows → (ms : List Msg) → All (FitsMsg a) ms → All (IsGoodPart rows) (of_some (together row) ms)
    one_fits rows row low [] all = All-nil (IsGoodPart rows)
    one_fits rows row low (m ∷ ms) all =
        All-cons (IsGoodPart rows) (together row (m ∷ ms)) [] (low, fold_fits a laws a.algorithm.unit (m ∷ ms) laws.in_any_order.unit_fits all) (All-nil (IsGoodPart rows))

    pub parts_fit : (rows : ℕ) (sent : List (ℕ × Msg)) → All (λ (p : ℕ × Msg). FitsMsg a p.1) sent → All (IsGoodPart rows) (parts_of a.algorithm rows sent)
    parts_fit rows sent all =
        all_flat_map (IsGoodPart rows) (part_of_row a.algorithm sent) (range_with_len 0 rows) (all_below rows (λ row. All (IsGoodPart rows) (part_of_row a.algorithm sent row)) (λ row low.
        let here : List (ℕ × Msg) = filter (λ (p : ℕ × Msg). eqb p.0 row) sent in
        one_fits rows row low (messages_in row sent) (All-map (FitsMsg a) (λ (p : ℕ × Msg). p.1) here (All-filter (λ (p : ℕ × Msg). eqb p.0 row) (λ (p : ℕ × Msg). FitsMsg a p.1) sent all))))

  -- where there is a message there is a part
  pub parts_some : (rows : ℕ) (p : ℕ × Msg) (sent : List (ℕ × Msg)) → p.0 < rows → parts_of a.algorithm rows (p ∷ sent) ≢ []
  parts_some rows p sent low none =
      let gone : part_of_row a.algorithm (p ∷ sent) p.0 ≡ [] = none_of_flat (part_of_row a.algorithm (p ∷ sent)) 0 rows p.0 (omega arith) (omega (arith, low)) none in
      let here : messages_in p.0 (p ∷ sent) ≡ p.1 ∷ messages_in p.0 sent =
      ap (λ (b : Bool). map (λ (q : ℕ × Msg). q.1) (cond b (p ∷ filter (λ (q : ℕ × Msg). eqb q.0 p.0) sent) (filter (λ (q : ℕ × Msg). eqb q.0 p.0) sent))) (eq-eqb p.0 p.0 refl) in
      let is : of_some (together p.0) (messages_in p.0 (p ∷ sent)) ≡ together p.0 (p.1 ∷ messages_in p.0 sent) ∷ [] = ap (of_some (together p.0)) here in
      cc
