-- What items pass on fits, and the lines of closed values.
use Rattle.std.proofs.Common.{◌≡◌, ℕ, zero, suc, ◌+◌, ◌-◌, ◌<◌, ◌≤◌, eqb, Bool, true, false, ◌&&◌, IsTrue, List, [], ◌∷◌, ◌++◌, length, get_or, set, take, drop, map, fold, All, replicate, Option, Some, None, IfSome, if◌then◌else◌, slice_get, decimal, refl, sym, ap, subst, ◌∙◌, inl, inr, arith}
use Rattle.std.specs.List.{list_all, flat_map, range_with_len, join_with_byte}
use Rattle.std.proofs.lemmas.Bool.{cases_Bool, cases_lt, and_from, and_parts, ltb-true}
use Rattle.std.proofs.lemmas.List.{append-nil, nil_from_length, get_or-replicate, get_or_past, length-replicate, length-map, get_or-map}
use Rattle.std.proofs.lemmas.List.Elements.{All-nil, All-cons, All-head, All-tail}
use Rattle.gimv_core.specs.Algebras.{Algebra, FitsVal, FitsMsg, FitsWeight}
use Rattle.gimv_core.specs.Laws.{IsLawful}
use Rattle.gimv_core.specs.Closings.{IsClosing}
use Rattle.gimv_base.specs.Lines.{with_lf}
use Rattle.gimv_block.specs.BlockLines.{parts_text, parts_line}
use Rattle.gimv_block.specs.Rows.{take_in, RowsFit, with_one, part_at, part_from, parts_in}
use Rattle.gimv_block.specs.Blocks.{block_size}
use Rattle.gimv_block.proofs.RowLemmas.{rows_are_parts}
use Rattle.gimv_diag.specs.declared.items.Item.{Item}
use Rattle.gimv_diag.specs.DiagonalRules.{passed_from, passed_value, own_parts, own_line, passed_line, inner_items, inner_of}
use Rattle.gimv_diag.specs.Held.{item_fits, line_fits, lines_fit}

module _ {Val Msg Weight : Type 0} (a : Algebra Val Msg Weight) (laws : IsLawful a) where
  abbrev Fits : ℕ × Msg → Type 0
  Fits sent = FitsMsg a sent.1

  -- ---- what items pass on fits

  get_has : {A : Type 0} (p : A → Bool) (xs : List A) (k : ℕ) → list_all p xs ≡ true → k < length xs → (x : A) × (IsTrue (p x))
  get_has p [] k all low = absurd (omega arith)
  get_has p (x ∷ xs) zero all low = (x, (and_parts (p x) (list_all p xs) all).0)
  get_has p (x ∷ xs) (suc k) all low = get_has p xs k (and_parts (p x) (list_all p xs) all).1 (omega arith)

  with_one_fits : (row : Option Msg) (m : Msg) → IfSome row (FitsMsg a) → FitsMsg a m → FitsMsg a (with_one a row m)
  with_one_fits None m fr fm = fm
  with_one_fits (Some all) m fr fm = laws.in_any_order.combine_fits all m fr fm

  pub set_fits : (rows : List (Option Msg)) (r : ℕ) (m : Msg) → FitsMsg a m → RowsFit a rows → RowsFit a (set rows r (Some (with_one a (get_or rows r None) m)))
  set_fits [] r m fm all = all
  set_fits (row ∷ rows) zero m fm all =
      let P : Option Msg → Type 0 = λ row. IfSome row (FitsMsg a) in
      All-cons P (Some (with_one a row m)) rows (with_one_fits row m (All-head P row rows all) fm) (All-tail P row rows all)
  set_fits (row ∷ rows) (suc r) m fm all =
      let P : Option Msg → Type 0 = λ row. IfSome row (FitsMsg a) in
      All-cons P row (set rows r (Some (with_one a (get_or rows r None) m))) (All-head P row rows all) (set_fits rows r m fm (All-tail P row rows all))

  pub find_has : (p : Val → Bool) (vs : List Val) (k : ℕ) → list_all p vs ≡ true → IfSome (slice_get vs k) (λ v. IsTrue (p v))
  find_has p [] k all = tt
  find_has p (v ∷ vs) zero all = (and_parts (p v) (list_all p vs) all).0
  find_has p (v ∷ vs) (suc k) all = find_has p vs k (and_parts (p v) (list_all p vs) all).1

  passed_one : (item : Item Weight) (found : Option Val) → IsTrue (a.fits_weight item.weight) → IfSome found (FitsVal a) → All Fits (passed_value a item found)
  passed_one item None fw fv = All-nil Fits
  passed_one item (Some v) fw fv = All-cons Fits (item.row, a.algorithm.combine2 item.weight v) [] (laws.combine2_fits item.weight v fw fv) (All-nil Fits)

  all_append : {A : Type 0} (P : A → Type 0) (xs ys : List A) → All P xs → All P ys → All P (xs ++ ys)
  all_append P [] ys left right = right
  all_append P (x ∷ xs) ys left right = All-cons P x (xs ++ ys) (All-head P x xs left) (all_append P xs ys (All-tail P x xs left) right)

  -- the weights of items fit
  abbrev pub weighs : Item Weight → Bool
  weighs item = a.fits_weight item.weight

  pub passed_fit : (vs : List Val) (items : List (Item Weight)) → list_all a.fits_val vs ≡ true → list_all weighs items ≡ true → All Fits (flat_map (passed_from a vs) items)
  passed_fit vs [] fv fw = All-nil Fits
  passed_fit vs (item ∷ items) fv fw =
      let parts = and_parts (weighs item) (list_all weighs items) fw in
      all_append Fits (passed_from a vs item) (flat_map (passed_from a vs) items) (passed_one item (slice_get vs item.column) parts.0 (find_has a.fits_val vs item.column fv)) (passed_fit vs items fv parts.1)

  pub weighs_if_fits : (rows columns : ℕ) (items : List (Item Weight)) → list_all (item_fits a rows columns) items ≡ true → list_all weighs items ≡ true
  weighs_if_fits rows columns [] all = refl
  weighs_if_fits rows columns (item ∷ items) all =
      let parts = and_parts (item_fits a rows columns item) (list_all (item_fits a rows columns) items) all in
      and_from (weighs item) (list_all weighs items) (and_parts _ _ (and_parts _ _ parts.0).1).1 (weighs_if_fits rows columns items parts.1)

  module _ (as_msg : Val → Msg) (closing : IsClosing a as_msg) where
    -- ---- the values as messages to their own places

    pub own_fit : (vs : List Val) → list_all a.fits_val vs ≡ true → RowsFit a (map (λ v. Some (as_msg v)) vs)
    own_fit [] all = All-nil (λ (row : Option Msg). IfSome row (FitsMsg a))
    own_fit (v ∷ vs) all =
        let parts = and_parts (a.fits_val v) (list_all a.fits_val vs) all in
        All-cons (λ (row : Option Msg). IfSome row (FitsMsg a)) (Some (as_msg v)) (map (λ v. Some (as_msg v)) vs) (closing.as_msg_fits v parts.0) (own_fit vs parts.1)

    own_parts_are : (rows : List (Option Msg)) (start : ℕ) (vs : List Val) → ((k : ℕ) → k < length vs → get_or rows (start + k) None ≡ get_or (map (λ v. Some (as_msg v)) vs) k None)
        → flat_map (part_at rows) (range_with_len start (length vs)) ≡ own_parts as_msg start vs
    own_parts_are rows start [] there = refl
    own_parts_are rows start (v ∷ vs) there =
        let here : get_or rows start None ≡ Some (as_msg v) = let e : start + 0 ≡ start = omega arith in ap (λ (k : ℕ). get_or rows k None) (sym e) ∙ there 0 (omega arith) in
        ap (λ (row : Option Msg). part_from start row ++ flat_map (part_at rows) (range_with_len (start + 1) (length vs))) here
        ∙ ap (λ (parts : List (ℕ × Msg)). (start, as_msg v) ∷ parts)
        (own_parts_are rows (start + 1) vs (λ k low. let e : (start + 1) + k ≡ start + suc k = omega arith in ap (λ (i : ℕ). get_or rows i None) e ∙ there (suc k) (omega arith)))

    pub own_written : (rows : List (Option Msg)) (j : ℕ) (vs : List Val) (old new : List ℕ) → rows ≡ map (λ v. Some (as_msg v)) vs
        → new ≡ old ++ with_lf (parts_text a j (parts_in rows))
        → new ≡ old ++ own_line a as_msg j vs
    own_written rows j vs old new is more =
        let line : List (ℕ × Msg) → List ℕ = λ parts. old ++ with_lf (parts_text a j parts) in
        let long : length rows ≡ length vs = ap length is ∙ length-map vs (λ v. Some (as_msg v)) in
        more
        ∙ ap (λ (k : ℕ). line (flat_map (part_at rows) (range_with_len 0 k))) long
        ∙ ap line (own_parts_are rows 0 vs (λ k low. let e : 0 + k ≡ k = omega arith in ap (λ (i : ℕ). get_or rows i None) e ∙ ap (λ (rs : List (Option Msg)). get_or rs k None) is))

  -- what a line of items passes on is written
  pub line_written : (len n block : ℕ) (vs : List Val) (items : List (Item Weight)) (cleared rows : List (Option Msg)) (old new : List ℕ)
      → list_all a.fits_val vs ≡ true → list_all (item_fits a (block_size len n block) (length vs)) items ≡ true → cleared ≡ replicate (block_size len n block) None
      → rows ≡ fold (take_in a) cleared (flat_map (passed_from a vs) items) → length rows ≡ length cleared
      → new ≡ old ++ with_lf (parts_text a block (parts_in rows))
      → new ≡ old ++ passed_line a len n vs (block, items)
  line_written len n block vs items cleared rows old new fv fits none is long more =
      let size = block_size len n block in
      let sent = flat_map (passed_from a vs) items in
      let line : List (ℕ × Msg) → List ℕ = λ parts. old ++ with_lf (parts_text a block parts) in
      let rows_long : length rows ≡ size = long ∙ ap length none ∙ length-replicate {A = Option Msg} size None in
      more
      ∙ ap (λ (k : ℕ). line (flat_map (part_at rows) (range_with_len 0 k))) rows_long
      ∙ ap (λ (rs : List (Option Msg)). line (flat_map (part_at rs) (range_with_len 0 size))) (is ∙ ap (λ (rs : List (Option Msg)). fold (take_in a) rs sent) none)
      ∙ ap line (rows_are_parts a laws size sent (passed_fit vs items fv (weighs_if_fits size (length vs) items fits)))

  weighs_append : (xs ys : List (Item Weight)) → list_all weighs xs ≡ true → list_all weighs ys ≡ true → list_all weighs (xs ++ ys) ≡ true
  weighs_append [] ys left right = right
  weighs_append (x ∷ xs) ys left right =
      let parts = and_parts (weighs x) (list_all weighs xs) left in and_from (weighs x) (list_all weighs (xs ++ ys)) parts.0 (weighs_append xs ys parts.1 right)

  pub inner_weighs : (len n j columns : ℕ) (lines : List (ℕ × List (Item Weight))) → lines_fit a len n columns lines ≡ true → list_all weighs (inner_items j lines) ≡ true
  inner_weighs len n j columns [] all = refl
  inner_weighs len n j columns (line ∷ lines) all =
      let parts = and_parts (line_fits a len n columns line) (lines_fit a len n columns lines) all in
      let rest = inner_weighs len n j columns lines parts.1 in
      elim (cases_Bool (eqb line.0 j)) [
        | inl here ↦ rw here (weighs_append line.1 (inner_items j lines) (weighs_if_fits (block_size len n line.0) columns line.1 parts.0) rest)
        | inr there ↦ rw there rest
      ]
