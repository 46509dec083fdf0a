-- Sweeps on a block's list of values.
use Rattle.std.proofs.Common.{◌≡◌, ℕ, zero, suc, ◌+◌, ◌-◌, ◌<◌, ◌≤◌, eqb, cond, Bool, true, false, ◌&&◌, IsTrue, List, [], ◌∷◌, ◌++◌, length, get_or, set, map, fold, All, Option, Some, None, option_map, slice_get, refl, sym, ap, subst, ◌∙◌, inl, inr, arith, eqb-true, eq-eqb}
use Rattle.std.specs.List.{range_with_len, list_all, flat_map}
use Rattle.std.proofs.lemmas.Bool.{cases_Bool, eqb-false, ne_eqb, and_from, and_parts, lt-ltb, le-leb, leb-true, ltb-true}
use Rattle.std.proofs.lemmas.Option.{slice_get-map, slice_get-get_or}
use Rattle.std.proofs.lemmas.List.{length-set}
use Rattle.std.proofs.lemmas.List.Elements.{All-nil, All-cons, All-head, All-tail}
use Rattle.graph.specs.Steps.{Vector}
use Rattle.gimv_core.specs.Algebras.{Algebra, FitsVal, FitsWeight, VectorFits}
use Rattle.gimv_core.specs.Laws.{IsLawful}
use Rattle.gimv_core.specs.Closings.{IsClosing}
use Rattle.gimv_core.specs.Consequences.{rounds, block_nodes}
use Rattle.gimv_block.specs.Blocks.{block_size}
use Rattle.gimv_diag.specs.declared.items.Item.{Item}
use Rattle.gimv_diag.specs.DiagonalRules.{values_after, closed_values, inner_items, inner_of}
use Rattle.gimv_diag.specs.Held.{item_fits, line_fits, lines_fit}
use Rattle.gimv_diag.specs.Rounds.{inner_entry, values_from, IsInside}
use Rattle.gimv_diag.specs.Sweeps.{taken_by, sweep, sweeps, row_taken, item_taken, swept, swept_times}
use Rattle.gimv_diag.proofs.ListLemmas.{range_get, map_range_agree, rounds_are_rounds, inside_fits}
use Rattle.gimv_diag.proofs.SweepLemmas.{sweeps_close, sweeps_stop}

set_range : {A : Type 0} (f : ℕ → A) (x : A) (start size r : ℕ) → r < size → set (map f (range_with_len start size)) r x ≡ map (λ i. cond (eqb (start + r) i) x (f i)) (range_with_len start size)
set_range f x start zero r low = absurd (omega arith)
set_range f x start (suc size) zero low =
    let e : start + 0 ≡ start = omega arith in
    ap (λ xs. x ∷ xs) (map_range_agree f (λ i. cond (eqb (start + 0) i) x (f i)) (start + 1) size (λ i above below. sym (ap (λ b. cond b x (f i)) (ne_eqb (start + 0) i (λ is. omega arith)))))
    ∙ ap (λ b. cond b x (f start) ∷ map (λ i. cond (eqb (start + 0) i) x (f i)) (range_with_len (start + 1) size)) (sym (eq-eqb (start + 0) start e))
set_range f x start (suc size) (suc r) low =
    let e : (start + 1) + r ≡ start + suc r = omega arith in
    ap (λ xs. f start ∷ xs) (set_range f x (start + 1) size r (omega arith) ∙ ap (λ k. map (λ i. cond (eqb k i) x (f i)) (range_with_len (start + 1) size)) e)
    ∙ ap (λ b. cond b x (f start) ∷ map (λ i. cond (eqb (start + suc r) i) x (f i)) (range_with_len (start + 1) size)) (sym (ne_eqb (start + suc r) start (λ is. omega arith)))

map_same : {A : Type 0} (f g : ℕ → A) (start size : ℕ) → map f (range_with_len start size) ≡ map g (range_with_len start size) → (k : ℕ) → k < size → f (start + k) ≡ g (start + k)
map_same f g start size same k low =
    let left = slice_get-map f (range_with_len start size) k ∙ ap (option_map f) (range_get start size k low) in
    let right = slice_get-map g (range_with_len start size) k ∙ ap (option_map g) (range_get start size k low) in
    some_is (f (start + k)) (g (start + k)) (sym left ∙ ap (λ xs. slice_get xs k) same ∙ right)
  where
    some_is : {A : Type 0} (x y : A) → Some x ≡ Some y → x ≡ y
    some_is x y e = cc

as_range : {A : Type 0} (d : A) (all xs : List A) (start : ℕ) → ((k : ℕ) → k < length xs → get_or all (start + k) d ≡ get_or xs k d) → xs ≡ map (λ i. get_or all i d) (range_with_len start (length xs))
as_range d all [] start there = refl
as_range d all (x ∷ xs) start there =
    let z : start + 0 ≡ start = omega arith in
    ap (λ y. y ∷ xs) (sym (there 0 (omega arith)) ∙ ap (λ k. get_or all k d) z)
    ∙ ap (λ ys. get_or all start d ∷ ys) (as_range d all xs (start + 1) (λ k low. let e : (start + 1) + k ≡ start + suc k = omega arith in ap (λ i. get_or all i d) e ∙ there (suc k) (omega arith)))

module _ {Val Msg Weight : Type 0} (a : Algebra Val Msg Weight) where
  module _ (start size : ℕ) where
    item_is : (v : Vector Val) (item : Item Weight) → IsInside a size item → item_taken a (values_from start size v) item ≡ values_from start size (taken_by a.algorithm v (inner_entry start item))
    item_is v item inside =
        let vs = values_from start size v in
        let get : (k : ℕ) → k < size → slice_get vs k ≡ Some (v (start + k)) = λ k low. slice_get-map v (range_with_len start size) k ∙ ap (option_map v) (range_get start size k low) in
        ap (λ (o : Option Val). row_taken a vs item o (slice_get vs item.column)) (get item.row inside.row)
        ∙ ap (row_taken a vs item (Some (v (start + item.row)))) (get item.column inside.column)
        ∙ set_range v (a.algorithm.assign (v (start + item.row)) (a.algorithm.combine2 item.weight (v (start + item.column)))) start size item.row inside.row

    swept_is : (items : List (Item Weight)) → All (IsInside a size) items → (v : Vector Val) → swept a items (values_from start size v) ≡ values_from start size (sweep a.algorithm (map (inner_entry start) items) v)
    swept_is [] inside v = refl
    swept_is (item ∷ items) inside v =
        ap (λ (vs : List Val). swept a items vs) (item_is v item (All-head (IsInside a size) item items inside))
        ∙ swept_is items (All-tail (IsInside a size) item items inside) (taken_by a.algorithm v (inner_entry start item))

    times_is : (items : List (Item Weight)) → All (IsInside a size) items → (v : Vector Val) (k : ℕ) → swept_times a items (values_from start size v) k ≡ values_from start size (sweeps a.algorithm (map (inner_entry start) items) k v)
    times_is items inside v zero = refl
    times_is items inside v (suc k) = ap (swept a items) (times_is items inside v k) ∙ swept_is items inside (sweeps a.algorithm (map (inner_entry start) items) k v)

  module _ (as_msg : Val → Msg) (laws : IsLawful a) (closing : IsClosing a as_msg) where
    module _ (size : ℕ) (items : List (Item Weight)) (inside : All (IsInside a size) items) (v : Vector Val) (fits : VectorFits a (block_nodes 0 size) v) where
      in_block : (i : ℕ) → i < 0 + size → IsTrue (block_nodes 0 size i)
      in_block i low = and_from _ _ (le-leb 0 i (omega arith)) (lt-ltb i (0 + size) low)

      times_close : swept_times a items (values_from 0 size v) size ≡ values_from 0 size (rounds a.algorithm (map (inner_entry 0) items) size v)
      times_close =
          let entries = map (inner_entry 0) items in
          times_is 0 size items inside v size
          ∙ map_range_agree (sweeps a.algorithm entries size v) (rounds a.algorithm entries size v) 0 size
          (λ i low high. sweeps_close a as_msg laws closing 0 size entries v (inside_fits a 0 size items inside) fits i (in_block i high))

      times_stop : (k : ℕ) → swept_times a items (values_from 0 size v) (suc k) ≡ swept_times a items (values_from 0 size v) k
          → swept_times a items (values_from 0 size v) k ≡ values_from 0 size (rounds a.algorithm (map (inner_entry 0) items) size v)
      times_stop k same =
          let entries = map (inner_entry 0) items in
          let next = sweeps a.algorithm entries (suc k) v in
          let now = sweeps a.algorithm entries k v in
          let lists : values_from 0 size next ≡ values_from 0 size now = sym (times_is 0 size items inside v (suc k)) ∙ same ∙ times_is 0 size items inside v k in
          times_is 0 size items inside v k
          ∙ map_range_agree now (rounds a.algorithm entries size v) 0 size
          (λ i low high. sweeps_stop a as_msg laws closing 0 size entries v (inside_fits a 0 size items inside) fits k
          (λ j within. let z : 0 + j ≡ j = omega arith in subst (λ x. next x ≡ now x) z (map_same next now 0 size lists j (let parts = and_parts _ _ within in let top = ltb-true j (0 + size) parts.1 in omega arith)))
          i (in_block i high))

    fits_at : (d : Val) (vs : List Val) → list_all a.fits_val vs ≡ true → VectorFits a (block_nodes 0 (length vs)) (λ i. get_or vs i d)
    fits_at d vs all i within = each vs all i (let parts = and_parts _ _ within in let top = ltb-true i (0 + length vs) parts.1 in omega arith)
      where
        each : (vs : List Val) → list_all a.fits_val vs ≡ true → (i : ℕ) → i < length vs → FitsVal a (get_or vs i d)
        each [] all i low = absurd (omega arith)
        each (v ∷ vs) all zero low = (and_parts (a.fits_val v) (list_all a.fits_val vs) all).0
        each (v ∷ vs) all (suc i) low = each vs (and_parts (a.fits_val v) (list_all a.fits_val vs) all).1 i (omega arith)

    is_range : (d : Val) (vs : List Val) → vs ≡ values_from 0 (length vs) (λ i. get_or vs i d)
    is_range d vs = as_range d vs vs 0 (λ k low. let z : 0 + k ≡ k = omega arith in ap (λ i. get_or vs i d) z)

    -- as many sweeps as there are values close them
    pub swept_closed : (items : List (Item Weight)) (vs : List Val) → list_all a.fits_val vs ≡ true → All (IsInside a (length vs)) items → swept_times a items vs (length vs) ≡ closed_values a items vs
    swept_closed items [] fv inside = refl
    swept_closed items (d ∷ ds) fv inside =
        let vs = d ∷ ds in
        let size = length vs in
        let v : Vector Val = λ i. get_or vs i d in
        ap (λ (xs : List Val). swept_times a items xs size) (is_range d vs)
        ∙ times_close size items inside v (fits_at d vs fv)
        ∙ sym (rounds_are_rounds a 0 size items v inside size)
        ∙ ap (λ (xs : List Val). values_after a items xs size) (sym (is_range d vs))

    -- and so does any number of them, where one more changes nothing
    pub swept_stop : (items : List (Item Weight)) (vs : List Val) (k : ℕ) → list_all a.fits_val vs ≡ true → All (IsInside a (length vs)) items
        → swept a items (swept_times a items vs k) ≡ swept_times a items vs k → swept_times a items vs k ≡ closed_values a items vs
    swept_stop items [] k fv inside same = none items inside k
      where
        none : (items : List (Item Weight)) → All (IsInside a 0) items → (k : ℕ) → swept_times a items [] k ≡ []
        none [] inside zero = refl
        none [] inside (suc k) = none [] inside k
        none (item ∷ items) inside k = absurd (let here = (All-head (IsInside a 0) item items inside).row in omega arith)
    swept_stop items (d ∷ ds) k fv inside same =
        let vs = d ∷ ds in
        let size = length vs in
        let v : Vector Val = λ i. get_or vs i d in
        let e = is_range d vs in
        ap (λ (xs : List Val). swept_times a items xs k) e
        ∙ times_stop size items inside v (fits_at d vs fv) k (subst (λ (xs : List Val). swept a items (swept_times a items xs k) ≡ swept_times a items xs k) e same)
        ∙ sym (rounds_are_rounds a 0 size items v inside size)
        ∙ ap (λ (xs : List Val). values_after a items xs size) (sym e)
