-- A sweep, item by item and line by line.
use Rattle.std.proofs.Common.{◌≡◌, ℕ, zero, suc, ◌+◌, ◌-◌, ◌<◌, ◌≤◌, eqb, eqb-true, Bool, true, false, ◌&&◌, IsTrue, List, [], ◌∷◌, ◌++◌, length, get_or, set, take, drop, fold, All, Option, Some, None, IfSome, slice_get, refl, sym, ap, subst, ◌∙◌, inl, inr, arith}
use Rattle.std.specs.List.{list_all, flat_map}
use Rattle.std.proofs.lemmas.Bool.{cases_Bool, and_from, and_parts}
use Rattle.std.proofs.lemmas.Option.{slice_get_read}
use Rattle.std.proofs.lemmas.List.{at_drop_more, drop_all, length-set, set-get_or}
use Rattle.std.proofs.lemmas.List.Elements.{All-nil, All-cons}
use Rattle.std.proofs.lemmas.List.Sums.{fold-append}
use Rattle.gimv_core.specs.Algebras.{Algebra, FitsVal, FitsWeight}
use Rattle.gimv_core.specs.Laws.{IsLawful}
use Rattle.gimv_core.specs.Closings.{IsClosing}
use Rattle.gimv_block.specs.Blocks.{block_size}
use Rattle.gimv_diag.specs.declared.items.Item.{Item}
use Rattle.gimv_diag.specs.declared.items.Line.{Line}
use Rattle.gimv_diag.specs.DiagonalRules.{closed_values, inner_items, inner_of}
use Rattle.gimv_diag.specs.Held.{held, item_count, item_fits, line_fits, lines_fit}
use Rattle.gimv_diag.specs.Rounds.{IsInside}
use Rattle.gimv_diag.specs.Sweeps.{row_taken, item_taken, swept, swept_times}
use Rattle.gimv_diag.proofs.TakeLemmas.{AreLeft, NextLine, ItemIn, item_in}
use Rattle.gimv_diag.proofs.CloseLemmas.{find_has, weighs, weighs_if_fits, inner_weighs}

module _ {Val Msg Weight : Type 0} (a : Algebra Val Msg Weight) (laws : IsLawful a) where
  pub assign_unit : (as_msg : Val → Msg) → IsClosing a as_msg → (v : Val) → FitsVal a v → a.algorithm.assign v a.algorithm.unit ≡ v
  assign_unit as_msg closing v fv =
      let fm = closing.as_msg_fits v fv in
      closing.tells_apart (a.algorithm.assign v a.algorithm.unit) v (laws.assign_fits v a.algorithm.unit fv laws.in_any_order.unit_fits) fv
      (closing.assigns v a.algorithm.unit fv laws.in_any_order.unit_fits ∙ laws.in_any_order.commutative (as_msg v) a.algorithm.unit fm laws.in_any_order.unit_fits ∙ laws.in_any_order.neutral (as_msg v) fm)

  pub row_is : (vs : List Val) (item : Item Weight) (v u next : Val) → item.row < length vs → item.column < length vs → v ≡ get_or vs item.row v → u ≡ get_or vs item.column u → next ≡ a.algorithm.assign v (a.algorithm.combine2 item.weight u)
      → set vs item.row next ≡ item_taken a vs item
  row_is vs item v u next row column v_is u_is is =
      ap (set vs item.row) is
      ∙ sym (ap (λ (o : Option Val). row_taken a vs item o (slice_get vs item.column)) (slice_get_read vs (length vs) item.row v refl row v_is)
      ∙ ap (row_taken a vs item (Some v)) (slice_get_read vs (length vs) item.column u refl column u_is))

  pub row_same : (as_msg : Val → Msg) → IsClosing a as_msg → (vs : List Val) (item : Item Weight) (v u next w : Val) → item.row < length vs → item.column < length vs → v ≡ get_or vs item.row v → u ≡ get_or vs item.column u
      → next ≡ a.algorithm.assign v (a.algorithm.combine2 item.weight u) → w ≡ get_or vs item.row w → FitsVal a next → FitsVal a w → a.algorithm.same next w ≡ true → vs ≡ item_taken a vs item
  row_same as_msg closing vs item v u next w row column v_is u_is is w_is fn fw same =
      let e : next ≡ w = (closing.same_is next w fn fw).0 same in
      sym (set-get_or vs item.row w) ∙ ap (set vs item.row) (sym w_is ∙ sym e) ∙ row_is vs item v u next row column v_is u_is is

  -- ---- what stays

  set_all : (p : Val → Bool) (vs : List Val) (k : ℕ) (x : Val) → list_all p vs ≡ true → IsTrue (p x) → list_all p (set vs k x) ≡ true
  set_all p [] k x all px = refl
  set_all p (v ∷ vs) zero x all px = and_from (p x) (list_all p vs) px (and_parts (p v) (list_all p vs) all).1
  set_all p (v ∷ vs) (suc k) x all px = let parts = and_parts (p v) (list_all p vs) all in and_from (p v) (list_all p (set vs k x)) parts.0 (set_all p vs k x parts.1 px)

  pub record Stays (old now : List Val) : Type 0 where
    pub fit : list_all a.fits_val now ≡ true
    pub long : length now ≡ length old

  row_stays : (vs : List Val) (item : Item Weight) (row column : Option Val) → list_all a.fits_val vs ≡ true → IsTrue (weighs a laws item) → IfSome row (FitsVal a) → IfSome column (FitsVal a) → Stays vs (row_taken a vs item row column)
  row_stays vs item None column fv fw fr fc = record { fit = fv; long = refl }
  row_stays vs item (Some v) None fv fw fr fc = record { fit = fv; long = refl }
  row_stays vs item (Some v) (Some u) fv fw fr fc = record {
    fit = set_all a.fits_val vs item.row (a.algorithm.assign v (a.algorithm.combine2 item.weight u)) fv (laws.assign_fits v (a.algorithm.combine2 item.weight u) fr (laws.combine2_fits item.weight u fw fc));
    long = length-set vs item.row (a.algorithm.assign v (a.algorithm.combine2 item.weight u));
  }

  item_stays : (vs : List Val) (item : Item Weight) → list_all a.fits_val vs ≡ true → IsTrue (weighs a laws item) → Stays vs (item_taken a vs item)
  item_stays vs item fv fw = row_stays vs item (slice_get vs item.row) (slice_get vs item.column) fv fw (find_has a laws a.fits_val vs item.row fv) (find_has a laws a.fits_val vs item.column fv)

  pub swept_stays : (items : List (Item Weight)) (vs : List Val) → list_all a.fits_val vs ≡ true → list_all (weighs a laws) items ≡ true → Stays vs (swept a items vs)
  swept_stays [] vs fv fw = record { fit = fv; long = refl }
  swept_stays (item ∷ items) vs fv fw =
      let parts = and_parts (weighs a laws item) (list_all (weighs a laws) items) fw in
      let one = item_stays vs item fv parts.0 in
      let rest = swept_stays items (item_taken a vs item) one.fit parts.1 in
      record { fit = rest.fit; long = rest.long ∙ one.long }

  -- ---- item by item

  pub record AreSwept (items : List (Item Weight)) (old now : List Val) (place : ℕ) (changed : Bool) : Type 0 where
    pub on : swept a (drop place items) now ≡ swept a items old
    pub stays : Stays old now
    pub same : changed ≡ false → now ≡ old

  pub none_swept : (items : List (Item Weight)) (old : List Val) → list_all a.fits_val old ≡ true → AreSwept items old old 0 false
  none_swept items old fv = record { on = refl; stays = record { fit = fv; long = refl }; same = λ e. refl }

  pub one_swept : (items : List (Item Weight)) (old now new : List Val) (place : ℕ) (item : Item Weight) (changed changed' : Bool) → place < length items → item ≡ get_or items place item → IsTrue (weighs a laws item)
      → new ≡ item_taken a now item → (changed' ≡ false → (new ≡ now) × (changed ≡ false)) → AreSwept items old now place changed → AreSwept items old new (place + 1) changed'
  one_swept items old now new place item changed changed' low here fw is same so_far =
      let one = item_stays now item so_far.stays.fit fw in record {
        on =
            ap (λ (vs : List Val). swept a (drop (place + 1) items) vs) (is ∙ ap (item_taken a now) here)
            ∙ sym (at_drop_more (λ (is : List (Item Weight)). swept a is now) items place item low)
            ∙ so_far.on;
        stays = record { fit = ap (list_all a.fits_val) is ∙ one.fit; long = ap length is ∙ one.long ∙ so_far.stays.long };
        same = λ e. (same e).0 ∙ so_far.same (same e).1;
      }

  pub all_swept : (items : List (Item Weight)) (old now : List Val) (place : ℕ) (changed : Bool) → length items ≤ place → AreSwept items old now place changed → now ≡ swept a items old
  all_swept items old now place changed past so_far = ap (λ (is : List (Item Weight)). swept a is now) (sym (drop_all place items past)) ∙ so_far.on

  -- ---- line by line

  pub record LinesSwept (len n j : ℕ) (lines : List Line) (items : List (Item Weight)) (old now : List Val) (place : ℕ) (rest : List (Item Weight)) (changed : Bool) : Type 0 where
    pub on : swept a (inner_items j (held (drop place lines) rest)) now ≡ swept a (inner_items j (held lines items)) old
    pub stays : Stays old now
    pub same : changed ≡ false → now ≡ old
    pub left : AreLeft a len n (length old) lines place rest

  module _ (len n j : ℕ) (lines : List Line) (items : List (Item Weight)) (old : List Val) where
    pub no_line : list_all a.fits_val old ≡ true → lines_fit a len n (length old) (held lines items) ≡ true → item_count lines ≡ length items → LinesSwept len n j lines items old old 0 items false
    no_line fv fits count = record { on = refl; stays = record { fit = fv; long = refl }; same = λ e. refl; left = record { fits = fits; count = count } }

    over_line : (now : List Val) (place : ℕ) (rest : List (Item Weight)) (line : Line) (inner : List (Item Weight)) → NextLine a len n (length old) lines place rest line
        → inner_of j (line.block, take line.count rest) ≡ inner
        → swept a (inner_items j (held (drop place lines) rest)) now ≡ swept a (inner_items j (held (drop (place + 1) lines) (drop line.count rest))) (swept a inner now)
    over_line now place rest line inner next is =
        let later = inner_items j (held (drop (place + 1) lines) (drop line.count rest)) in
        ap (λ (hs : List (ℕ × List (Item Weight))). swept a (inner_items j hs) now) next.held_is
        ∙ ap (λ (is : List (Item Weight)). swept a (is ++ later) now) is
        ∙ fold-append (item_taken a) now inner later

    pub line_swept : (now new : List Val) (place : ℕ) (rest : List (Item Weight)) (line : Line) (changed changed' : Bool) → eqb line.block j ≡ true → NextLine a len n (length old) lines place rest line
        → new ≡ swept a (take line.count rest) now → (changed' ≡ false → (new ≡ now) × (changed ≡ false))
        → LinesSwept len n j lines items old now place rest changed → LinesSwept len n j lines items old new (place + 1) (drop line.count rest) changed'
    line_swept now new place rest line changed changed' here next is same so_far =
        let one = swept_stays (take line.count rest) now so_far.stays.fit (weighs_if_fits a laws (block_size len n line.block) (length old) (take line.count rest) next.mine) in record {
          on =
              ap (λ (vs : List Val). swept a (inner_items j (held (drop (place + 1) lines) (drop line.count rest))) vs) is
              ∙ sym (over_line now place rest line (take line.count rest) next (rw here refl)) ∙ so_far.on;
          stays = record { fit = ap (list_all a.fits_val) is ∙ one.fit; long = ap length is ∙ one.long ∙ so_far.stays.long };
          same = λ e. (same e).0 ∙ so_far.same (same e).1;
          left = next.left;
        }

    pub line_passed : (now : List Val) (place : ℕ) (rest : List (Item Weight)) (line : Line) (changed : Bool) → eqb line.block j ≡ false → NextLine a len n (length old) lines place rest line
        → LinesSwept len n j lines items old now place rest changed → LinesSwept len n j lines items old now (place + 1) (drop line.count rest) changed
    line_passed now place rest line changed there next so_far = record {
      on = sym (over_line now place rest line [] next (rw there refl)) ∙ so_far.on;
      stays = so_far.stays;
      same = so_far.same;
      left = next.left;
    }

    pub all_lines : (now : List Val) (place : ℕ) (rest : List (Item Weight)) (changed : Bool) → length lines ≤ place → LinesSwept len n j lines items old now place rest changed → now ≡ swept a (inner_items j (held lines items)) old
    all_lines now place rest changed past so_far =
        ap (λ (ls : List Line). swept a (inner_items j (held ls rest)) now) (sym (drop_all place lines past)) ∙ so_far.on

    -- the items within the block are inside it
    pub inner_inside : (size : ℕ) (hs : List (ℕ × List (Item Weight))) → size ≡ block_size len n j → lines_fit a len n size hs ≡ true → All (IsInside a size) (inner_items j hs)
    inner_inside size [] is fits = All-nil (IsInside a size)
    inner_inside size (line ∷ hs) is fits =
        let parts = and_parts (line_fits a len n size line) (lines_fit a len n size hs) fits in
        let rest = inner_inside size hs is parts.1 in
        elim (cases_Bool (eqb line.0 j)) [
          | inl here ↦ rw here (onto line.1 (let e : block_size len n line.0 ≡ size = ap (block_size len n) (eqb-true line.0 j here) ∙ sym is in subst (λ rows. list_all (item_fits a rows size) line.1 ≡ true) e parts.0) rest)
          | inr there ↦ rw there rest
        ]
      where
        onto : (xs : List (Item Weight)) → list_all (item_fits a size size) xs ≡ true → All (IsInside a size) (inner_items j hs) → All (IsInside a size) (xs ++ inner_items j hs)
        onto [] all rest = rest
        onto (x ∷ xs) all rest =
            let parts = and_parts (item_fits a size size x) (list_all (item_fits a size size) xs) all in
            let fits = item_in a size size (x ∷ xs) 0 x all (omega arith) refl in
            All-cons (IsInside a size) x (xs ++ inner_items j hs) (record { row = fits.row; column = fits.column; weight = fits.weight }) (onto xs parts.1 rest)

  -- ---- sweeps

  pub record AreClosing (items : List (Item Weight)) (vals closed : List Val) (made : ℕ) : Type 0 where
    pub is : closed ≡ swept_times a items vals made
    pub stays : Stays vals closed

  pub one_closing : (items : List (Item Weight)) (vals closed next : List Val) (made : ℕ) → list_all (weighs a laws) items ≡ true → next ≡ swept a items closed → AreClosing items vals closed made → AreClosing items vals next (made + 1)
  one_closing items vals closed next made fw is so_far =
      let e : made + 1 ≡ suc made = omega arith in
      let one = swept_stays items closed so_far.stays.fit fw in record {
        is = is ∙ ap (swept a items) so_far.is ∙ ap (swept_times a items vals) (sym e);
        stays = record { fit = ap (list_all a.fits_val) is ∙ one.fit; long = ap length is ∙ one.long ∙ so_far.stays.long };
      }
