-- Rounds on a block's list of values.
use Rattle.std.proofs.Common.{◌≡◌, ℕ, zero, suc, ◌+◌, ◌-◌, ◌<◌, ◌≤◌, ltb, leb, eqb, ◌&&◌, Bool, true, false, IsTrue, List, [], ◌∷◌, ◌++◌, length, get_or, map, filter, fold, All, Option, Some, None, option_map, slice_get, refl, sym, ap, subst, ◌∙◌, inl, inr, arith, eqb-true, eq-eqb}
use Rattle.std.specs.List.{flat_map, range_with_len}
use Rattle.std.proofs.lemmas.Bool.{cases_Bool, eqb-false, ne_eqb, and_from, and_parts, lt-ltb, le-leb, leb-true, ltb-true}
use Rattle.std.proofs.lemmas.Option.{slice_get-map}
use Rattle.std.proofs.lemmas.List.{length-map}
use Rattle.std.proofs.lemmas.List.FromFn.{length-range_with_len}
use Rattle.std.proofs.lemmas.List.Elements.{All-nil, All-cons, All-head, All-tail}
use Rattle.graph.specs.Entries.{Entry}
use Rattle.graph.specs.Steps.{Vector, messages_to, all_of, step}
use Rattle.gimv_core.specs.Algebras.{Algebra, FitsWeight, VectorFits, EntryFits, EntriesFit}
use Rattle.gimv_core.specs.Laws.{IsLawful}
use Rattle.gimv_core.specs.Closings.{IsClosing}
use Rattle.gimv_core.specs.Consequences.{rounds, block_nodes}
use Rattle.gimv_core.proofs.Rounds.{rounds_end}
use Rattle.gimv_block.specs.BlockLines.{messages_in}
use Rattle.gimv_block.specs.BlockRules.{new_values, with_messages}
use Rattle.gimv_diag.specs.declared.items.Item.{Item}
use Rattle.gimv_diag.specs.DiagonalRules.{passed_from, passed_value, round_values, values_after, closed_values}
use Rattle.gimv_diag.specs.Rounds.{inner_entry, values_from, IsInside}

eqb_shift : (start i j : ℕ) → eqb (start + i) (start + j) ≡ eqb i j
eqb_shift start i j =
    elim (cases_Bool (eqb i j)) [
      | inl is ↦ let same = eqb-true i j is in let e : start + i ≡ start + j = omega arith in eq-eqb (start + i) (start + j) e ∙ sym is
      | inr isnt ↦ ne_eqb (start + i) (start + j) (λ e. eqb-false i j isnt (omega arith)) ∙ sym isnt
    ]

pub range_get : (start size k : ℕ) → k < size → slice_get (range_with_len start size) k ≡ Some (start + k)
range_get start zero k low = absurd (omega arith)
range_get start (suc size) zero low = let e : start ≡ start + 0 = omega arith in ap Some e
range_get start (suc size) (suc k) low = let e : (start + 1) + k ≡ start + suc k = omega arith in range_get (start + 1) size k (omega arith) ∙ ap Some e

pub map_range_agree : {A : Type 0} (f g : ℕ → A) (start size : ℕ) → ((i : ℕ) → start ≤ i → i < start + size → f i ≡ g i) → map f (range_with_len start size) ≡ map g (range_with_len start size)
map_range_agree f g start zero same = refl
map_range_agree f g start (suc size) same =
    ap (λ x. x ∷ map f (range_with_len (start + 1) size)) (same start (omega arith) (omega arith))
    ∙ ap (λ xs. g start ∷ xs) (map_range_agree f g (start + 1) size (λ i low high. same i (omega arith) (omega arith)))

module _ {Val Msg Weight : Type 0} (a : Algebra Val Msg Weight) (start size : ℕ) where
  passed_is : (u : Vector Val) (item : Item Weight) → item.column < size → passed_from a (values_from start size u) item ≡ (item.row, a.algorithm.combine2 item.weight (u (start + item.column))) ∷ []
  passed_is u item low =
      ap (passed_value a item) (slice_get-map u (range_with_len start size) item.column ∙ ap (λ (o : Option ℕ). option_map u o) (range_get start size item.column low))

  messages_are : (u : Vector Val) (items : List (Item Weight)) → All (IsInside a size) items → (p : ℕ)
      → messages_in p (flat_map (passed_from a (values_from start size u)) items) ≡ messages_to a.algorithm (map (inner_entry start) items) u (start + p)
  messages_are u [] inside p = refl
  messages_are u (item ∷ items) inside p =
      let here = All-head (IsInside a size) item items inside in
      let rest = messages_are u items (All-tail (IsInside a size) item items inside) p in
      let later = flat_map (passed_from a (values_from start size u)) items in
      ap (λ (sent : List (ℕ × Msg)). messages_in p (sent ++ later)) (passed_is u item here.column)
      ∙ elim (cases_Bool (eqb item.row p)) [
        | inl is ↦ rw (is, eqb_shift start item.row p, is) (ap (λ (ms : List Msg). a.algorithm.combine2 item.weight (u (start + item.column)) ∷ ms) rest)
        | inr isnt ↦ rw (isnt, eqb_shift start item.row p, isnt) rest
      ]

  new_values_are : (all : ℕ → Msg) (u : Vector Val) (place n first : ℕ) → first ≡ start + place
      → new_values a all place (map u (range_with_len first n)) ≡ map (λ i. a.algorithm.assign (u i) (all (i - start))) (range_with_len first n)
  new_values_are all u place zero first is = refl
  new_values_are all u place (suc n) first is =
      let e : place ≡ first - start = omega arith in
      ap (λ (p : ℕ). a.algorithm.assign (u first) (all p) ∷ new_values a all (place + 1) (map u (range_with_len (first + 1) n))) e
      ∙ ap (λ (vs : List Val). a.algorithm.assign (u first) (all (first - start)) ∷ vs) (new_values_are all u (place + 1) n (first + 1) (omega arith))

  round_is_step : (u : Vector Val) (items : List (Item Weight)) → All (IsInside a size) items → round_values a items (values_from start size u) ≡ values_from start size (step a.algorithm (map (inner_entry start) items) u)
  round_is_step u items inside =
      let sent = flat_map (passed_from a (values_from start size u)) items in
      new_values_are (with_messages a (λ place. a.algorithm.unit) sent) u 0 size start (omega arith)
      ∙ map_range_agree (λ i. a.algorithm.assign (u i) (with_messages a (λ place. a.algorithm.unit) sent (i - start))) (step a.algorithm (map (inner_entry start) items) u) start size
      (λ i low high.
      let e : start + (i - start) ≡ i = omega arith in
      ap (λ (ms : List Msg). a.algorithm.assign (u i) (all_of a.algorithm ms)) (messages_are u items inside (i - start) ∙ ap (messages_to a.algorithm (map (inner_entry start) items) u) e))

  pub rounds_are_rounds : (items : List (Item Weight)) (v : Vector Val) → All (IsInside a size) items → (k : ℕ)
      → values_after a items (values_from start size v) k ≡ values_from start size (rounds a.algorithm (map (inner_entry start) items) k v)
  rounds_are_rounds items v inside zero = refl
  rounds_are_rounds items v inside (suc k) =
      ap (round_values a items) (rounds_are_rounds items v inside k) ∙ round_is_step (rounds a.algorithm (map (inner_entry start) items) k v) items inside

  pub inside_fits : (items : List (Item Weight)) → All (IsInside a size) items → EntriesFit a (block_nodes start size) (map (inner_entry start) items)
  inside_fits [] inside = All-nil (EntryFits a (block_nodes start size))
  inside_fits (item ∷ items) inside =
      let here = All-head (IsInside a size) item items inside in
      All-cons (EntryFits a (block_nodes start size)) (inner_entry start item) (map (inner_entry start) items)
      (record {
        row_in = and_from _ _ (le-leb start (start + item.row) (omega arith)) (lt-ltb (start + item.row) (start + size) (omega (arith, here.row)));
        column_in = and_from _ _ (le-leb start (start + item.column) (omega arith)) (lt-ltb (start + item.column) (start + size) (omega (arith, here.column)));
        weight_fits = here.weight;
      })
      (inside_fits items (All-tail (IsInside a size) item items inside))

  pub lists_are_closed : (as_msg : Val → Msg) → IsLawful a → IsClosing a as_msg → (items : List (Item Weight)) (v : Vector Val) → All (IsInside a size) items → VectorFits a (block_nodes start size) v
      → round_values a items (closed_values a items (values_from start size v)) ≡ closed_values a items (values_from start size v)
  lists_are_closed as_msg laws closing items v inside fits =
      let entries = map (inner_entry start) items in
      let long : length (values_from start size v) ≡ size = length-map (range_with_len start size) v ∙ length-range_with_len start size in
      let vs = values_from start size v in
      ap (values_after a items vs) (ap suc long) ∙ rounds_are_rounds items v inside (suc size)
      ∙ map_range_agree (rounds a.algorithm entries (suc size) v) (rounds a.algorithm entries size v) start size
      (λ i low high. rounds_end a as_msg laws closing start size entries v (inside_fits items inside) fits size (omega arith) i (and_from _ _ (le-leb start i low) (lt-ltb i (start + size) high)))
      ∙ sym (rounds_are_rounds items v inside size) ∙ ap (values_after a items vs) (sym long)
