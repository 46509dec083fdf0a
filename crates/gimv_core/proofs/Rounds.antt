-- Closing rounds end: what a round changes came over one more node than in the round before.
use Rattle.std.proofs.Common.{◌≡◌, ◌≢◌, ℕ, zero, suc, ◌+◌, ◌-◌, ◌<◌, ◌≤◌, Bool, true, false, IsTrue, eqb, List, [], ◌∷◌, length, Contains, ◌⊎◌, refl, sym, ap, subst, ◌∙◌, inl, inr, arith, eqb-true}
use Rattle.std.specs.List.{list_any, IsDistinct, AllByRecursion}
use Rattle.std.proofs.lemmas.Bool.{cases_Bool, or_cases, ne_eqb, and_parts, and_from, leb-true, ltb-true, le-leb, lt-ltb}
use Rattle.std.proofs.lemmas.Map.Keys.{IsDistinct-cons}
use Rattle.std.proofs.lemmas.Map.Steps.{length-le_from_distinct_below}
use Rattle.std.proofs.lemmas.List.Elements.{All-weaker, All-contains_itself}
use Rattle.graph.specs.Entries.{Entry}
use Rattle.graph.specs.Steps.{Vector, messages_to}
use Rattle.graph.proofs.Messages.{PassesGood, All-messages_to}
use Rattle.gimv_core.specs.Algebras.{Algebra, FitsMsg, VectorFits, EntriesFit}
use Rattle.gimv_core.specs.Laws.{IsLawful}
use Rattle.gimv_core.specs.Closings.{IsClosing}
use Rattle.gimv_core.specs.Consequences.{block_nodes, rounds}
use Rattle.gimv_core.proofs.Fitting.{messages_fit, gathered_fits, step_fits}
use Rattle.gimv_core.proofs.Falling.{at_most_both, at_most_same, at_most_unit, fold_keeps, gathered, sent_after, step_falls, step_below_column, entry_of, passed_on}

one_apart : (d : ℕ) → IsDistinct eqb (d ∷ [])
unfolding IsDistinct
one_apart d = (tt, tt)

listed_below : (n : ℕ) (xs : List ℕ) → AllByRecursion (λ x. x < n) xs → (q : ℕ) → list_any (eqb q) xs ≡ true → q < n
listed_below n [] all q is = cc
listed_below n (x ∷ xs) all q is =
    elim (or_cases (eqb q x) (list_any (eqb q) xs) is) [
      | inl here ↦ subst (λ y. y < n) (sym (eqb-true q x here)) all.0
      | inr later ↦ listed_below n xs all.1 q later
    ]

-- the nodes of a block by their distance from its first one
offset_in : (start size d : ℕ) → d < size → IsTrue (block_nodes start size (start + d))
offset_in start size d lt = and_from _ _ (le-leb start (start + d) (omega arith)) (lt-ltb (start + d) (start + size) (omega arith))

record HasOffset (start size i : ℕ) : Type 0 where
  offset : ℕ
  is : i ≡ start + offset
  low : offset < size

has_offset : (start size i : ℕ) → IsTrue (block_nodes start size i) → HasOffset start size i
has_offset start size i inside =
    let parts = and_parts _ _ inside in
    let le = leb-true start i parts.0 in
    let lt = ltb-true i (start + size) parts.1 in
    record { offset = i - start; is = omega arith; low = omega arith }

module _ {Val Msg Weight : Type 0} (a : Algebra Val Msg Weight) (as_msg : Val → Msg) (laws : IsLawful a) (closing : IsClosing a as_msg)
    (start size : ℕ) (entries : List (Entry Weight)) (v : Vector Val)
    (fits : EntriesFit a (block_nodes start size) entries) (vector : VectorFits a (block_nodes start size) v) where
  abbrev nodes : ℕ → Bool
  nodes = block_nodes start size

  -- the values after so many rounds, and these as messages
  abbrev after : ℕ → Vector Val
  after k = rounds a.algorithm entries k v

  abbrev sent : ℕ → ℕ → Msg
  sent k i = as_msg (after k i)

  abbrev Below : Msg → Msg → Type 0
  Below x y = a.algorithm.combine x y ≡ x

  after_fits : (k : ℕ) → VectorFits a nodes (after k)
  after_fits zero = vector
  after_fits (suc k) = step_fits a laws nodes entries (after k) fits (after_fits k)

  sent_fits : (k i : ℕ) → IsTrue (nodes i) → FitsMsg a (sent k i)
  sent_fits k i inside = closing.as_msg_fits (after k i) (after_fits k i inside)

  falls : (k i : ℕ) → IsTrue (nodes i) → Below (sent (suc k) i) (sent k i)
  falls k i inside = step_falls a as_msg laws closing nodes entries fits (after k) i (after_fits k) inside

  -- an entry of the node's row whose column sent this message
  record CameFrom (k i : ℕ) (m : Msg) : Type 0 where
    entry : Entry Weight
    listed : Contains entries entry
    here : entry.row ≡ i
    is : m ≡ sent k entry.column

  came_from : (k i : ℕ) → IsTrue (nodes i) → sent (suc k) i ≢ sent k i → CameFrom k i (sent (suc k) i)
  came_from k i inside new =
      let all = gathered a as_msg laws closing nodes entries fits (after k) i in
      let P : Msg → Type 0 = λ m. (m ≡ a.algorithm.unit) ⊎ CameFrom k i m in
      let fall = gathered_fits a laws nodes entries (after k) i fits (after_fits k) in
      let x = sent k i in
      let fx = sent_fits k i inside in
      let had : P all = fold_keeps a as_msg laws closing P a.algorithm.unit (messages_to a.algorithm entries (after k) i) laws.in_any_order.unit_fits
      (messages_fit a laws nodes entries (after k) i fits (after_fits k)) (inl refl)
      (All-messages_to a.algorithm P (after k) i entries
      (All-weaker (Contains entries) (PassesGood a.algorithm P (after k) i)
      (λ e listed here. inr (record { entry = e; listed = listed; here = here; is = passed_on a as_msg laws closing nodes entries fits (after k) (after_fits k) e listed }))
      entries (All-contains_itself entries))) in
      let is = sent_after a as_msg laws closing nodes entries fits (after k) i (after_fits k) inside in
      elim (closing.selects x all fx fall) [
        | inl old ↦ absurd (new (is ∙ old))
        | inr other ↦ elim had [
          | inl none ↦ absurd (new (is ∙ ap (a.algorithm.combine x) none ∙ at_most_unit a as_msg laws closing x fx))
          | inr from ↦ subst (CameFrom k i) (sym (is ∙ other)) from
        ]
      ]

  -- the value of the node was changed by this round
  abbrev IsNew : ℕ → ℕ → Type 0
  IsNew zero i = Unit {0}
  IsNew (suc k) i = sent (suc k) i ≢ sent k i

  column_new : (k i : ℕ) → IsTrue (nodes i) → sent (suc k) i ≢ sent k i → (from : CameFrom k i (sent (suc k) i)) → IsNew k from.entry.column
  column_new zero i inside new from = tt
  column_new (suc k) i inside new from = λ old.
      let m = sent (suc (suc k)) i in
      let low : Below (sent (suc k) i) (sent k from.entry.column) =
      step_below_column a as_msg laws closing nodes entries fits (after k) i (after_fits k) inside from.entry from.listed from.here in
      let same : m ≡ sent k from.entry.column = from.is ∙ old in
      new (at_most_same a as_msg laws closing m (sent (suc k) i) (sent_fits (suc (suc k)) i inside) (sent_fits (suc k) i inside) (falls (suc k) i inside)
      (subst (Below (sent (suc k) i)) (sym same) low))

  -- more than k nodes whose values are at most m after k rounds
  record HasLow (k : ℕ) (m : Msg) : Type 0 where
    offsets : List ℕ
    long : length offsets ≡ suc k
    apart : IsDistinct eqb offsets
    below : AllByRecursion (λ d. d < size) offsets
    low : AllByRecursion (λ d. Below (sent k (start + d)) m) offsets

  lows_later : (k : ℕ) (m : Msg) (ds : List ℕ) → FitsMsg a m → AllByRecursion (λ d. d < size) ds
      → AllByRecursion (λ d. Below (sent k (start + d)) m) ds → AllByRecursion (λ d. Below (sent (suc k) (start + d)) m) ds
  lows_later k m [] fm inside all = tt
  lows_later k m (d ∷ ds) fm inside all =
      let here = offset_in start size d inside.0 in (
        at_most_both a as_msg laws closing (sent (suc k) (start + d)) (sent k (start + d)) m (sent_fits (suc k) (start + d) here) (sent_fits k (start + d) here) fm
            (falls k (start + d) here) all.0,
        lows_later k m ds fm inside.1 all.1,
      )

  apart_from_lows : (k : ℕ) (m : Msg) (d : ℕ) (ds : List ℕ) → (Below (sent k (start + d)) m → ⊥)
      → AllByRecursion (λ e. Below (sent k (start + e)) m) ds → AllByRecursion (λ e. eqb d e ≡ false) ds
  apart_from_lows k m d [] above all = tt
  apart_from_lows k m d (e ∷ es) above all =
      (ne_eqb d e (λ same. above (subst (λ x. Below (sent k (start + x)) m) (sym same) all.0)), apart_from_lows k m d es above all.1)

  has_low : (k d : ℕ) → d < size → IsNew k (start + d) → HasLow k (sent k (start + d))
  has_low zero d lt new = record {
    offsets = d ∷ [];
    long = refl;
    apart = one_apart d;
    below = (lt, tt);
    low = (closing.idempotent _ (sent_fits zero (start + d) (offset_in start size d lt)), tt);
  }
  has_low (suc k) d lt new =
      let i = start + d in
      let inside = offset_in start size d lt in
      let m = sent (suc k) i in
      let fm = sent_fits (suc k) i inside in
      let from = came_from k i inside new in
      let column = has_offset start size from.entry.column (entry_of a as_msg laws closing nodes entries fits from.entry from.listed).column_in in
      let newer : IsNew k (start + column.offset) = subst (IsNew k) column.is (column_new k i inside new from) in
      let same : m ≡ sent k (start + column.offset) = from.is ∙ ap (sent k) column.is in
      let had : HasLow k m = subst (HasLow k) (sym same) (has_low k column.offset column.low newer) in
      let above : Below (sent k i) m → ⊥ = λ low.
      new (at_most_same a as_msg laws closing m (sent k i) fm (sent_fits k i inside) (falls k i inside) low) in
      record {
        offsets = d ∷ had.offsets;
        long = ap suc had.long;
        apart = IsDistinct-cons eqb d had.offsets (apart_from_lows k m d had.offsets above had.low) had.apart;
        below = (lt, had.below);
        low = (closing.idempotent m fm, lows_later k m had.offsets fm had.below had.low);
      }

  unchanged : (k i : ℕ) → size ≤ suc k → IsTrue (nodes i) → sent (suc k) i ≢ sent k i → ⊥
  unchanged k i late inside new =
      let here = has_offset start size i inside in
      let newer : IsNew (suc k) (start + here.offset) = subst (IsNew (suc k)) here.is new in
      let had = has_low (suc k) here.offset here.low newer in
      omega (arith, had.long, length-le_from_distinct_below had.offsets size had.apart (listed_below size had.offsets had.below))

  pub rounds_end : (k : ℕ) → size ≤ suc k → (i : ℕ) → IsTrue (nodes i) → rounds a.algorithm entries (suc k) v i ≡ rounds a.algorithm entries k v i
  rounds_end k late i inside =
      let same = closing.same_is (after (suc k) i) (after k i) (after_fits (suc k) i inside) (after_fits k i inside) in
      elim (cases_Bool (a.algorithm.same (after (suc k) i) (after k i))) [
        | inl is ↦ same.0 is
        | inr isnt ↦ absurd (unchanged k i late inside (λ sent_same.
            let equal = closing.tells_apart (after (suc k) i) (after k i) (after_fits (suc k) i inside) (after_fits k i inside) sent_same in
            let test = same.1 equal in cc))
      ]
