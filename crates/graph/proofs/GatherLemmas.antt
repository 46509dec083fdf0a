-- Messages and entries may come in any order, and messages in groups.
use Rattle.std.proofs.Common.{◌≡◌, ℕ, eqb, Bool, cond, IsTrue, List, map, fold, All, refl, sym, ap, ◌∙◌, inl, inr}
use Rattle.std.specs.List.{flat_map}
use Rattle.std.specs.List.Sorted.{IsPermutation}
use Rattle.std.proofs.lemmas.Bool.{cases_Bool}
use Rattle.graph.specs.Entries.{Entry}
use Rattle.graph.specs.Steps.{Algorithm, Vector, messages_to, all_of, step}
use Rattle.graph.specs.Laws.{CombinesInAnyOrder, AllFit, PassFitting}
use Rattle.graph.proofs.Order.{fold-IsPermutation, fold-map-filter, fold-groups}

module _ {Val Msg Weight : Type 0} (a : Algorithm Val Msg Weight) (fits : Msg → Bool) (laws : CombinesInAnyOrder a fits) where
  -- two messages change places
  turns : (x y z : Msg) → IsTrue (fits x) → IsTrue (fits y) → IsTrue (fits z) → a.combine (a.combine x y) z ≡ a.combine (a.combine x z) y
  turns x y z fx fy fz = laws.associative x y z fx fy fz ∙ ap (a.combine x) (laws.commutative y z fy fz) ∙ sym (laws.associative x z y fx fz fy)

  pub messages_in_any_order : (messages others : List Msg) → AllFit fits messages → IsPermutation messages others → all_of a messages ≡ all_of a others
  messages_in_any_order messages others all moved =
      fold-IsPermutation a.combine (λ m. IsTrue (fits m)) (λ m. IsTrue (fits m)) laws.combine_fits turns a.unit messages others laws.unit_fits all moved

  pub messages_in_groups : (groups : List (List Msg)) → All (AllFit fits) groups → all_of a (map (all_of a) groups) ≡ all_of a (flat_map (λ group. group) groups)
  messages_in_groups groups all =
      fold-groups a.combine (λ m. IsTrue (fits m)) a.unit laws.combine_fits laws.associative
      (λ x fx. laws.commutative x a.unit fx laws.unit_fits ∙ laws.neutral x fx)
      laws.unit_fits a.unit groups laws.unit_fits all

  -- what an entry adds to the messages to a node so far
  added : Vector Val → ℕ → Msg → Entry Weight → Msg
  added v node m e = cond (eqb e.row node) (a.combine m (a.combine2 e.weight (v e.column))) m

  added_fits : (v : Vector Val) (node : ℕ) (m : Msg) (e : Entry Weight) → IsTrue (fits m) → IsTrue (fits (a.combine2 e.weight (v e.column))) → IsTrue (fits (added v node m e))
  unfolding added
  added_fits v node m e fm fe =
      elim (cases_Bool (eqb e.row node)) [
        | inl is ↦ rw is (laws.combine_fits m (a.combine2 e.weight (v e.column)) fm fe)
        | inr isnt ↦ rw isnt fm
      ]

  added_turns : (v : Vector Val) (node : ℕ) (m : Msg) (e f : Entry Weight) → IsTrue (fits m) → IsTrue (fits (a.combine2 e.weight (v e.column))) → IsTrue (fits (a.combine2 f.weight (v f.column)))
      → added v node (added v node m e) f ≡ added v node (added v node m f) e
  unfolding added
  added_turns v node m e f fm fe ff =
      elim (cases_Bool (eqb e.row node)) [
        | inl is ↦ elim (cases_Bool (eqb f.row node)) [
          | inl too ↦ rw (is, too) (turns m (a.combine2 e.weight (v e.column)) (a.combine2 f.weight (v f.column)) fm fe ff)
          | inr isnt ↦ rw (is, isnt) refl
        ]
        | inr isnt ↦ rw isnt refl
      ]

  -- the messages to a node put together, entry by entry
  by_entries : (entries : List (Entry Weight)) (v : Vector Val) (node : ℕ) → all_of a (messages_to a entries v node) ≡ fold (added v node) a.unit entries
  unfolding added
  by_entries entries v node = fold-map-filter a.combine (λ (e : Entry Weight). a.combine2 e.weight (v e.column)) (λ (e : Entry Weight). eqb e.row node) a.unit entries

  pub entries_in_any_order : (entries others : List (Entry Weight)) (v : Vector Val) → PassFitting a fits entries v → IsPermutation entries others
      → (node : ℕ) → step a entries v node ≡ step a others v node
  entries_in_any_order entries others v all moved node =
      ap (a.assign (v node))
      (by_entries entries v node
      ∙ fold-IsPermutation (added v node) (λ m. IsTrue (fits m)) (λ (e : Entry Weight). IsTrue (fits (a.combine2 e.weight (v e.column)))) (added_fits v node) (added_turns v node) a.unit
      entries others laws.unit_fits all moved
      ∙ sym (by_entries others v node))
