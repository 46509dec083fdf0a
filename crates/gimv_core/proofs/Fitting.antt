-- What fits is kept by steps, and so the order of entries makes no difference to them.
use Rattle.std.proofs.Common.{◌≡◌, ℕ, zero, suc, ◌≤◌, ◌^◌, Bool, List, [], ◌∷◌, fold, All, arith}
use Rattle.std.specs.List.Sorted.{IsPermutation}
use Rattle.std.proofs.lemmas.Bool.{ltb-true}
use Rattle.std.proofs.lemmas.List.Elements.{All-head, All-tail, All-weaker}
use Rattle.graph.specs.Entries.{Entry}
use Rattle.graph.specs.Steps.{Vector, messages_to, all_of, step, iterate}
use Rattle.graph.proofs.Messages.{PassesGood, All-messages_to}
use Rattle.graph.proofs.GatherLemmas.{entries_in_any_order}
use Rattle.gimv_core.specs.Algebras.{Algebra, FitsMsg, VectorFits, EntryFits, EntriesFit}
use Rattle.gimv_core.specs.Laws.{IsLawful}
use Rattle.gimv_core.specs.Consequences.{first_nodes}

module _ {Val Msg Weight : Type 0} (a : Algebra Val Msg Weight) (laws : IsLawful a) where
  pub fold_fits : (x : Msg) (ms : List Msg) → FitsMsg a x → All (FitsMsg a) ms → FitsMsg a (fold a.algorithm.combine x ms)
  fold_fits x [] fx all = fx
  fold_fits x (m ∷ ms) fx all =
      fold_fits (a.algorithm.combine x m) ms (laws.in_any_order.combine_fits x m fx (All-head (FitsMsg a) m ms all)) (All-tail (FitsMsg a) m ms all)

  pub messages_fit : (nodes : ℕ → Bool) (entries : List (Entry Weight)) (v : Vector Val) (i : ℕ) → EntriesFit a nodes entries → VectorFits a nodes v
      → All (FitsMsg a) (messages_to a.algorithm entries v i)
  messages_fit nodes entries v i fits vector =
      All-messages_to a.algorithm (FitsMsg a) v i entries
      (All-weaker (EntryFits a nodes) (PassesGood a.algorithm (FitsMsg a) v i)
      (λ e fit here. laws.combine2_fits e.weight (v e.column) fit.weight_fits (vector e.column fit.column_in))
      entries fits)

  pub gathered_fits : (nodes : ℕ → Bool) (entries : List (Entry Weight)) (v : Vector Val) (i : ℕ) → EntriesFit a nodes entries → VectorFits a nodes v
      → FitsMsg a (all_of a.algorithm (messages_to a.algorithm entries v i))
  gathered_fits nodes entries v i fits vector =
      fold_fits a.algorithm.unit (messages_to a.algorithm entries v i) laws.in_any_order.unit_fits (messages_fit nodes entries v i fits vector)

  pub step_fits : (nodes : ℕ → Bool) (entries : List (Entry Weight)) (v : Vector Val) → EntriesFit a nodes entries → VectorFits a nodes v
      → VectorFits a nodes (step a.algorithm entries v)
  step_fits nodes entries v fits vector i inside =
      laws.assign_fits (v i) (all_of a.algorithm (messages_to a.algorithm entries v i)) (vector i inside) (gathered_fits nodes entries v i fits vector)

  pub iterate_fits : (n : ℕ) (entries : List (Entry Weight)) (k : ℕ) → n ≤ 2 ^ 32 → EntriesFit a (first_nodes n) entries
      → VectorFits a (first_nodes n) (iterate a.algorithm entries k)
  iterate_fits n entries zero few fits i inside = let lt = ltb-true i n inside in laws.first_fits i (omega arith)
  iterate_fits n entries (suc k) few fits i inside = step_fits (first_nodes n) entries (iterate a.algorithm entries k) fits (iterate_fits n entries k few fits) i inside

  pub steps_in_any_order : (nodes : ℕ → Bool) (entries others : List (Entry Weight)) (v : Vector Val) → EntriesFit a nodes entries → VectorFits a nodes v
      → IsPermutation entries others → (i : ℕ) → step a.algorithm entries v i ≡ step a.algorithm others v i
  steps_in_any_order nodes entries others v fits vector moved i =
      entries_in_any_order a.algorithm a.fits_msg laws.in_any_order entries others v
      (All-weaker (EntryFits a nodes) (λ (e : Entry Weight). FitsMsg a (a.algorithm.combine2 e.weight (v e.column)))
      (λ e fit. laws.combine2_fits e.weight (v e.column) fit.weight_fits (vector e.column fit.column_in))
      entries fits)
      moved i
