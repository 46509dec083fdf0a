-- What holds of each message to a node, of each entry, and of each edge.
use Rattle.std.proofs.Common.{◌≡◌, ℕ, eqb, List, [], ◌∷◌, All, inl, inr, eqb-true}
use Rattle.std.proofs.lemmas.Bool.{cases_Bool, eqb-false}
use Rattle.std.proofs.lemmas.List.Elements.{All-nil, All-cons, All-head, All-tail}
use Rattle.graph.specs.declared.edges.Edge.{Edge}
use Rattle.graph.specs.declared.edges.One.{One}
use Rattle.graph.specs.Entries.{Entry, plain_entry, both_ways}
use Rattle.graph.specs.Steps.{Algorithm, Vector, messages_to}

module _ {Val Msg Weight : Type 0} (a : Algorithm Val Msg Weight) (P : Msg → Type 0) (v : Vector Val) (node : ℕ) where
  -- an entry passes on a message that P holds of, if it stands in the node's row
  abbrev pub PassesGood : Entry Weight → Type 0
  PassesGood e = e.row ≡ node → P (a.combine2 e.weight (v e.column))

  pub All-messages_to : (entries : List (Entry Weight)) → All PassesGood entries → All P (messages_to a entries v node)
  All-messages_to [] all = All-nil P
  All-messages_to (e ∷ es) all =
      elim (cases_Bool (eqb e.row node)) [
        | inl is ↦
            rw is
            (All-cons P (a.combine2 e.weight (v e.column)) (messages_to a es v node) (All-head PassesGood e es all (eqb-true e.row node is))
            (All-messages_to es (All-tail PassesGood e es all)))
        | inr isnt ↦ rw isnt (All-messages_to es (All-tail PassesGood e es all))
      ]

  pub each_message : (entries : List (Entry Weight)) → All P (messages_to a entries v node) → All PassesGood entries
  each_message [] all = All-nil PassesGood
  each_message (e ∷ es) all =
      elim (cases_Bool (eqb e.row node)) [
        | inl is ↦
            let all' = rw is at all in
            All-cons PassesGood e es (λ _. All-head P (a.combine2 e.weight (v e.column)) (messages_to a es v node) all')
            (each_message es (All-tail P (a.combine2 e.weight (v e.column)) (messages_to a es v node) all'))
        | inr isnt ↦
            let all' = rw isnt at all in
            All-cons PassesGood e es (λ same. absurd (eqb-false e.row node isnt same)) (each_message es all')
      ]

module _ (P : Entry One → Type 0) where
  -- both entries of an edge are good
  abbrev pub HasGoodEntries : Edge → Type 0
  HasGoodEntries e = P (plain_entry e.source e.target) × P (plain_entry e.target e.source)

  pub All-both_ways : (edges : List Edge) → All HasGoodEntries edges → All P (both_ways edges)
  All-both_ways [] all = All-nil P
  All-both_ways (e ∷ es) all =
      let here = All-head HasGoodEntries e es all in
      let there = plain_entry e.source e.target in
      let back = plain_entry e.target e.source in
      All-cons P there (back ∷ both_ways es) here.0 (All-cons P back (both_ways es) here.1 (All-both_ways es (All-tail HasGoodEntries e es all)))

  pub each_both_ways : (edges : List Edge) → All P (both_ways edges) → All HasGoodEntries edges
  each_both_ways [] all = All-nil HasGoodEntries
  each_both_ways (e ∷ es) all =
      let there = plain_entry e.source e.target in
      let back = plain_entry e.target e.source in
      let rest = All-tail P there (back ∷ both_ways es) all in
      All-cons HasGoodEntries e es (All-head P there (back ∷ both_ways es) all, All-head P back (both_ways es) rest)
      (each_both_ways es (All-tail P back (both_ways es) rest))
