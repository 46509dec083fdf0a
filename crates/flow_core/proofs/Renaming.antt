-- Where nodes get other numbers, steps and iterates go along.
use Rattle.std.proofs.Common.{◌≡◌, refl, sym, ap, ◌∙◌, Bool, true, false, cond, eqb, ℕ, zero, suc, ◌+◌, ◌<◌, List, [], ◌∷◌, map, inl, inr}
use Rattle.std.specs.List.{All, filter}
use Rattle.std.proofs.lemmas.Bool.{cases_eq, eq-eqb, ne_eqb}
use Rattle.std.proofs.lemmas.List.Elements.{All-head, All-tail, All-weaker, All-filter}
use Rattle.std.proofs.lemmas.List.Sums.{sum_by-cons}
use Rattle.graph.specs.declared.edges.Edge.{Edge}
use Rattle.graph.specs.Edges.{AreBelow}
use Rattle.graph.specs.Entries.{Entry, plain_entry, out_degree, by_degree, hadi_entries}
use Rattle.graph.specs.Steps.{Algorithm, Vector, messages_to, all_of, iterate}
use Rattle.flow_core.specs.Places.{AreAtPlaces, placed_edge, placed_entry, IsInside, over_places}
use Rattle.list_laws.proofs.Images.{map_agree, map-map, map-flat_map}
use Rattle.std.proofs.lemmas.List.Folds.{flat_map-map}
use Rattle.list_laws.proofs.Filters.{filter-map, filter_agree_on}

-- edges by places, whatever the places
module _ (place : ℕ → ℕ) where
  abbrev along : Edge → Edge
  along e = placed_edge place e

  pub placed_entries : (both : Bool) (edges : List Edge) → hadi_entries both (map along edges) ≡ map (placed_entry place) (hadi_entries both edges)
  placed_entries true edges =
      flat_map-map (λ (e : Edge). plain_entry e.source e.target ∷ plain_entry e.target e.source ∷ []) along edges
      ∙ sym (map-flat_map (placed_entry place) (λ (e : Edge). plain_entry e.source e.target ∷ plain_entry e.target e.source ∷ []) edges)
  placed_entries false edges =
      map-map (λ (e : Edge). plain_entry e.source e.target) along edges ∙ sym (map-map (placed_entry place) (λ (e : Edge). plain_entry e.source e.target) edges)

module _ (n : ℕ) (place id : ℕ → ℕ) (places : AreAtPlaces n place id) where
  pub same_place : (i p : ℕ) → i < n → p < n → eqb (place i) p ≡ eqb i (id p)
  same_place i p low other =
      elim (cases_eq i (id p)) [
        | inl is ↦ eq-eqb (place i) p (ap place is ∙ places.back p other) ∙ sym (eq-eqb i (id p) is)
        | inr isnt ↦ ne_eqb (place i) p (λ is. isnt (sym (places.there i low) ∙ ap id is)) ∙ sym (ne_eqb i (id p) isnt)
      ]

  -- ---- edges and entries

  abbrev placed : Edge → Edge
  placed e = placed_edge place e

  module _ {Weight : Type 0} where
    abbrev renamed : Entry Weight → Entry Weight
    renamed e = placed_entry place e

    abbrev IsInner : Entry Weight → Type 0
    IsInner e = IsInside n e

  same_degree : (i : ℕ) (edges : List Edge) → i < n → AreBelow n edges → out_degree (map placed edges) (place i) ≡ out_degree edges i
  same_degree i [] low below = refl
  same_degree i (e ∷ es) low below =
      let here = All-head (λ (d : Edge). (d.source < n) × (d.target < n)) e es below in
      let test : eqb (place e.source) (place i) ≡ eqb e.source i = same_place e.source (place i) here.0 (places.place_low i low) ∙ ap (λ (j : ℕ). eqb e.source j) (places.there i low) in
      sum_by-cons (λ (d : Edge). cond (eqb d.source (place i)) 1 0) (placed e) (map placed es)
      ∙ ap (λ (b : Bool). cond b 1 0 + out_degree (map placed es) (place i)) test
      ∙ ap (λ (k : ℕ). cond (eqb e.source i) 1 0 + k) (same_degree i es low (All-tail (λ (d : Edge). (d.source < n) × (d.target < n)) e es below))
      ∙ sym (sum_by-cons (λ (d : Edge). cond (eqb d.source i) 1 0) e es)

  pub placed_degrees : (edges : List Edge) → AreBelow n edges → by_degree (map placed edges) ≡ map renamed (by_degree edges)
  placed_degrees edges below =
      map-map (λ (e : Edge). record { row = e.target; column = e.source; weight = out_degree (map placed edges) e.source }) placed edges
      ∙ map_agree (λ (e : Edge). record { row = place e.target; column = place e.source; weight = out_degree (map placed edges) (place e.source) }) (λ (e : Edge). record { row = place e.target; column = place e.source; weight = out_degree edges e.source }) edges
      (All-weaker (λ (e : Edge). (e.source < n) × (e.target < n)) (λ (e : Edge). ◌≡◌ {A = Entry ℕ} (record { row = place e.target; column = place e.source; weight = out_degree (map placed edges) (place e.source) }) (record { row = place e.target; column = place e.source; weight = out_degree edges e.source })) (λ e h. ap (λ (w : ℕ). record { row = place e.target; column = place e.source; weight = w }) (same_degree e.source edges h.0 below)) edges below)
      ∙ sym (map-map renamed (λ (e : Edge). record { row = e.target; column = e.source; weight = out_degree edges e.source }) edges)

  -- ---- steps and iterates

  module _ {Val Msg Weight : Type 0} (a : Algorithm Val Msg Weight) (entries : List (Entry Weight)) (inside : All IsInner entries) where
    abbrev placed_algorithm : Algorithm Val Msg Weight
    placed_algorithm = over_places id a

    pub messages_placed : (v w : Vector Val) → ((p : ℕ) → p < n → w p ≡ v (id p)) → (p : ℕ) → p < n → messages_to placed_algorithm (map renamed entries) w p ≡ messages_to a entries v (id p)
    messages_placed v w agree p low =
        let mine = filter (λ (e : Entry Weight). eqb e.row (id p)) entries in
        let msg : Entry Weight → Msg = λ e. a.combine2 e.weight (w e.column) in
        ap (map msg) (filter-map (λ (e : Entry Weight). eqb e.row p) renamed entries
        ∙ ap (map renamed) (filter_agree_on (λ (e : Entry Weight). eqb (place e.row) p) (λ (e : Entry Weight). eqb e.row (id p)) entries (All-weaker IsInner (λ (e : Entry Weight). eqb (place e.row) p ≡ eqb e.row (id p)) (λ e h. same_place e.row p h.0 low) entries inside)))
        ∙ map-map msg renamed mine
        ∙ map_agree (λ e. msg (renamed e)) (λ (e : Entry Weight). a.combine2 e.weight (v e.column)) mine (All-weaker IsInner (λ e. msg (renamed e) ≡ a.combine2 e.weight (v e.column)) (λ e h. ap (a.combine2 e.weight) (agree (place e.column) (places.place_low e.column h.1) ∙ ap v (places.there e.column h.1))) mine (All-filter (λ (e : Entry Weight). eqb e.row (id p)) IsInner entries inside))

    -- the iterates over places are those of the nodes there
    pub iterates_placed : (k p : ℕ) → p < n → iterate placed_algorithm (map renamed entries) k p ≡ iterate a entries k (id p)
    iterates_placed zero p low = refl
    iterates_placed (suc k) p low =
        let v = iterate a entries k in
        let w = iterate placed_algorithm (map renamed entries) k in
        ap (λ (x : Val). a.assign x (all_of a (messages_to placed_algorithm (map renamed entries) w p))) (iterates_placed k p low)
        ∙ ap (λ (ms : List Msg). a.assign (v (id p)) (all_of a ms)) (messages_placed v w (iterates_placed k) p low)
