-- A step along the entries within blocks, from lines that all entries are cut into.
use Rattle.std.proofs.Common.{◌≡◌, refl, sym, ap, ◌∙◌, Bool, true, false, cond, eqb, ◌&&◌, ℕ, ◌<◌, ◌≤◌, List, [], ◌∷◌, ◌++◌, map, filter, inl, inr, arith}
use Rattle.std.specs.List.{All, flat_map}
use Rattle.std.specs.List.Sorted.{IsPermutation}
use Rattle.std.proofs.lemmas.Bool.{cases_Bool, eqb-true, eqb-false, eq-eqb, ne_eqb}
use Rattle.std.proofs.lemmas.List.Elements.{All-head, All-tail, All-weaker, All-map}
use Rattle.std.proofs.lemmas.List.Sorted.{IsPermutation-map}
use Rattle.graph.specs.Entries.{Entry}
use Rattle.graph.specs.Steps.{Algorithm, Vector, messages_to, all_of, step}
use Rattle.graph.proofs.GatherLemmas.{entries_in_any_order}
use Rattle.gimv_core.specs.Algebras.{Algebra, FitsMsg}
use Rattle.gimv_core.specs.Laws.{IsLawful}
use Rattle.gimv_block.specs.Blocks.{block_of, node_at, entry_at}
use Rattle.gimv_block.specs.BlockFlow.{BlockLine, entries_of_line}
use Rattle.gimv_block.proofs.BlockLemmas.{same_place}
use Rattle.list_laws.proofs.Filters.{filter-flat_map}
use Rattle.list_laws.proofs.Images.{map-flat_map}
use Rattle.flow_diag.specs.Closing.{inner_entries}

-- what a list's images pass on
pub messages-flat : {I Val Msg Weight : Type 0} (a : Algorithm Val Msg Weight) (f : I → List (Entry Weight)) (is : List I) (w : Vector Val) (i : ℕ)
    → messages_to a (flat_map f is) w i ≡ flat_map (λ x. messages_to a (f x) w i) is
messages-flat {I} {Val} {Msg} {Weight} a f is w i =
    let msg : Entry Weight → Msg = λ e. a.combine2 e.weight (w e.column) in
    ap (map msg) (filter-flat_map (λ (e : Entry Weight). eqb e.row i) f is) ∙ map-flat_map msg (λ x. filter (λ (e : Entry Weight). eqb e.row i) (f x)) is

-- vectors that agree where the entries' columns are pass the same messages
pub messages_agree : {Val Msg Weight : Type 0} (a : Algorithm Val Msg Weight) (u w : Vector Val) (i : ℕ) (es : List (Entry Weight)) → All (λ (e : Entry Weight). u e.column ≡ w e.column) es
    → messages_to a es u i ≡ messages_to a es w i
messages_agree a u w i [] all = refl
messages_agree {Val} {Msg} {Weight} a u w i (e ∷ es) all =
    let rest = messages_agree a u w i es (All-tail (λ (d : Entry Weight). u d.column ≡ w d.column) e es all) in
    elim (cases_Bool (eqb e.row i)) [
      | inl is ↦ rw is (ap (λ (x : Val). a.combine2 e.weight x ∷ messages_to a es u i) (All-head (λ (d : Entry Weight). u d.column ≡ w d.column) e es all) ∙ ap (λ (ms : List Msg). a.combine2 e.weight (w e.column) ∷ ms) rest)
      | inr isnt ↦ rw isnt rest
    ]

module _ {Weight : Type 0} (len n : ℕ) where
  abbrev IsInner : Entry Weight → Bool
  IsInner e = eqb (block_of len e.row) (block_of len e.column)

  -- the entry, or where it isn't within a block one whose row is no node
  masked : Entry Weight → Entry Weight
  masked e = cond (IsInner e) e (record { row = n; column = e.column; weight = e.weight })

  module _ {Val Msg : Type 0} (a : Algorithm Val Msg Weight) (w : Vector Val) where
    masked_messages : (i : ℕ) → i < n → (es : List (Entry Weight)) → messages_to a (map masked es) w i ≡ messages_to a (inner_entries len es) w i
    unfolding masked
    masked_messages i low [] = refl
    masked_messages i low (e ∷ es) =
        let later = masked_messages i low es in
        let away : eqb n i ≡ false = ne_eqb n i (λ is. omega (arith, is)) in
        elim (cases_Bool (IsInner e)) [
          | inl is ↦ elim (cases_Bool (eqb e.row i)) [
            | inl here ↦ rw (is, here) (ap (λ (ms : List Msg). a.combine2 e.weight (w e.column) ∷ ms) later)
            | inr isnt ↦ rw (is, isnt) later
          ]
          | inr isnt ↦ rw (isnt, away) later
        ]

  module _ {Val Msg : Type 0} (a : Algebra Val Msg Weight) (laws : IsLawful a) (w : Vector Val) where
    abbrev Passes : Entry Weight → Type 0
    Passes e = FitsMsg a (a.algorithm.combine2 e.weight (w e.column))

    masked_passes : (e : Entry Weight) → Passes e → Passes (masked e)
    unfolding masked
    masked_passes e fits = elim (cases_Bool (IsInner e)) [ inl is ↦ rw is fits | inr isnt ↦ rw isnt fits ]

    -- the order of the entries makes no difference to a step along those within blocks
    pub inner_steps : (entries others : List (Entry Weight)) → All Passes entries → IsPermutation entries others → (i : ℕ) → i < n
        → step a.algorithm (inner_entries len entries) w i ≡ step a.algorithm (inner_entries len others) w i
    inner_steps entries others all moved i low =
        let by : List Msg → Val = λ ms. a.algorithm.assign (w i) (all_of a.algorithm ms) in
        ap by (sym (masked_messages a.algorithm w i low entries))
        ∙ entries_in_any_order a.algorithm a.fits_msg laws.in_any_order (map masked entries) (map masked others) w (All-map Passes masked entries (All-weaker Passes (λ e. Passes (masked e)) masked_passes entries all)) (IsPermutation-map masked entries others moved) i
        ∙ ap by (masked_messages a.algorithm w i low others)

-- ---- lines

-- a line within block j
abbrev pub within : {Weight : Type 0} → ℕ → BlockLine Weight → Bool
within j line = eqb line.column_block j && eqb line.row_block j

module _ {Val Msg Weight : Type 0} (a : Algorithm Val Msg Weight) (len j : ℕ) (some : 1 ≤ len) (w : Vector Val) (i : ℕ) (here : block_of len i ≡ j) where
  abbrev IsSmall : Entry Weight → Type 0
  IsSmall e = (e.row < len) × (e.column < len)

  -- the entries of a line within blocks pass on to a node of block j what the line does, if it is within j
  line_messages : (line : BlockLine Weight) (items : List (Entry Weight)) → All IsSmall items
      → messages_to a (inner_entries len (map (entry_at len line.row_block line.column_block) items)) w i
      ≡ cond (within j line) (messages_to a (map (entry_at len line.row_block line.column_block) items) w i) []
  line_messages line [] all = elim (cases_Bool (within j line)) [ inl is ↦ rw is refl | inr isnt ↦ rw isnt refl ]
  line_messages line (e ∷ es) all =
      let small = All-head IsSmall e es all in
      let later = line_messages line es (All-tail IsSmall e es all) in
      let row = (same_place len line.row_block e.row (node_at len line.row_block e.row) small.0 refl).0 in
      let column = (same_place len line.column_block e.column (node_at len line.column_block e.column) small.1 refl).0 in
      let test : eqb (block_of len (node_at len line.row_block e.row)) (block_of len (node_at len line.column_block e.column)) ≡ eqb line.row_block line.column_block =
      ap (λ (r : ℕ). eqb r (block_of len (node_at len line.column_block e.column))) row ∙ ap (λ (c : ℕ). eqb line.row_block c) column in
      elim (cases_Bool (eqb (node_at len line.row_block e.row) i)) [
        | inl is ↦
            let at : line.row_block ≡ j = sym row ∙ ap (block_of len) (eqb-true (node_at len line.row_block e.row) i is) ∙ here in
            let of_row : eqb line.row_block j ≡ true = eq-eqb line.row_block j at in
            elim (cases_Bool (eqb line.column_block j)) [
              | inl too ↦
                  let same : eqb line.row_block line.column_block ≡ true = eq-eqb line.row_block line.column_block (at ∙ sym (eqb-true line.column_block j too)) in
                  let inside : within j line ≡ true = ap (λ (b : Bool). b && eqb line.row_block j) too ∙ of_row in
                  rw (test ∙ same, is, inside) (ap (λ (ms : List Msg). a.combine2 e.weight (w (node_at len line.column_block e.column)) ∷ ms) (later ∙ ap (λ (b : Bool). cond b (messages_to a (map (entry_at len line.row_block line.column_block) es) w i) []) inside))
              | inr apart ↦
                  let same : eqb line.row_block line.column_block ≡ false = ne_eqb line.row_block line.column_block (λ e'. eqb-false line.column_block j apart (sym e' ∙ at)) in
                  let outside : within j line ≡ false = ap (λ (b : Bool). b && eqb line.row_block j) apart in
                  rw (test ∙ same, outside) (later ∙ ap (λ (b : Bool). cond b (messages_to a (map (entry_at len line.row_block line.column_block) es) w i) []) outside)
            ]
        | inr isnt ↦
            elim (cases_Bool (eqb line.row_block line.column_block)) [
              | inl same ↦ rw (test ∙ same, isnt) later
              | inr apart ↦ rw (test ∙ apart, isnt) later
            ]
      ]

  pub lines_messages : (lines : List (BlockLine Weight)) → All (λ (line : BlockLine Weight). All IsSmall line.items) lines
      → messages_to a (inner_entries len (flat_map (entries_of_line len) lines)) w i ≡ flat_map (λ line. cond (within j line) (messages_to a (entries_of_line len line) w i) []) lines
  lines_messages lines all =
      ap (λ (es : List (Entry Weight)). messages_to a es w i) (filter-flat_map (λ (e : Entry Weight). eqb (block_of len e.row) (block_of len e.column)) (entries_of_line len) lines)
      ∙ messages-flat a (λ line. inner_entries len (entries_of_line len line)) lines w i
      ∙ each lines all
    where
      each : (ls : List (BlockLine Weight)) → All (λ (line : BlockLine Weight). All IsSmall line.items) ls
          → flat_map (λ line. messages_to a (inner_entries len (entries_of_line len line)) w i) ls ≡ flat_map (λ line. cond (within j line) (messages_to a (entries_of_line len line) w i) []) ls
      each [] all' = refl
      each (l ∷ ls) all' =
          let Small : BlockLine Weight → Type 0 = λ line. All IsSmall line.items in
          ap (λ (ms : List Msg). ms ++ flat_map (λ line. messages_to a (inner_entries len (entries_of_line len line)) w i) ls) (line_messages l l.items (All-head Small l ls all'))
          ∙ ap (λ (ms : List Msg). cond (within j l) (messages_to a (entries_of_line len l) w i) [] ++ ms) (each ls (All-tail Small l ls all'))
