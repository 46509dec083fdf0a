-- The new values of a block from all that comes to it.
use Rattle.std.proofs.Common.{◌≡◌, refl, sym, ap, ◌∙◌, subst, ℕ, ◌*◌, ◌<◌, ◌≤◌, ◌^◌, eqb, List, [], ◌∷◌, ◌++◌, map, filter, decimal, inl, inr, arith}
use Rattle.std.specs.List.{All, flat_map}
use Rattle.std.specs.List.Sorted.{IsPermutation}
use Rattle.std.proofs.lemmas.Bool.{cases_Bool, eqb-true}
use Rattle.std.proofs.lemmas.List.Elements.{All-weaker}
use Rattle.std.proofs.lemmas.List.Folds.{flat_map-map}
use Rattle.peg_text.specs.Pairs.{pair_line}
use Rattle.graph.specs.Entries.{Entry}
use Rattle.graph.specs.Steps.{Vector, step}
use Rattle.gimv_core.specs.Algebras.{Algebra, VectorFits, EntriesFit}
use Rattle.gimv_core.specs.Consequences.{first_nodes}
use Rattle.gimv_core.specs.Laws.{IsLawful}
use Rattle.gimv_block.specs.Blocks.{block_size, node_at, nodes_of_block}
use Rattle.gimv_block.specs.BlockFlow.{BlockLine, entries_of_line, passed_by, parts_to}
use Rattle.gimv_block.specs.BlockLines.{messages_in, parts_of, values_pair}
use Rattle.gimv_block.specs.BlockReadBack.{IsGoodItem, IsGoodLine}
use Rattle.gimv_block.specs.BlockRules.{new_values, new_values_line, with_messages}
use Rattle.gimv_block.specs.BlockSteps.{sent_to, AreCut}
use Rattle.gimv_block.specs.BlockValues.{differs}
use Rattle.gimv_block.proofs.BlockLemmas.{block_steps_are_steps}
use Rattle.gimv_block.proofs.BlockNodes.{block_placed}
use Rattle.gimv_block.proofs.FlowLemmas.{parts_are_sent}
use Rattle.gimv_block.proofs.NewValueLemmas.{new_values_are_made}
use Rattle.gimv_block.proofs.SettleLemmas.{messages_in-append}
use Rattle.pairs.specs.Pairs.{Pair, pair_before}
use Rattle.list_laws.proofs.Orders.{in_order_flat}
use Rattle.flow_core.proofs.Items.{items_of, sorted_of}
use Rattle.flow_block.proofs.BlockJoins.{IsBlock, parts_sent, sent_pair, vector_pair}

pub messages_in-flat : {Msg L : Type 0} (row : ℕ) (f : L → List (ℕ × Msg)) (ls : List L) → messages_in row (flat_map f ls) ≡ flat_map (λ l. messages_in row (f l)) ls
messages_in-flat row f [] = refl
messages_in-flat {Msg} row f (l ∷ ls) = messages_in-append row (f l) (flat_map f ls) ∙ ap (λ (ms : List Msg). messages_in row (f l) ++ ms) (messages_in-flat row f ls)

module _ {Val Msg Weight : Type 0} (a : Algebra Val Msg Weight) (laws : IsLawful a) (len n : ℕ) (some : 1 ≤ len) (short : len ≤ 256) (few : n ≤ 2 ^ 32)
    (counts : ℕ → ℕ) (most : (i : ℕ) → counts i ≤ 1) (v : Vector Val) (vector : VectorFits a (first_nodes n) v) (number : Weight → ℕ)
    (xs : List (BlockLine Weight)) (good : All (IsGoodLine a number len n) xs)
    (entries : List (Entry Weight)) (fits : EntriesFit a (first_nodes n) entries) (are_cut : AreCut entries (map (entries_of_line len) xs)) where
  abbrev next : Vector Val
  next = step a.algorithm entries v

  abbrev parts : BlockLine Weight → List (ℕ × Msg)
  parts = parts_sent a laws len n some short few counts most v vector number

  abbrev to_pair : BlockLine Weight → Pair
  to_pair = sent_pair a laws len n some short few counts most v vector number

  abbrev row_block_of : BlockLine Weight → ℕ
  row_block_of line = line.row_block

  abbrev lines_to : ℕ → List (BlockLine Weight)
  lines_to j = sorted_of decimal eqb to_pair row_block_of xs j

  -- the parts to a block are those of its lines
  to_block : (j row : ℕ) (ls : List (BlockLine Weight)) → flat_map (λ line. messages_in row (parts_to a.algorithm len v j (block_size len n j) line)) ls ≡ flat_map (λ line. messages_in row (parts line)) (filter (λ line. eqb (row_block_of line) j) ls)
  to_block j row [] = refl
  to_block j row (line ∷ ls) =
      let later = to_block j row ls in
      elim (cases_Bool (eqb line.row_block j)) [
        | inl is ↦
            let same = eqb-true line.row_block j is in
            rw is (ap (λ (ms : List Msg). messages_in row (parts_of a.algorithm (block_size len n j) (passed_by a.algorithm len v line)) ++ ms) later
            ∙ ap (λ (k : ℕ). messages_in row (parts_of a.algorithm (block_size len n k) (passed_by a.algorithm len v line)) ++ flat_map (λ l. messages_in row (parts l)) (filter (λ l. eqb (row_block_of l) j) ls)) (sym same))
        | inr isnt ↦ rw isnt later
      ]

  small_items : All (λ (line : BlockLine Weight). All (λ (e : Entry Weight). e.row < len) line.items) xs
  small_items =
      All-weaker (IsGoodLine a number len n) (λ (line : BlockLine Weight). All (λ (e : Entry Weight). e.row < len) line.items) (λ line h.
      let placed = block_placed len n line.row_block some h.row_low in
      All-weaker (IsGoodItem a number (block_size len n line.row_block) (block_size len n line.column_block)) (λ (e : Entry Weight). e.row < len) (λ e g. omega (arith, g.row, placed.short)) line.items h.each) xs good

  -- the messages to a row are what the lines send to its node, in some order
  sent_moved : (j o : ℕ) → IsBlock a laws len n some short few j → o < block_size len n j
      → IsPermutation (flat_map (λ line. sent_to a.algorithm line v (node_at len j o)) (map (entries_of_line len) xs)) (messages_in o (flat_map (λ sent. sent) (map parts (lines_to j))))
  sent_moved j o low inside =
      let node = node_at len j o in
      let placed = block_placed len n j some low in
      let here : BlockLine Weight → List Msg = λ line. messages_in o (parts line) in
      let all : List Msg = messages_in o (flat_map (λ sent. sent) (map parts (lines_to j))) in
      let found : flat_map (λ line. sent_to a.algorithm line v node) (map (entries_of_line len) xs) ≡ flat_map here (items_of decimal eqb to_pair row_block_of xs j) =
      flat_map-map (λ line. sent_to a.algorithm line v node) (entries_of_line len) xs
      ∙ sym (parts_are_sent a.algorithm len j (block_size len n j) o v placed.short inside xs small_items)
      ∙ messages_in-flat o (parts_to a.algorithm len v j (block_size len n j)) xs
      ∙ to_block j o xs in
      let back : flat_map here (lines_to j) ≡ all =
      sym (messages_in-flat o parts (lines_to j)) ∙ ap (messages_in o) (sym (flat_map-map (λ (sent : List (ℕ × Msg)). sent) parts (lines_to j))) in
      subst (λ zs. IsPermutation zs all) (sym found)
      (subst (λ zs. IsPermutation (flat_map here (items_of decimal eqb to_pair row_block_of xs j)) zs) back (in_order_flat (λ d e. pair_before (to_pair d) (to_pair e)) here (items_of decimal eqb to_pair row_block_of xs j)))

  -- and so the new values are those of the step
  pub makes : (j : ℕ) → IsBlock a laws len n some short few j
      → new_values_line a j (map v (nodes_of_block len n j)) (new_values a (with_messages a (λ row. a.algorithm.unit) (flat_map (λ sent. sent) (map parts (lines_to j)))) 0 (map v (nodes_of_block len n j)))
      ≡ pair_line (vector_pair a len n (differs a.algorithm v next) next j).0 (vector_pair a len n (differs a.algorithm v next) next j).1
  makes j low =
      let nodes = nodes_of_block len n j in
      let sent = flat_map (λ s. s) (map parts (lines_to j)) in
      let renewed = new_values_are_made a (with_messages a (λ row. a.algorithm.unit) sent) v next (j * len) (block_size len n j) (λ o inside.
      block_steps_are_steps a laws (first_nodes n) entries (map (entries_of_line len) xs) v fits vector are_cut (node_at len j o) (messages_in o sent) (sent_moved j o low inside)) in
      ap (new_values_line a j (map v nodes)) renewed.values
      ∙ ap (λ (c : ℕ). pair_line (values_pair a j c (map next nodes)).0 (values_pair a j c (map next nodes)).1) renewed.changed
