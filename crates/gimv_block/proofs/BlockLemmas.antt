-- Messages in groups by line.
use Rattle.std.proofs.Common.{◌≡◌, ◌≢◌, ℕ, zero, suc, ◌+◌, ◌*◌, ◌/◌, ◌%◌, ◌<◌, ◌≤◌, ◌^◌, Bool, true, false, cond, eqb, IsTrue, List, [], ◌∷◌, ◌++◌, map, filter, fold, All, refl, sym, ap, subst, ◌∙◌, inl, inr, arith, eqb-true, eq-eqb}
use Rattle.std.specs.List.{flat_map}
use Rattle.std.specs.List.Sorted.{IsPermutation}
use Rattle.std.proofs.lemmas.Bool.{cases_Bool, eqb-false, ne_eqb}
use Rattle.std.proofs.lemmas.Nat.{div-add-mod', div-mul-add}
use Rattle.std.proofs.lemmas.List.{map-append}
use Rattle.std.proofs.lemmas.List.Elements.{All-nil, All-cons, All-head, All-tail, All-append, All-weaker, filter-append}
use Rattle.std.proofs.lemmas.List.Sorted.{All-permutation, IsPermutation-refl}
use Rattle.graph.specs.Entries.{Entry}
use Rattle.graph.specs.Steps.{Algorithm, Vector, messages_to, all_of, step, iterate}
use Rattle.graph.specs.Laws.{AllFit, PassFitting}
use Rattle.graph.proofs.GatherLemmas.{messages_in_any_order, messages_in_groups}
use Rattle.gimv_core.specs.Algebras.{Algebra, FitsMsg, VectorFits, EntryFits, EntriesFit}
use Rattle.gimv_core.specs.Laws.{IsLawful}
use Rattle.gimv_core.specs.Consequences.{first_nodes}
use Rattle.gimv_core.proofs.Fitting.{fold_fits, messages_fit, steps_in_any_order, iterate_fits}
use Rattle.gimv_block.specs.Blocks.{block_of, offset_of, node_at, entry_at}
use Rattle.gimv_block.specs.BlockSteps.{of_some, sent_to, block_step, block_iterate, AreCut}

-- a list as a group, unless it is empty
abbrev as_group : {A : Type 0} → List A → List (List A)
as_group xs = of_some (λ ys. ys) xs

All-front : {A : Type 0} (P : A → Type 0) (xs ys : List A) → All P (xs ++ ys) → All P xs
All-front P [] ys all = All-nil P
All-front P (x ∷ xs) ys all = All-cons P x xs (All-head P x (xs ++ ys) all) (All-front P xs ys (All-tail P x (xs ++ ys) all))

All-back : {A : Type 0} (P : A → Type 0) (xs ys : List A) → All P (xs ++ ys) → All P ys
All-back P [] ys all = all
All-back P (x ∷ xs) ys all = All-back P xs ys (All-tail P x (xs ++ ys) all)

map-as_group : {A B : Type 0} (f : List A → B) (xs : List A) → map f (as_group xs) ≡ of_some f xs
map-as_group f [] = refl
map-as_group f (x ∷ xs) = refl

ungrouped : {A : Type 0} (xs : List A) (groups : List (List A)) → flat_map (λ g. g) (as_group xs ++ groups) ≡ xs ++ flat_map (λ g. g) groups
ungrouped [] groups = refl
ungrouped (x ∷ xs) groups = refl

All-as_group : {A : Type 0} (P : List A → Type 0) (xs : List A) → P xs → All P (as_group xs)
All-as_group P [] p = All-nil P
All-as_group P (x ∷ xs) p = All-cons P (x ∷ xs) [] p (All-nil P)

module _ {Val Msg Weight : Type 0} (a : Algorithm Val Msg Weight) where
  messages_to-append : (es fs : List (Entry Weight)) (v : Vector Val) (i : ℕ) → messages_to a (es ++ fs) v i ≡ messages_to a es v i ++ messages_to a fs v i
  messages_to-append es fs v i =
      let send : Entry Weight → Msg = λ e. a.combine2 e.weight (v e.column) in
      let here : Entry Weight → Bool = λ e. eqb e.row i in
      ap (map send) (filter-append here es fs) ∙ map-append send (filter here es) (filter here fs)

  module _ (v : Vector Val) (i : ℕ) where
    -- the messages to a node by lines, without the lines that have none
    groups_to : List (List (Entry Weight)) → List (List Msg)
    groups_to [] = []
    groups_to (line ∷ lines) = as_group (messages_to a line v i) ++ groups_to lines

    sent_by_groups : (lines : List (List (Entry Weight))) → map (all_of a) (groups_to lines) ≡ flat_map (λ line. sent_to a line v i) lines
    unfolding groups_to
    sent_by_groups [] = refl
    sent_by_groups (line ∷ lines) =
        map-append (all_of a) (as_group (messages_to a line v i)) (groups_to lines)
        ∙ ap (λ (ms : List Msg). ms ++ map (all_of a) (groups_to lines)) (map-as_group (all_of a) (messages_to a line v i))
        ∙ ap (λ (ms : List Msg). sent_to a line v i ++ ms) (sent_by_groups lines)

    groups_together : (lines : List (List (Entry Weight))) → flat_map (λ g. g) (groups_to lines) ≡ messages_to a (flat_map (λ line. line) lines) v i
    unfolding groups_to
    groups_together [] = refl
    groups_together (line ∷ lines) =
        ungrouped (messages_to a line v i) (groups_to lines)
        ∙ ap (λ (ms : List Msg). messages_to a line v i ++ ms) (groups_together lines)
        ∙ sym (messages_to-append line (flat_map (λ l. l) lines) v i)

    groups_all : (P : List Msg → Type 0) (lines : List (List (Entry Weight))) → All (λ line. P (messages_to a line v i)) lines → All P (groups_to lines)
    unfolding groups_to
    groups_all P [] all = All-nil P
    groups_all P (line ∷ lines) all =
        let Q : List (Entry Weight) → Type 0 = λ line. P (messages_to a line v i) in
        All-append P (as_group (messages_to a line v i)) (groups_to lines) (All-as_group P (messages_to a line v i) (All-head Q line lines all)) (groups_all P lines (All-tail Q line lines all))

All-lines : {A : Type 0} (P : A → Type 0) (lines : List (List A)) → All P (flat_map (λ l. l) lines) → All (All P) lines
All-lines P [] all = All-nil (All P)
All-lines P (line ∷ lines) all =
    All-cons (All P) line lines (All-front P line (flat_map (λ l. l) lines) all) (All-lines P lines (All-back P line (flat_map (λ l. l) lines) all))

All-flat : {A : Type 0} (P : A → Type 0) (lines : List (List A)) → All (All P) lines → All P (flat_map (λ l. l) lines)
All-flat P [] all = All-nil P
All-flat P (line ∷ lines) all =
    All-append P line (flat_map (λ l. l) lines) (All-head (All P) line lines all) (All-flat P lines (All-tail (All P) line lines all))

module _ {Val Msg Weight : Type 0} (a : Algebra Val Msg Weight) (laws : IsLawful a) where
  abbrev Fit : Msg → Type 0
  Fit m = IsTrue (a.fits_msg m)

  alls_fit : (groups : List (List Msg)) → All (All Fit) groups → All Fit (map (all_of a.algorithm) groups)
  alls_fit [] all = All-nil Fit
  alls_fit (g ∷ gs) all =
      All-cons Fit (all_of a.algorithm g) (map (all_of a.algorithm) gs) (fold_fits a laws a.algorithm.unit g laws.in_any_order.unit_fits (All-head (All Fit) g gs all)) (alls_fit gs (All-tail (All Fit) g gs all))

  -- what the lines send fits
  pub sent_fits : (nodes : ℕ → Bool) (entries : List (Entry Weight)) (lines : List (List (Entry Weight))) (v : Vector Val) → EntriesFit a nodes entries → VectorFits a nodes v → AreCut entries lines
      → (i : ℕ) → All Fit (flat_map (λ line. sent_to a.algorithm line v i) lines)
  sent_fits nodes entries lines v fits vector cut i =
      let each_fits : All (EntriesFit a nodes) lines = All-lines (EntryFits a nodes) lines (All-permutation (EntryFits a nodes) entries (flat_map (λ line. line) lines) cut fits) in
      subst (All Fit) (sent_by_groups a.algorithm v i lines) (alls_fit (groups_to a.algorithm v i lines) (groups_all a.algorithm v i (All Fit) lines
      (All-weaker (EntriesFit a nodes) (λ line. All Fit (messages_to a.algorithm line v i)) (λ line fit. messages_fit a laws nodes line v i fit vector) lines each_fits)))

  pub block_steps_are_steps : (nodes : ℕ → Bool) (entries : List (Entry Weight)) (lines : List (List (Entry Weight))) (v : Vector Val) → EntriesFit a nodes entries → VectorFits a nodes v → AreCut entries lines
      → (i : ℕ) (messages : List Msg) → IsPermutation (flat_map (λ line. sent_to a.algorithm line v i) lines) messages
      → a.algorithm.assign (v i) (all_of a.algorithm messages) ≡ step a.algorithm entries v i
  block_steps_are_steps nodes entries lines v fits vector cut i messages moved =
      let sent = flat_map (λ line. sent_to a.algorithm line v i) lines in
      let groups = groups_to a.algorithm v i lines in
      let all = flat_map (λ line. line) lines in
      let each_fits : All (EntriesFit a nodes) lines = All-lines (EntryFits a nodes) lines (All-permutation (EntryFits a nodes) entries all cut fits) in
      let good : All (All Fit) groups = groups_all a.algorithm v i (All Fit) lines
      (All-weaker (EntriesFit a nodes) (λ line. All Fit (messages_to a.algorithm line v i)) (λ line fit. messages_fit a laws nodes line v i fit vector) lines each_fits) in
      let is_sent : map (all_of a.algorithm) groups ≡ sent = sent_by_groups a.algorithm v i lines in
      let sent_good : All Fit sent = subst (All Fit) is_sent (alls_fit groups good) in
      ap (a.algorithm.assign (v i))
      (sym (messages_in_any_order a.algorithm a.fits_msg laws.in_any_order sent messages sent_good moved)
      ∙ ap (all_of a.algorithm) (sym is_sent)
      ∙ messages_in_groups a.algorithm a.fits_msg laws.in_any_order groups good
      ∙ ap (all_of a.algorithm) (groups_together a.algorithm v i lines))
      ∙ sym (steps_in_any_order a laws nodes entries all v fits vector cut i)

-- steps of vectors that are the same at each node
module _ {Val Msg Weight : Type 0} (a : Algorithm Val Msg Weight) (v w : Vector Val) (same : (j : ℕ) → v j ≡ w j) where
  pub messages_of_same : (entries : List (Entry Weight)) (i : ℕ) → messages_to a entries v i ≡ messages_to a entries w i
  messages_of_same [] i = refl
  messages_of_same (e ∷ es) i =
      elim (cases_Bool (eqb e.row i)) [
        | inl is ↦ rw is (ap (λ (ms : List Msg). a.combine2 e.weight (v e.column) ∷ ms) (messages_of_same es i) ∙ ap (λ (x : Val). a.combine2 e.weight x ∷ messages_to a es w i) (same e.column))
        | inr isnt ↦ rw isnt (messages_of_same es i)
      ]

  pub step_of_same : (entries : List (Entry Weight)) (i : ℕ) → step a entries v i ≡ step a entries w i
  step_of_same entries i =
      ap (λ (x : Val). a.assign x (all_of a (messages_to a entries v i))) (same i) ∙ ap (λ (ms : List Msg). a.assign (w i) (all_of a ms)) (messages_of_same entries i)

  sent_of_same : (lines : List (List (Entry Weight))) (i : ℕ) → flat_map (λ line. sent_to a line v i) lines ≡ flat_map (λ line. sent_to a line w i) lines
  sent_of_same [] i = refl
  sent_of_same (line ∷ lines) i =
      ap (λ (ms : List Msg). of_some (all_of a) ms ++ flat_map (λ l. sent_to a l v i) lines) (messages_of_same line i)
      ∙ ap (λ (ms : List Msg). sent_to a line w i ++ ms) (sent_of_same lines i)

  pub block_step_of_same : (lines : List (List (Entry Weight))) (i : ℕ) → block_step a lines v i ≡ block_step a lines w i
  block_step_of_same lines i =
      ap (λ (x : Val). a.assign x (all_of a (flat_map (λ line. sent_to a line v i) lines))) (same i) ∙ ap (λ (ms : List Msg). a.assign (w i) (all_of a ms)) (sent_of_same lines i)

module _ {Val Msg Weight : Type 0} (a : Algebra Val Msg Weight) (laws : IsLawful a) (n : ℕ) (entries : List (Entry Weight)) (lines : List (List (Entry Weight)))
    (few : n ≤ 2 ^ 32) (fits : EntriesFit a (first_nodes n) entries) (cut : AreCut entries lines) where
  pub block_iterates_are_iterates : (k i : ℕ) → block_iterate a.algorithm lines k i ≡ iterate a.algorithm entries k i
  block_iterates_are_iterates zero i = refl
  block_iterates_are_iterates (suc k) i =
      let v = iterate a.algorithm entries k in
      block_step_of_same a.algorithm (block_iterate a.algorithm lines k) v (block_iterates_are_iterates k) lines i
      ∙ block_steps_are_steps a laws (first_nodes n) entries lines v fits (iterate_fits a laws n entries k few fits) cut i (flat_map (λ line. sent_to a.algorithm line v i) lines)
      (IsPermutation-refl (flat_map (λ line. sent_to a.algorithm line v i) lines))

-- a node's block and place there
pub same_place : (length block offset node : ℕ) → offset < length → node_at length block offset ≡ node → (block_of length node ≡ block) × (offset_of length node ≡ offset)
same_place length block offset node low is =
    let block_is : node / length ≡ block = subst (λ k. k / length ≡ block) is (div-mul-add block length offset low) in
    (block_is, omega (arith, div-add-mod' node length, ap (λ (b : ℕ). b * length) block_is))

module _ {Val Msg Weight : Type 0} (a : Algorithm Val Msg Weight) (length row_block column_block : ℕ) (v : Vector Val) (i : ℕ) (some : 1 ≤ length) where
  abbrev here : Vector Val
  here c = v (node_at length column_block c)

  abbrev placed : List (Entry Weight) → List (Entry Weight)
  placed es = map (entry_at length row_block column_block) es

  in_block : block_of length i ≡ row_block → (line : List (Entry Weight)) → All (λ (e : Entry Weight). e.row < length) line → messages_to a (placed line) v i ≡ messages_to a line here (offset_of length i)
  in_block there [] all = refl
  in_block there (e ∷ es) all =
      let low : e.row < length = All-head (λ (e : Entry Weight). e.row < length) e es all in
      let rest = in_block there es (All-tail (λ (e : Entry Weight). e.row < length) e es all) in
      elim (cases_Bool (eqb e.row (offset_of length i))) [
        | inl is ↦
            let row = eqb-true e.row (offset_of length i) is in
            let node : node_at length row_block e.row ≡ i = omega (arith, div-add-mod' i length, row, ap (λ (b : ℕ). b * length) there) in
            rw (is, eq-eqb (node_at length row_block e.row) i node) (ap (λ (ms : List Msg). a.combine2 e.weight (here e.column) ∷ ms) rest)
        | inr isnt ↦
            let other = ne_eqb (node_at length row_block e.row) i (λ node. eqb-false e.row (offset_of length i) isnt (sym (same_place length row_block e.row i low node).1)) in
            rw (isnt, other) rest
      ]

  not_in_block : block_of length i ≢ row_block → (line : List (Entry Weight)) → All (λ (e : Entry Weight). e.row < length) line → messages_to a (placed line) v i ≡ []
  not_in_block elsewhere [] all = refl
  not_in_block elsewhere (e ∷ es) all =
      let low : e.row < length = All-head (λ (e : Entry Weight). e.row < length) e es all in
      let rest = not_in_block elsewhere es (All-tail (λ (e : Entry Weight). e.row < length) e es all) in
      let other = ne_eqb (node_at length row_block e.row) i (λ node. elsewhere (same_place length row_block e.row i low node).0) in
      rw other rest

  pub lines_by_offsets : (line : List (Entry Weight)) → All (λ (e : Entry Weight). e.row < length) line
      → messages_to a (placed line) v i ≡ cond (eqb (block_of length i) row_block) (messages_to a line here (offset_of length i)) []
  lines_by_offsets line all =
      elim (cases_Bool (eqb (block_of length i) row_block)) [
        | inl is ↦ rw is (in_block (eqb-true (block_of length i) row_block is) line all)
        | inr isnt ↦ rw isnt (not_in_block (eqb-false (block_of length i) row_block isnt) line all)
      ]
