-- Lines of items, as they are read and held.
use Rattle.std.proofs.Common.{◌≡◌, ℕ, zero, suc, ◌+◌, ◌-◌, ◌<◌, ◌≤◌, ◌^◌, ltb, eqb, eqb-true, eq-eqb, Bool, true, false, ◌&&◌, IsTrue, List, [], ◌∷◌, ◌++◌, length, get_or, take, drop, map, All, Option, Some, None, IfSome, option_map, option_and_then, is_some, refl, sym, ap, subst, ◌∙◌, arith, append_assoc, length-append}
use Rattle.std.specs.List.{list_all, slice_split}
use Rattle.std.proofs.lemmas.Bool.{and_from, and_parts, lt-ltb, ltb-true}
use Rattle.std.proofs.lemmas.List.{append-nil, take_all, nil_from_length, take-append-le, drop-append-le, length-drop, length-take-le, drop_more}
use Rattle.std.proofs.lemmas.List.Folds.{list_all-append}
use Rattle.std.proofs.lemmas.List.Sums.{sum_by-cons}
use Rattle.peg_text.specs.Lists.{GoesOnFrom}
use Rattle.gimv_core.specs.Algebras.{Algebra, FitsWeight}
use Rattle.gimv_core.specs.Laws.{IsLawful}
use Rattle.gimv_base.specs.Fields.{number_below}
use Rattle.gimv_base.specs.Parts.{Part, after}
use Rattle.gimv_base.specs.Answers.{Takes}
use Rattle.gimv_base.specs.BaseRules.{Reading, read_first, read_all, unless_bad}
use Rattle.gimv_block.specs.Blocks.{block_count, block_size}
use Rattle.gimv_block.specs.Items.{is_comma, all_some, pieces_of, items_of, around_colon}
use Rattle.gimv_block.specs.BlockRecords.{link_record_of}
use Rattle.gimv_block.proofs.ItemLemmas.{prefixed}
use Rattle.gimv_block.proofs.SendLemmas.{and_then_has, map_has, if_some_is, items_have, all_is, number_below_has}
use Rattle.gimv_block.proofs.SettleLemmas.{unless_bad-more}
use Rattle.gimv_diag.specs.declared.items.Item.{Item}
use Rattle.gimv_diag.specs.declared.items.Line.{Line}
use Rattle.gimv_diag.specs.DiagonalRules.{raw_item_of, raw_fields, weighed_of, raw_line_of, raw_record_of, closed_part, closed_lines}
use Rattle.gimv_diag.specs.Held.{held, item_count, item_fits, line_fits, lines_fit}

-- ---- items of a text, read behind those before

after_one : {A : Type 0} (xs : List A) (x : A) (o : Option (List A)) → prefixed (xs ++ x ∷ []) o ≡ prefixed xs (option_map (λ ys. x ∷ ys) o)
after_one xs x None = refl
after_one xs x (Some ys) = ap Some (append_assoc xs (x ∷ []) ys)

prefixed_more : {A : Type 0} (xs : List A) (x : A) (o : Option A) (os : List (Option A)) → o ≡ Some x → prefixed (xs ++ x ∷ []) (all_some os) ≡ prefixed xs (all_some (o ∷ os))
prefixed_more xs x o os is = rw is (after_one xs x (all_some os))

prefixed_none : {A : Type 0} (xs : List A) (o : Option A) (os : List (Option A)) → o ≡ None → prefixed xs (all_some (o ∷ os)) ≡ None
prefixed_none xs o os is = rw is refl

none_found : {A : Type 0} (xs : List A) (o : Option (List A)) → prefixed xs o ≡ None → o ≡ None
none_found xs None is = refl
none_found xs (Some ys) is = cc

module _ {A : Type 0} (kind : List ℕ → Option A) (text : List ℕ) (old : List A) where
  -- these items are read behind the old ones, and this text is left
  pub record AreBehind (now : List A) (left : Option (List ℕ)) : Type 0 where
    pub on : prefixed now (all_some (map kind (pieces_of left))) ≡ prefixed old (items_of kind text)
    pub kept : GoesOnFrom old now

  pub none_behind : AreBehind old (Some text)
  none_behind = record { on = refl; kept = record { more = []; is = sym (append-nil old) } }

  pub one_behind : (now : List A) (x : A) (item left : List ℕ) (rest : Option (List ℕ)) → pieces_of (Some left) ≡ item ∷ pieces_of rest → Some x ≡ kind item → AreBehind now (Some left) → AreBehind (now ++ x ∷ []) rest
  one_behind now x item left rest cut is so_far = record {
    on = prefixed_more now x (kind item) (map kind (pieces_of rest)) (sym is) ∙ ap (λ ps. prefixed now (all_some (map kind ps))) (sym cut) ∙ so_far.on;
    kept = record { more = so_far.kept.more ++ x ∷ []; is = ap (λ (l : List A). l ++ x ∷ []) so_far.kept.is ∙ append_assoc old so_far.kept.more (x ∷ []) };
  }

  pub bad_behind : (now : List A) (item left : List ℕ) (rest : Option (List ℕ)) → pieces_of (Some left) ≡ item ∷ pieces_of rest → None ≡ kind item → AreBehind now (Some left) → items_of kind text ≡ None
  bad_behind now item left rest cut is so_far =
      none_found old (items_of kind text) (sym so_far.on ∙ ap (λ ps. prefixed now (all_some (map kind ps))) cut ∙ prefixed_none now (kind item) (map kind (pieces_of rest)) (sym is))

  pub all_behind : (now : List A) → AreBehind now None → prefixed old (items_of kind text) ≡ Some now
  all_behind now so_far = sym so_far.on ∙ ap Some (append-nil now)

-- ---- a line is held

count_more : (lines : List Line) (line : Line) → item_count (lines ++ line ∷ []) ≡ item_count lines + line.count
count_more [] line = let sum = sum_by-cons (λ (line : Line). line.count) line [] in omega (arith, sum)
count_more (l ∷ ls) line =
    let left = sum_by-cons (λ (line : Line). line.count) l (ls ++ line ∷ []) in
    let right = sum_by-cons (λ (line : Line). line.count) l ls in
    omega (arith, left, right, count_more ls line)

module _ {Weight : Type 0} where
  held_more : (lines : List Line) (items more : List (Item Weight)) (line : Line) → item_count lines ≡ length items → line.count ≡ length more
      → held (lines ++ line ∷ []) (items ++ more) ≡ held lines items ++ (line.block, more) ∷ []
  held_more [] items more line count size =
      let none : items ≡ [] = nil_from_length items (sym count) in
      ap (λ (is : List (Item Weight)). (line.block, take line.count (is ++ more)) ∷ []) none
      ∙ ap (λ (is : List (Item Weight)). (line.block, is) ∷ []) (take_all line.count more (omega arith))
  held_more (l ∷ ls) items more line count size =
      let sum : item_count (l ∷ ls) ≡ l.count + item_count ls = sum_by-cons (λ (line : Line). line.count) l ls in
      let low : l.count ≤ length items = omega arith in
      let rest : item_count ls ≡ length (drop l.count items) = omega (arith, length-drop l.count items) in
      ap (λ (is : List (Item Weight)). (l.block, is) ∷ held (ls ++ line ∷ []) (drop l.count (items ++ more))) (take-append-le l.count items more low)
      ∙ ap (λ (is : List (Item Weight)). (l.block, take l.count items) ∷ held (ls ++ line ∷ []) is) (drop-append-le l.count items more low)
      ∙ ap (λ (hs : List (ℕ × List (Item Weight))). (l.block, take l.count items) ∷ hs) (held_more ls (drop l.count items) more line rest size)

  -- what a further line makes of those that are held
  pub record HoldsMore (block : ℕ) (found : Option (List (Item Weight))) (lines lines' : List Line) (items items' : List (Item Weight)) : Type 0 where
    pub more : List (Item Weight)
    pub is : found ≡ Some more
    pub held_is : held lines' items' ≡ held lines items ++ (block, more) ∷ []
    pub count_is : item_count lines' ≡ length items'

  pub holds_more : (block : ℕ) (found : Option (List (Item Weight))) (lines lines' : List Line) (items items' : List (Item Weight)) → item_count lines ≡ length items → is_some found ≡ true
      → IfSome found (λ more. (items' ≡ items ++ more) × (lines' ≡ lines ++ record { block = block; count = length more } ∷ []))
      → HoldsMore block found lines lines' items items'
  holds_more block None lines lines' items items' count some grown = cc
  holds_more block (Some more) lines lines' items items' count some grown =
      let line : Line = record { block = block; count = length more } in record {
        more = more;
        is = refl;
        held_is = ap (λ (ls : List Line). held ls items') grown.1 ∙ ap (λ (is : List (Item Weight)). held (lines ++ line ∷ []) is) grown.0 ∙ held_more lines items more line count refl;
        count_is = omega (arith, ap item_count grown.1, count_more lines line, ap length grown.0, length-append items more, count);
      }

module _ {Val Msg Weight : Type 0} (a : Algebra Val Msg Weight) (laws : IsLawful a) where
  -- what is read of an item fits
  raw_item_fits : (rows columns : ℕ) (text : List ℕ) → IfSome (raw_item_of a rows columns text) (λ item. IsTrue (item_fits a rows columns item))
  raw_item_fits rows columns text =
      let P : Item Weight → Type 0 = λ item. IsTrue (item_fits a rows columns item) in
      and_then_has P (raw_fields a rows columns) (around_colon text)
      (λ fields is. and_then_has P (λ r. option_and_then (weighed_of a r columns) (around_colon fields.1)) (number_below rows fields.0)
      (λ r row. and_then_has P (weighed_of a r columns) (around_colon fields.1)
      (λ rest there. and_then_has P (λ c. option_map (λ w. record { row = r; column = c; weight = w }) (a.weight_of rest.1)) (number_below columns rest.0)
      (λ c column. map_has P (λ w. record { row = r; column = c; weight = w }) (a.weight_of rest.1)
      (weighs r c (if_some_is (λ k. k < rows) (number_below rows fields.0) r row (number_below_has rows fields.0)) (if_some_is (λ k. k < columns) (number_below columns rest.0) c column (number_below_has columns rest.0))
      (a.weight_of rest.1) (laws.weight_of_fits rest.1))))))
    where
      weighs : (r c : ℕ) → r < rows → c < columns → (o : Option Weight) → IfSome o (FitsWeight a) → IfSome o (λ w. IsTrue (item_fits a rows columns (record { row = r; column = c; weight = w })))
      weighs r c row column None fw = tt
      weighs r c row column (Some w) fw = and_from (ltb r rows) _ (lt-ltb r rows row) (and_from (ltb c columns) (a.fits_weight w) (lt-ltb c columns column) fw)

  -- a line that was read keeps all that is held fitting
  pub fits_more : (len n columns block : ℕ) (text : List ℕ) (lines lines' : List Line) (items items' : List (Item Weight))
      → HoldsMore block (items_of (raw_item_of a (block_size len n block) columns) text) lines lines' items items'
      → lines_fit a len n columns (held lines items) ≡ true → lines_fit a len n columns (held lines' items') ≡ true
  fits_more len n columns block text lines lines' items items' grown fits =
      let rows = block_size len n block in
      let line = if_some_is (All (λ item. IsTrue (item_fits a rows columns item))) (items_of (raw_item_of a rows columns) text) grown.more grown.is
      (items_have (λ item. IsTrue (item_fits a rows columns item)) (raw_item_of a rows columns) (raw_item_fits rows columns) text) in
      ap (lines_fit a len n columns) grown.held_is
      ∙ list_all-append (line_fits a len n columns) (held lines items) ((block, grown.more) ∷ [])
      ∙ and_from (lines_fit a len n columns (held lines items)) _ fits (and_from (line_fits a len n columns (block, grown.more)) true (all_is (item_fits a rows columns) grown.more line) refl)

  module _ (as_msg : Val → Msg) (len n j : ℕ) (vs : List Val) where
    closed_more : (before : List (ℕ × List (Item Weight))) (r : List ℕ) (line : ℕ × List (Item Weight)) → raw_record_of a len n j (length vs) r ≡ Some line
        → (later : List (List ℕ)) → closed_part a as_msg len n j vs before (r ∷ later) ≡ after [] 1 (closed_part a as_msg len n j vs (before ++ line ∷ []) later)
    closed_more before r line is later =
        let read = read_all (raw_record_of a len n j (length vs)) later in
        let text : List (ℕ × List (Item Weight)) → List ℕ = λ lines. closed_lines a as_msg len n j lines vs in
        ap (λ (found : Option (ℕ × List (Item Weight))). unless_bad (read_first found read).bad (text (before ++ (read_first found read).items))) is
        ∙ unless_bad-more read.bad (text (before ++ (line ∷ read.items)))
        ∙ ap (λ (lines : List (ℕ × List (Item Weight))). after [] 1 (unless_bad read.bad (text lines))) (sym (append_assoc before (line ∷ []) read.items))

    -- a line of items is taken in
    pub line_held : (block rows columns : ℕ) (r text out : List ℕ) (lines lines' : List Line) (items items' : List (Item Weight))
        → Some (block, text) ≡ link_record_of (block_count len n) j r → rows ≡ block_size len n block → columns ≡ length vs
        → HoldsMore block (items_of (raw_item_of a rows columns) text) lines lines' items items'
        → Takes (closed_part a as_msg len n j vs (held lines items)) (closed_part a as_msg len n j vs (held lines' items')) r out out
    line_held block rows columns r text out lines lines' items items' link rows_is columns_is grown = record {
      added = [];
      grown = sym (append-nil out);
      on = λ later.
          closed_more (held lines items) r (block, grown.more)
          (ap (option_and_then (raw_line_of a len n (length vs))) (sym link)
          ∙ ap (λ (found : Option (List (Item Weight))). option_map (λ items. (block, items)) found)
          (ap (λ (k : ℕ). items_of (raw_item_of a k (length vs)) text) (sym rows_is) ∙ ap (λ (k : ℕ). items_of (raw_item_of a rows k) text) (sym columns_is) ∙ grown.is))
          later
          ∙ ap (λ (before : List (ℕ × List (Item Weight))). after [] 1 (closed_part a as_msg len n j vs before later)) (sym grown.held_is);
    }

  -- what a state of the role keeps
  abbrev pub keeps : ℕ → ℕ → ℕ → List Val → List Line → List (Item Weight) → Bool
  keeps len n j vals lines items =
      list_all a.fits_val vals && (lines_fit a len n (length vals) (held lines items) && (eqb (item_count lines) (length items) && (eqb (length vals) (block_size len n j) && ltb (length vals) (2 ^ 32))))

  pub record Keeps (len n j : ℕ) (vals : List Val) (lines : List Line) (items : List (Item Weight)) : Type 0 where
    pub vals_fit : list_all a.fits_val vals ≡ true
    pub lines_fit : lines_fit a len n (length vals) (held lines items) ≡ true
    pub count : item_count lines ≡ length items
    pub size : length vals ≡ block_size len n j
    pub few : length vals < 2 ^ 32

  pub what_is_kept : (len n j : ℕ) (vals : List Val) (lines : List Line) (items : List (Item Weight)) → IsTrue (keeps len n j vals lines items) → Keeps len n j vals lines items
  what_is_kept len n j vals lines items all =
      let one = and_parts _ _ all in
      let two = and_parts _ _ one.1 in
      let three = and_parts _ _ two.1 in
      let four = and_parts _ _ three.1 in
      record { vals_fit = one.0; lines_fit = two.0; count = eqb-true _ _ three.0; size = eqb-true _ _ four.0; few = ltb-true _ _ four.1 }

  pub it_keeps : (len n j : ℕ) (vals : List Val) (lines : List Line) (items : List (Item Weight)) → Keeps len n j vals lines items → IsTrue (keeps len n j vals lines items)
  it_keeps len n j vals lines items all =
      and_from (list_all a.fits_val vals) _ all.vals_fit (and_from (lines_fit a len n (length vals) (held lines items)) _ all.lines_fit
      (and_from (eqb (item_count lines) (length items)) _ (eq-eqb _ _ all.count) (and_from (eqb (length vals) (block_size len n j)) _ (eq-eqb _ _ all.size) (lt-ltb (length vals) (2 ^ 32) all.few))))

  pub none_held : (len n j : ℕ) (vals : List Val) (lines : List Line) (items : List (Item Weight)) → list_all a.fits_val vals ≡ true → length vals ≡ block_size len n j → length vals < 2 ^ 32 → lines ≡ [] → items ≡ []
      → IsTrue (keeps len n j vals lines items)
  none_held len n j vals lines items fits size few no_lines no_items =
      rw (no_lines, no_items) (it_keeps len n j vals [] [] (record { vals_fit = fits; lines_fit = refl; count = refl; size = size; few = few }))

  pub more_kept : (len n j : ℕ) (vals : List Val) (block rows columns : ℕ) (text : List ℕ) (lines lines' : List Line) (items items' : List (Item Weight)) → Keeps len n j vals lines items
      → rows ≡ block_size len n block → columns ≡ length vals → HoldsMore block (items_of (raw_item_of a rows columns) text) lines lines' items items' → IsTrue (keeps len n j vals lines' items')
  more_kept len n j vals block rows columns text lines lines' items items' had rows_is columns_is grown =
      it_keeps len n j vals lines' items' (record {
        vals_fit = had.vals_fit;
        lines_fit = fits_more len n (length vals) block text lines lines' items items'
            (subst (λ k. HoldsMore block (items_of (raw_item_of a k (length vals)) text) lines lines' items items') rows_is (subst (λ k. HoldsMore block (items_of (raw_item_of a rows k) text) lines lines' items items') columns_is grown)) had.lines_fit;
        count = grown.count_is;
        size = had.size;
        few = had.few;
      })
