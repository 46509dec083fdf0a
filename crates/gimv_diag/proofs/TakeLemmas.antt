-- What items pass on, item by item and line by line.
use Rattle.std.proofs.Common.{◌≡◌, ℕ, zero, suc, ◌+◌, ◌-◌, ◌<◌, ◌≤◌, ltb, eqb, Bool, true, false, ◌&&◌, IsTrue, List, [], ◌∷◌, ◌++◌, length, get_or, set, take, drop, map, fold, All, Option, Some, None, IfSome, cond, if◌then◌else◌, refl, sym, ap, subst, ◌∙◌, inl, inr, arith, append_assoc, length-append, slice_get}
use Rattle.std.specs.List.{list_all, flat_map}
use Rattle.std.proofs.lemmas.Bool.{cases_Bool, and_parts, ltb-true}
use Rattle.std.proofs.lemmas.Option.{slice_get_read}
use Rattle.std.proofs.lemmas.List.{append-nil, at_drop_more, at_drop_all, drop_all, drop_more, length-drop, length-take-le}
use Rattle.std.proofs.lemmas.List.Concat.{flat_map-append}
use Rattle.std.proofs.lemmas.List.Sums.{fold-append, sum_by-cons}
use Rattle.std.proofs.Math.ListN.{length-set}
use Rattle.peg_text.specs.Lists.{GoesOnFrom}
use Rattle.gimv_core.specs.Algebras.{Algebra, FitsVal, FitsMsg}
use Rattle.gimv_core.specs.Laws.{IsLawful}
use Rattle.gimv_block.specs.Blocks.{block_size}
use Rattle.gimv_block.specs.Rows.{take_in, RowsFit, with_one}
use Rattle.gimv_diag.specs.declared.items.Item.{Item}
use Rattle.gimv_diag.specs.declared.items.Line.{Line}
use Rattle.gimv_diag.specs.DiagonalRules.{passed_from, passed_value, inner_items, inner_of, passed_line}
use Rattle.gimv_diag.specs.Held.{held, item_count, item_fits, line_fits, lines_fit}

pub all_at_index : {A : Type 0} (p : A → Bool) (xs : List A) (k : ℕ) (x : A) → list_all p xs ≡ true → k < length xs → x ≡ get_or xs k x → IsTrue (p x)
all_at_index p [] k x all low is = absurd (omega arith)
all_at_index p (y ∷ ys) zero x all low is = subst (λ z. IsTrue (p z)) (sym is) (and_parts (p y) (list_all p ys) all).0
all_at_index p (y ∷ ys) (suc k) x all low is = all_at_index p ys k x (and_parts (p y) (list_all p ys) all).1 (omega arith) is

module _ {Val Msg Weight : Type 0} (a : Algebra Val Msg Weight) where
  -- an item's places and weight fit
  pub record ItemIn (rows columns : ℕ) (item : Item Weight) : Type 0 where
    pub row : item.row < rows
    pub column : item.column < columns
    pub weight : IsTrue (a.fits_weight item.weight)

  pub item_in : (rows columns : ℕ) (items : List (Item Weight)) (k : ℕ) (item : Item Weight) → list_all (item_fits a rows columns) items ≡ true → k < length items → item ≡ get_or items k item → ItemIn rows columns item
  item_in rows columns items k item all low is =
      let fits = all_at_index (item_fits a rows columns) items k item all low is in
      let parts = and_parts _ _ fits in
      let more = and_parts _ _ parts.1 in
      record { row = ltb-true item.row rows parts.0; column = ltb-true item.column columns more.0; weight = more.1 }

  -- the items before this place are taken in
  pub record AreTakenIn (vals : List Val) (items : List (Item Weight)) (old now : List (Option Msg)) (place : ℕ) : Type 0 where
    pub on : fold (take_in a) now (flat_map (passed_from a vals) (drop place items)) ≡ fold (take_in a) old (flat_map (passed_from a vals) items)
    pub fit : RowsFit a now
    pub long : length now ≡ length old

  pub one_taken_in : (vals : List Val) (items : List (Item Weight)) (old now new : List (Option Msg)) (place : ℕ) (item : Item Weight) (v : Val) → place < length items → item ≡ get_or items place item
      → item.column < length vals → v ≡ get_or vals item.column v
      → new ≡ set now item.row (Some (with_one a (get_or now item.row None) (a.algorithm.combine2 item.weight v))) → RowsFit a new
      → AreTakenIn vals items old now place → AreTakenIn vals items old new (place + 1)
  one_taken_in vals items old now new place item v low here inside there is fit so_far =
      let rest = flat_map (passed_from a vals) (drop (place + 1) items) in
      let passed : passed_from a vals item ≡ (item.row, a.algorithm.combine2 item.weight v) ∷ [] = ap (passed_value a item) (slice_get_read vals (length vals) item.column v refl inside there) in record {
        on =
            ap (λ (rows : List (Option Msg)). fold (take_in a) rows rest) is
            ∙ ap (λ (sent : List (ℕ × Msg)). fold (take_in a) now (sent ++ rest)) (sym passed)
            ∙ ap (λ (i : Item Weight). fold (take_in a) now (passed_from a vals i ++ rest)) here
            ∙ sym (at_drop_more (λ (is : List (Item Weight)). fold (take_in a) now (flat_map (passed_from a vals) is)) items place item low)
            ∙ so_far.on;
        fit = fit;
        long = ap length is ∙ length-set now item.row (Some (with_one a (get_or now item.row None) (a.algorithm.combine2 item.weight v))) ∙ so_far.long;
      }

  pub all_taken_in : (vals : List Val) (items : List (Item Weight)) (old now : List (Option Msg)) (place : ℕ) → length items ≤ place → AreTakenIn vals items old now place
      → now ≡ fold (take_in a) old (flat_map (passed_from a vals) items)
  all_taken_in vals items old now place past so_far =
      ap (λ (is : List (Item Weight)). fold (take_in a) now (flat_map (passed_from a vals) is)) (sym (drop_all place items past)) ∙ so_far.on

  -- ---- line by line: the lines from this place on, and their items

  pub record AreLeft (len n columns : ℕ) (lines : List Line) (place : ℕ) (rest : List (Item Weight)) : Type 0 where
    pub fits : lines_fit a len n columns (held (drop place lines) rest) ≡ true
    pub count : item_count (drop place lines) ≡ length rest

  -- the line at a place, and those that are left behind it
  pub record NextLine (len n columns : ℕ) (lines : List Line) (place : ℕ) (rest : List (Item Weight)) (line : Line) : Type 0 where
    pub room : line.count ≤ length rest
    pub mine : line_fits a len n columns (line.block, take line.count rest) ≡ true
    pub left : AreLeft len n columns lines (place + 1) (drop line.count rest)
    pub held_is : held (drop place lines) rest ≡ (line.block, take line.count rest) ∷ held (drop (place + 1) lines) (drop line.count rest)

  pub next_line : (len n columns : ℕ) (lines : List Line) (place : ℕ) (rest : List (Item Weight)) (line : Line) → place < length lines → line ≡ get_or lines place line
      → AreLeft len n columns lines place rest → NextLine len n columns lines place rest line
  next_line len n columns lines place rest line low here left =
      let cut : drop place lines ≡ line ∷ drop (place + 1) lines = drop_more lines place line low ∙ ap (λ (l : Line). l ∷ drop (place + 1) lines) (sym here) in
      let held_is : held (drop place lines) rest ≡ (line.block, take line.count rest) ∷ held (drop (place + 1) lines) (drop line.count rest) = ap (λ (ls : List Line). held ls rest) cut in
      let sum : item_count (drop place lines) ≡ line.count + item_count (drop (place + 1) lines) = ap item_count cut ∙ sum_by-cons (λ (l : Line). l.count) line (drop (place + 1) lines) in
      let all : lines_fit a len n columns ((line.block, take line.count rest) ∷ held (drop (place + 1) lines) (drop line.count rest)) ≡ true = ap (lines_fit a len n columns) (sym held_is) ∙ left.fits in
      let parts = and_parts (line_fits a len n columns (line.block, take line.count rest)) (lines_fit a len n columns (held (drop (place + 1) lines) (drop line.count rest))) all in record {
        room = omega (arith, sum, left.count);
        mine = parts.0;
        left = record { fits = parts.1; count = omega (arith, sum, left.count, length-drop line.count rest) };
        held_is = held_is;
      }

  -- what the lines before this place pass on is written
  pub record AreSentOn (len n : ℕ) (vals : List Val) (lines : List Line) (items : List (Item Weight)) (old now : List ℕ) (place : ℕ) (rest : List (Item Weight)) : Type 0 where
    pub on : now ++ flat_map (passed_line a len n vals) (held (drop place lines) rest) ≡ old ++ flat_map (passed_line a len n vals) (held lines items)
    pub kept : GoesOnFrom old now
    pub left : AreLeft len n (length vals) lines place rest

  module _ (len n : ℕ) (vals : List Val) (lines : List Line) (items : List (Item Weight)) (old : List ℕ) where
    pub none_sent : lines_fit a len n (length vals) (held lines items) ≡ true → item_count lines ≡ length items → AreSentOn len n vals lines items old old 0 items
    none_sent fits count = record { on = refl; kept = record { more = []; is = sym (append-nil old) }; left = record { fits = fits; count = count } }

    pub one_sent : (now new : List ℕ) (place : ℕ) (rest : List (Item Weight)) (line : Line) → NextLine len n (length vals) lines place rest line
        → new ≡ now ++ passed_line a len n vals (line.block, take line.count rest)
        → AreSentOn len n vals lines items old now place rest → AreSentOn len n vals lines items old new (place + 1) (drop line.count rest)
    one_sent now new place rest line next is so_far =
        let text = passed_line a len n vals (line.block, take line.count rest) in
        let later = flat_map (passed_line a len n vals) (held (drop (place + 1) lines) (drop line.count rest)) in record {
          on =
              ap (λ (l : List ℕ). l ++ later) is
              ∙ append_assoc now text later
              ∙ ap (λ (hs : List (ℕ × List (Item Weight))). now ++ flat_map (passed_line a len n vals) hs) (sym next.held_is)
              ∙ so_far.on;
          kept = record { more = so_far.kept.more ++ text; is = is ∙ ap (λ (l : List ℕ). l ++ text) so_far.kept.is ∙ append_assoc old so_far.kept.more text };
          left = next.left;
        }

    pub all_sent : (now : List ℕ) (place : ℕ) (rest : List (Item Weight)) → length lines ≤ place → AreSentOn len n vals lines items old now place rest
        → now ≡ old ++ flat_map (passed_line a len n vals) (held lines items)
    all_sent now place rest past so_far =
        sym (append-nil now) ∙ ap (λ (ls : List Line). now ++ flat_map (passed_line a len n vals) (held ls rest)) (sym (drop_all place lines past)) ∙ so_far.on

pub goes_on_further : {X : Type 0} (old mid new : List X) → GoesOnFrom old mid → GoesOnFrom mid new → GoesOnFrom old new
goes_on_further old mid new first later = record { more = first.more ++ later.more; is = later.is ∙ ap (λ l. l ++ later.more) first.is ∙ append_assoc old first.more later.more }
