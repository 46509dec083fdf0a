-- The lines of a group of entries.
use Rattle.std.proofs.Common.{◌≡◌, ◌≢◌, ℕ, ◌+◌, ◌≤◌, Bool, true, false, eqb, List, [], ◌∷◌, ◌++◌, map, length, All, decimal, Option, Some, None, option_map, if◌then◌else◌, refl, sym, ap, ◌∙◌, append_assoc, inl, inr, arith, eqb-true}
use Rattle.std.specs.List.{flat_map, join_with_byte}
use Rattle.std.proofs.lemmas.Bool.{cases_Bool, eqb-false, cond-true, cond-false}
use Rattle.std.proofs.lemmas.List.{append-nil, map-append, length-append}
use Rattle.std.proofs.lemmas.List.Elements.{All-nil, All-cons}
use Rattle.peg_text.specs.Pairs.{key_of}
use Rattle.graph.specs.Entries.{Entry}
use Rattle.gimv_base.specs.Parts.{Part, written, after}
use Rattle.gimv_base.specs.Lines.{with_lf}
use Rattle.gimv_block.specs.BlockRecords.{link_tag, block_pair_of, cut_record_of}
use Rattle.gimv_block.specs.BlockLines.{item_text, link_pair, link_head, link_text}
use Rattle.gimv_block.specs.BlockRules.{most_items, item_lead, next_count, items_part, item_then, begun_items, blocks_part}
use Rattle.gimv_block.specs.BlockListing.{IsSized, listed_line, AreListed, BlocksAreListed}
use Rattle.gimv_block.proofs.RowLemmas.{is_nil, join_more}

-- the same list, read off the front
heads : {A : Type 0} (x y : Option A) (xs ys : List (Option A)) → x ∷ xs ≡ y ∷ ys → (x ≡ y) × (xs ≡ ys)
heads x y xs ys is = (cc, cc)

-- a line of items is its head and its items
pub link_is : (j i : ℕ) (es : List (Entry ℕ)) → link_head j i ++ join_with_byte 44 (map item_text es) ≡ link_text j i es
link_is j i es =
    let list = join_with_byte 44 (map item_text es) in
    append_assoc (decimal j) (9 ∷ link_tag j i ∷ 32 ∷ (decimal i ++ (32 ∷ []))) list
    ∙ ap (λ (l : List ℕ). decimal j ++ (9 ∷ link_tag j i ∷ 32 ∷ l)) (append_assoc (decimal i) (32 ∷ []) list)

module _ {A : Type 0} (entry : A → Entry ℕ) (j i : ℕ) where
  abbrev head : List ℕ
  head = link_head j i

  abbrev text : A → List ℕ
  text x = item_text (entry x)

  -- an open line of some items
  abbrev open_line : A → List A → List ℕ
  open_line x xs = head ++ join_with_byte 44 (map item_text (map entry (x ∷ xs)))

  one_more_item : (x : A) (xs : List A) (y : A) → open_line x (xs ++ y ∷ []) ≡ open_line x xs ++ (44 ∷ text y)
  one_more_item x xs y =
      ap (λ (es : List (Entry ℕ)). head ++ join_with_byte 44 (map item_text es)) (map-append entry (x ∷ xs) (y ∷ []))
      ∙ ap (λ (ts : List (List ℕ)). head ++ join_with_byte 44 ts) (map-append item_text (map entry (x ∷ xs)) (entry y ∷ []))
      ∙ ap (λ (l : List ℕ). head ++ l) (join_more 44 (map item_text (map entry (x ∷ xs))) (text y))
      ∙ sym (append_assoc head (join_with_byte 44 (map item_text (map entry (x ∷ xs)))) (44 ∷ text y))

  -- a line that is open, and what is written behind it
  abbrev behind : List ℕ → Part → Part
  behind front part = record { out = front ++ part.out; bad = part.bad }

  abbrev whole : List (List A) → List ℕ
  whole lines = flat_map (listed_line entry j i) lines

  sized : (x : A) (xs : List A) (count : ℕ) → length (x ∷ xs) ≡ count → count ≤ most_items → IsSized (x ∷ xs)
  sized x xs count long few = record { some = λ e. cc; few = omega (arith, long, few) }

  closed : (x : A) (xs : List A) → with_lf (open_line x xs) ≡ listed_line entry j i (x ∷ xs)
  closed x xs = ap with_lf (link_is j i (map entry (x ∷ xs)))

  listed : (x : A) (xs : List A) (count : ℕ) → length (x ∷ xs) ≡ count → count ≤ most_items → (rs : List (List ℕ)) (ys : List A) → map cut_record_of rs ≡ map Some (map entry ys)
      → AreListed entry j i ((x ∷ xs) ++ ys) (behind (open_line x xs) (items_part head rs count))
  listed x xs count long few [] [] read = record {
    lines = (x ∷ xs) ∷ [];
    together = refl;
    sizes = All-cons IsSized (x ∷ xs) [] (sized x xs count long few) (All-nil IsSized);
    is = ap written (closed x xs ∙ sym (append-nil (listed_line entry j i (x ∷ xs))));
  }
  listed x xs count long few [] (y ∷ ys) read = cc
  listed x xs count long few (r ∷ rs) [] read = cc
  listed x xs count long few (r ∷ rs) (y ∷ ys) read =
      let parts = heads (cut_record_of r) (Some (entry y)) (map cut_record_of rs) (map Some (map entry ys)) read in
      elim (cases_Bool (eqb count most_items)) [
        | inl full ↦
            let there : items_part head (r ∷ rs) count ≡ after ((with_lf [] ++ head) ++ text y) 1 (items_part head rs 1) =
            ap (λ (found : Option (Entry ℕ)). item_then found (item_lead head count) (items_part head rs (next_count count))) parts.0
            ∙ ap (λ (b : Bool). after ((if b then with_lf [] ++ head else 44 ∷ []) ++ text y) 1 (items_part head rs (if b then 1 else count + 1))) full in
            let later = listed y [] 1 refl (omega arith) rs ys parts.1 in
            let rest = items_part head rs 1 in
            let moved : open_line x xs ++ (((with_lf [] ++ head) ++ text y) ++ rest.out) ≡ with_lf (open_line x xs) ++ ((head ++ text y) ++ rest.out) =
            sym (append_assoc (open_line x xs) ((with_lf [] ++ head) ++ text y) rest.out)
            ∙ ap (λ (l : List ℕ). l ++ rest.out) (sym (append_assoc (open_line x xs) (10 ∷ head) (text y)) ∙ ap (λ (l : List ℕ). l ++ text y) (sym (append_assoc (open_line x xs) (10 ∷ []) head))
            ∙ append_assoc (with_lf (open_line x xs)) head (text y))
            ∙ append_assoc (with_lf (open_line x xs)) (head ++ text y) rest.out in record {
              lines = (x ∷ xs) ∷ later.lines;
              together = ap (λ (l : List A). (x ∷ xs) ++ l) later.together;
              sizes = All-cons IsSized (x ∷ xs) later.lines (sized x xs count long few) later.sizes;
              is =
                  ap (behind (open_line x xs)) there
                  ∙ ap (λ (out : List ℕ). record { out = out; bad = option_map (λ (k : ℕ). 1 + k) rest.bad }) moved
                  ∙ ap (λ (p : Part). record { out = with_lf (open_line x xs) ++ p.out; bad = option_map (λ (k : ℕ). 1 + k) p.bad }) later.is
                  ∙ ap (λ (l : List ℕ). written (l ++ whole later.lines)) (closed x xs);
            }
        | inr room ↦
            let apart = eqb-false count most_items room in
            let there : items_part head (r ∷ rs) count ≡ after ((44 ∷ []) ++ text y) 1 (items_part head rs (count + 1)) =
            ap (λ (found : Option (Entry ℕ)). item_then found (item_lead head count) (items_part head rs (next_count count))) parts.0
            ∙ ap (λ (b : Bool). after ((if b then with_lf [] ++ head else 44 ∷ []) ++ text y) 1 (items_part head rs (if b then 1 else count + 1))) room in
            let later = listed x (xs ++ y ∷ []) (count + 1) (omega (arith, long, length-append xs (y ∷ []))) (omega (arith, few, apart)) rs ys parts.1 in
            let rest = items_part head rs (count + 1) in
            let moved : open_line x xs ++ (((44 ∷ []) ++ text y) ++ rest.out) ≡ open_line x (xs ++ y ∷ []) ++ rest.out =
            sym (append_assoc (open_line x xs) (44 ∷ text y) rest.out) ∙ ap (λ (l : List ℕ). l ++ rest.out) (sym (one_more_item x xs y)) in record {
              lines = later.lines;
              together = later.together ∙ append_assoc (x ∷ xs) (y ∷ []) ys;
              sizes = later.sizes;
              is =
                  ap (behind (open_line x xs)) there
                  ∙ ap (λ (out : List ℕ). record { out = out; bad = option_map (λ (k : ℕ). 1 + k) rest.bad }) moved
                  ∙ ap (λ (p : Part). record { out = p.out; bad = option_map (λ (k : ℕ). 1 + k) p.bad }) later.is;
            }
      ]

pub blocks_are_listed : {A : Type 0} → BlocksAreListed A
blocks_are_listed {A} entry j i r rs x xs pair read =
    let parts = heads (cut_record_of r) (Some (entry x)) (map cut_record_of rs) (map Some (map entry xs)) read in
    let all = listed entry j i x [] 1 refl (omega arith) rs xs parts.1 in
    let there : blocks_part (r ∷ rs) ≡ after (link_head j i ++ item_text (entry x)) 1 (items_part (link_head j i) rs 1) =
    ap (λ (blocks : Option (ℕ × ℕ)). begun_items rs blocks (cut_record_of r)) pair
    ∙ ap (λ (found : Option (Entry ℕ)). item_then found (link_head j i) (items_part (link_head j i) rs 1)) parts.0 in record {
      lines = all.lines;
      together = all.together;
      sizes = all.sizes;
      is = there ∙ ap (λ (p : Part). record { out = p.out; bad = option_map (λ (k : ℕ). 1 + k) p.bad }) all.is;
    }
