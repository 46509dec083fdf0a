-- What is read of a block fits, and a line of items is taken in.
use Rattle.std.proofs.Common.{◌≡◌, ℕ, zero, suc, ◌+◌, ◌*◌, ◌<◌, ◌≤◌, ltb, arith, eqb, eqb-true, decimal, Bool, true, false, ◌&&◌, IsTrue, List, [], ◌∷◌, ◌++◌, length, map, fold, All, Option, Some, None, IfSome, option_map, option_and_then, is_some, replicate, slice_get, cond, refl, sym, ap, subst, ◌∙◌, inl, inr, append_assoc}
use Rattle.std.specs.List.{flat_map, list_all, range_with_len, slice_split, join_with_byte}
use Rattle.std.proofs.lemmas.Bool.{cases_Bool, and_from, and_parts, ltb-true}
use Rattle.std.proofs.Math.Nat.{mul-le-mul_right, suc-mul}
use Rattle.std.proofs.lemmas.Grind.{div_ceil_times}
use Rattle.std.proofs.lemmas.List.Elements.{All-nil, All-cons, All-head, All-tail}
use Rattle.std.proofs.lemmas.List.{length-replicate}
use Rattle.peg_text.specs.Pairs.{key_of, value_of, pair_text}
use Rattle.gimv_base.specs.Lines.{with_lf}
use Rattle.gimv_base.specs.Fields.{below, number_below}
use Rattle.gimv_base.specs.Records.{value_text_of}
use Rattle.peg_text.specs.Decimal.{decimal_of}
use Rattle.gimv_core.specs.Algebras.{Algebra, FitsVal, FitsMsg, FitsWeight}
use Rattle.gimv_core.specs.Laws.{IsLawful}
use Rattle.gimv_base.specs.Parts.{Part, after}
use Rattle.gimv_base.specs.Answers.{Takes}
use Rattle.gimv_base.specs.BaseRules.{read_first, read_all}
use Rattle.gimv_block.specs.Blocks.{block_count, block_size}
use Rattle.gimv_block.specs.Items.{all_some, items_of, is_comma, around_colon}
use Rattle.gimv_block.specs.BlockRecords.{of_length, block_values_of, block_record_of, passed_on, item_fields, item_of, sent_of, link_record_of, sent_record_of}
use Rattle.gimv_block.specs.BlockLines.{parts_line, parts_text}
use Rattle.gimv_block.specs.BlockRules.{sent_part}
use Rattle.gimv_block.specs.Rows.{take_in, part_at, parts_in}
use Rattle.gimv_block.proofs.RowLemmas.{rows_are_parts}

-- a property of what a chain of steps that may fail gives
pub and_then_has : {A B : Type 0} (P : B → Type 0) (f : A → Option B) (o : Option A) → ((x : A) → o ≡ Some x → IfSome (f x) P) → IfSome (option_and_then f o) P
and_then_has P f None each = tt
and_then_has P f (Some x) each = each x refl

pub map_has : {A B : Type 0} (P : B → Type 0) (f : A → B) (o : Option A) → IfSome o (λ x. P (f x)) → IfSome (option_map f o) P
map_has P f None has = tt
map_has P f (Some x) has = has

pub if_some_is : {A : Type 0} (P : A → Type 0) (o : Option A) (x : A) → o ≡ Some x → IfSome o P → P x
if_some_is P o x is has = subst (λ p. IfSome p P) is has

joins : {A : Type 0} (P : A → Type 0) (x : A) → P x → (o : Option (List A)) → IfSome o (All P) → IfSome o (λ xs. All P (x ∷ xs))
joins P x px None all = tt
joins P x px (Some xs) all = All-cons P x xs px all

all_some_has : {A : Type 0} (P : A → Type 0) (kind : List ℕ → Option A) (each : (t : List ℕ) → IfSome (kind t) P) (ts : List (List ℕ)) → IfSome (all_some (map kind ts)) (All P)
all_some_has P kind each [] = All-nil P
all_some_has P kind each (t ∷ ts) =
    and_then_has (All P) (λ x. option_map (λ xs. x ∷ xs) (all_some (map kind ts))) (kind t)
    (λ x is. map_has (All P) (λ xs. x ∷ xs) (all_some (map kind ts)) (joins P x (if_some_is P (kind t) x is (each t)) (all_some (map kind ts)) (all_some_has P kind each ts)))

pub items_have : {A : Type 0} (P : A → Type 0) (kind : List ℕ → Option A) (each : (t : List ℕ) → IfSome (kind t) P) (text : List ℕ) → IfSome (items_of kind text) (All P)
items_have P kind each text = all_some_has P kind each (slice_split is_comma text)

pub all_is : {A : Type 0} (p : A → Bool) (xs : List A) → All (λ x. IsTrue (p x)) xs → list_all p xs ≡ true
all_is p [] all = refl
all_is p (x ∷ xs) all = and_from (p x) (list_all p xs) (All-head (λ x. IsTrue (p x)) x xs all) (all_is p xs (All-tail (λ x. IsTrue (p x)) x xs all))

get_has : {A : Type 0} (p : A → Bool) (xs : List A) (k : ℕ) → list_all p xs ≡ true → IfSome (slice_get xs k) (λ x. IsTrue (p x))
get_has p [] k all = tt
get_has p (x ∷ xs) zero all = (and_parts (p x) (list_all p xs) all).0
get_has p (x ∷ xs) (suc k) all = get_has p xs k (and_parts (p x) (list_all p xs) all).1

pub number_below_has : (n : ℕ) (text : List ℕ) → IfSome (number_below n text) (λ k. k < n)
number_below_has n text = and_then_has (λ k. k < n) (below n) (decimal_of text) (λ k is. elim (cases_Bool (ltb k n)) [ inl low ↦ rw low (ltb-true k n low) | inr past ↦ rw past tt ])

-- a block begins among the nodes
start_lt : (len n j : ℕ) → 1 ≤ len → j < block_count len n → j * len < n
start_lt len n j some low =
    let times = div_ceil_times n len (omega arith) in
    let most : suc j * len ≤ block_count len n * len = mul-le-mul_right len (omega arith) in
    omega (arith, times.1, most, suc-mul j len)

module _ {Val Msg Weight : Type 0} (a : Algebra Val Msg Weight) (laws : IsLawful a) where
  -- the values of a block fit
  pub values_fit : (len n : ℕ) (r : List ℕ) → IfSome (block_record_of a len n r) (λ block. list_all a.fits_val block.1 ≡ true)
  values_fit len n r =
      let P : ℕ × List Val → Type 0 = λ block. list_all a.fits_val block.1 ≡ true in
      and_then_has P (λ j. option_map (λ vs. (j, vs)) (option_and_then (block_values_of a (block_size len n j)) (value_text_of (value_of r)))) (number_below (block_count len n) (key_of r))
      (λ j is. map_has P (λ vs. (j, vs)) (option_and_then (block_values_of a (block_size len n j)) (value_text_of (value_of r)))
      (and_then_has (λ vs. list_all a.fits_val vs ≡ true) (block_values_of a (block_size len n j)) (value_text_of (value_of r))
      (λ text there. and_then_has (λ vs. list_all a.fits_val vs ≡ true) (of_length (block_size len n j)) (items_of a.val_of text)
      (λ vs read. sized (block_size len n j) vs (all_is a.fits_val vs (if_some_is (All (FitsVal a)) (items_of a.val_of text) vs read (items_have (FitsVal a) a.val_of laws.val_of_fits text)))))))
    where
      sized : (size : ℕ) (vs : List Val) → list_all a.fits_val vs ≡ true → IfSome (of_length size vs) (λ vs. list_all a.fits_val vs ≡ true)
      sized size vs all = elim (cases_Bool (eqb (length vs) size)) [ inl is ↦ rw is all | inr isnt ↦ rw isnt tt ]

  -- and are as many as the block has nodes
  pub values_long : (len n : ℕ) (r : List ℕ) → IfSome (block_record_of a len n r) (λ block. length block.1 ≡ block_size len n block.0)
  values_long len n r =
      let P : ℕ × List Val → Type 0 = λ block. length block.1 ≡ block_size len n block.0 in
      and_then_has P (λ j. option_map (λ vs. (j, vs)) (option_and_then (block_values_of a (block_size len n j)) (value_text_of (value_of r)))) (number_below (block_count len n) (key_of r))
      (λ j is. map_has P (λ vs. (j, vs)) (option_and_then (block_values_of a (block_size len n j)) (value_text_of (value_of r)))
      (and_then_has (λ vs. length vs ≡ block_size len n j) (block_values_of a (block_size len n j)) (value_text_of (value_of r))
      (λ text there. and_then_has (λ vs. length vs ≡ block_size len n j) (of_length (block_size len n j)) (items_of a.val_of text) (λ vs read. sized (block_size len n j) vs))))
    where
      sized : (size : ℕ) (vs : List Val) → IfSome (of_length size vs) (λ vs. length vs ≡ size)
      sized size vs = elim (cases_Bool (eqb (length vs) size)) [ inl is ↦ rw is (eqb-true (length vs) size is) | inr isnt ↦ rw isnt tt ]

  -- and the block's nodes are among all
  pub values_within : (len n : ℕ) (r : List ℕ) → 1 ≤ len → IfSome (block_record_of a len n r) (λ block. block.0 * len + length block.1 ≤ n)
  values_within len n r some =
      let P : ℕ × List Val → Type 0 = λ block. block.0 * len + length block.1 ≤ n in
      and_then_has P (λ j. option_map (λ vs. (j, vs)) (option_and_then (block_values_of a (block_size len n j)) (value_text_of (value_of r)))) (number_below (block_count len n) (key_of r))
      (λ j is. map_has P (λ vs. (j, vs)) (option_and_then (block_values_of a (block_size len n j)) (value_text_of (value_of r)))
      (and_then_has (λ vs. j * len + length vs ≤ n) (block_values_of a (block_size len n j)) (value_text_of (value_of r))
      (λ text there. and_then_has (λ vs. j * len + length vs ≤ n) (of_length (block_size len n j)) (items_of a.val_of text)
      (λ vs read. sized j vs (start_lt len n j some (if_some_is (λ k. k < block_count len n) (number_below (block_count len n) (key_of r)) j is (number_below_has (block_count len n) (key_of r))))))))
    where
      sized : (j : ℕ) (vs : List Val) → j * len < n → IfSome (of_length (block_size len n j) vs) (λ vs. j * len + length vs ≤ n)
      sized j vs low =
          elim (cases_Bool (eqb (length vs) (block_size len n j))) [
            | inl is ↦ let long = eqb-true (length vs) (block_size len n j) is in rw is (omega (arith, long, low))
            | inr isnt ↦ rw isnt tt
          ]

  module _ (vs : List Val) (fits : list_all a.fits_val vs ≡ true) where
    abbrev Fits : ℕ × Msg → Type 0
    Fits sent = FitsMsg a sent.1

    passed_fits : (fields : List ℕ × List ℕ) → IfSome (passed_on a vs fields) (FitsMsg a)
    passed_fits fields =
        and_then_has (FitsMsg a) (λ v. option_map (λ w. a.algorithm.combine2 w v) (a.weight_of fields.1)) (option_and_then (slice_get vs) (decimal_of fields.0))
        (λ v got. map_has (FitsMsg a) (λ w. a.algorithm.combine2 w v) (a.weight_of fields.1)
        (weighs v (if_some_is (FitsVal a) (option_and_then (slice_get vs) (decimal_of fields.0)) v got
        (and_then_has (FitsVal a) (slice_get vs) (decimal_of fields.0) (λ c is. get_has a.fits_val vs c fits)))
        (a.weight_of fields.1) (laws.weight_of_fits fields.1)))
      where
        weighs : (v : Val) → FitsVal a v → (o : Option Weight) → IfSome o (FitsWeight a) → IfSome o (λ w. FitsMsg a (a.algorithm.combine2 w v))
        weighs v fv None fw = tt
        weighs v fv (Some w) fw = laws.combine2_fits w v fw fv

    pub item_fits : (rows : ℕ) (text : List ℕ) → IfSome (item_of a vs rows text) Fits
    item_fits rows text =
        and_then_has Fits (item_fields a vs rows) (around_colon text)
        (λ fields is. and_then_has Fits (λ r. option_map (λ m. (r, m)) (option_and_then (passed_on a vs) (around_colon fields.1))) (number_below rows fields.0)
        (λ r low. map_has Fits (λ m. (r, m)) (option_and_then (passed_on a vs) (around_colon fields.1))
        (and_then_has (FitsMsg a) (passed_on a vs) (around_colon fields.1) (λ rest there. passed_fits rest))))

    -- and so does what one value passes on
    pub one_fits : (column : ℕ) (weight : List ℕ) (v : Val) (w : Weight) → slice_get vs column ≡ Some v → a.weight_of weight ≡ Some w → FitsMsg a (a.algorithm.combine2 w v)
    one_fits column weight v w there weighs =
        laws.combine2_fits w v (if_some_is (FitsWeight a) (a.weight_of weight) w weighs (laws.weight_of_fits weight))
        (if_some_is (FitsVal a) (slice_get vs column) v there (get_has a.fits_val vs column fits))

    -- what the rows of a block are after the items of a text, as a line
    module _ (len n block : ℕ) (items : List ℕ) (rows : List (Option Msg)) (old new : List ℕ) where
      abbrev size : ℕ
      size = block_size len n block

      abbrev line_of : List (ℕ × Msg) → List ℕ
      line_of parts = with_lf (parts_text a block parts)

      taken : (found : Option (List (ℕ × Msg))) → IfSome found (All Fits) → (result : Option (Unit {0})) → is_some result ≡ true
          → option_map (λ _. rows) result ≡ option_map (fold (take_in a) (replicate size None)) found → new ≡ old ++ line_of (flat_map (part_at rows) (range_with_len 0 size))
          → IfSome (option_map (λ sent. (block, sent)) found) (λ line. new ≡ old ++ parts_line a len n line)
      taken None all None some is more = tt
      taken None all (Some u) some is more = tt
      taken (Some sent) all None some is more = cc
      taken (Some sent) all (Some u) some is more =
          let rows_are : rows ≡ fold (take_in a) (replicate size None) sent = cc in
          more
          ∙ ap (λ (rs : List (Option Msg)). old ++ line_of (flat_map (part_at rs) (range_with_len 0 size))) rows_are
          ∙ ap (λ (parts : List (ℕ × Msg)). old ++ line_of parts) (rows_are_parts a laws size sent all)

      pub items_taken : (cleared : List (Option Msg)) (result : Option (Unit {0})) → cleared ≡ replicate size None → is_some result ≡ true
          → option_map (λ _. rows) result ≡ option_map (fold (take_in a) cleared) (items_of (item_of a vs (length cleared)) items) → length rows ≡ length cleared
          → new ≡ old ++ line_of (parts_in rows)
          → IfSome (sent_of a len n vs (block, items)) (λ line. new ≡ old ++ parts_line a len n line)
      items_taken cleared result empty some is long more =
          let size_is : length cleared ≡ size = ap length empty ∙ length-replicate {A = Option Msg} size None in
          taken (items_of (item_of a vs size) items) (items_have Fits (item_of a vs size) (item_fits size) items) result some
          (is ∙ ap (λ (rs : List (Option Msg)). option_map (fold (take_in a) rs) (items_of (item_of a vs (length cleared)) items)) empty
          ∙ ap (λ (k : ℕ). option_map (fold (take_in a) (replicate size None)) (items_of (item_of a vs k) items)) size_is)
          (more ∙ ap (λ (k : ℕ). old ++ line_of (flat_map (part_at rows) (range_with_len 0 k))) (long ∙ size_is))

  -- a line of items is taken in
  pub line_taken : (len n j : ℕ) (vs : List Val) (r : List ℕ) (link : ℕ × List ℕ) (old new : List ℕ) → link_record_of (block_count len n) j r ≡ Some link
      → is_some (sent_of a len n vs link) ≡ true → IfSome (sent_of a len n vs link) (λ line. new ≡ old ++ parts_line a len n line)
      → Takes (sent_part a len n j vs) (sent_part a len n j vs) r old new
  line_taken len n j vs r link old new is some written = there (sent_of a len n vs link) (ap (option_and_then (sent_of a len n vs)) is) some written
    where
      there : (line : Option (ℕ × List (ℕ × Msg))) → sent_record_of a len n j vs r ≡ line → is_some line ≡ true → IfSome line (λ line. new ≡ old ++ parts_line a len n line)
          → Takes (sent_part a len n j vs) (sent_part a len n j vs) r old new
      there None found some written = cc
      there (Some line) found some written = record {
        added = parts_line a len n line;
        grown = written;
        on = λ later.
            let read = read_all (sent_record_of a len n j vs) later in
            ap (λ (o : Option (ℕ × List (ℕ × Msg))). let first = read_first o read in record { out = flat_map (parts_line a len n) first.items; bad = first.bad }) found;
      }
