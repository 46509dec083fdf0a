-- What is written for the entries between two blocks.
use Rattle.std.proofs.Common.{◌≡◌, ◌≢◌, refl, ap, ◌∙◌, ℕ, ◌<◌, ◌≤◌, ◌^◌, List, [], ◌∷◌, map, decimal, Some, arith}
use Rattle.std.specs.List.{All, flat_map}
use Rattle.std.proofs.Math.Nat.{div-le_self}
use Rattle.std.proofs.lemmas.List.Elements.{All-nil, All-cons, All-head, All-tail, All-weaker, All-append}
use Rattle.peg_text.specs.Pairs.{key_of}
use Rattle.peg_text.specs.Records.{HasNoLf}
use Rattle.graph.specs.Entries.{Entry}
use Rattle.gimv_core.specs.Algebras.{Algebra}
use Rattle.gimv_core.proofs.DecimalTexts.{decimal_plain}
use Rattle.gimv_base.specs.Parts.{written}
use Rattle.gimv_block.specs.Blocks.{block_of, offset_of}
use Rattle.gimv_block.specs.BlockFlow.{BlockLine}
use Rattle.gimv_block.specs.BlockLines.{cut_pair}
use Rattle.gimv_block.specs.BlockListing.{IsSized}
use Rattle.gimv_block.specs.BlockReadBack.{CutReadsBack, IsGoodLine, numbered_entry}
use Rattle.gimv_block.specs.BlockRecords.{block_pair_of, cut_record_of}
use Rattle.gimv_block.specs.BlockRules.{blocks_part}
use Rattle.gimv_block.proofs.BackLemmas.{line_back}
use Rattle.gimv_block.proofs.BlockNodes.{count_low}
use Rattle.gimv_block.proofs.ListedLemmas.{blocks_are_listed}
use Rattle.gimv_block.proofs.SeatBackLemmas.{cuts_read_back}
use Rattle.pairs.specs.Pairs.{Pair, IsPlain, pairs_text}
use Rattle.list_laws.proofs.Alls.{all_left, all_right}
use Rattle.flow_core.specs.Holding.{record_of}
use Rattle.flow_core.proofs.Groups.{WritesRun}
use Rattle.flow_core.proofs.Records.{pairs_text-map}
use Rattle.flow_base.proofs.Stages.{plain_from}
use Rattle.flow_block.specs.BlockFolders.{line_pair}

-- an entry by its offsets in two blocks
abbrev pub offset_entry : {Weight : Type 0} → ℕ → Entry Weight → Entry Weight
offset_entry len e = record { row = offset_of len e.row; column = offset_of len e.column; weight = e.weight }

-- the blocks of an entry's column and row
abbrev pub blocks_at : {Weight : Type 0} → ℕ → Entry Weight → ℕ × ℕ
blocks_at len e = (block_of len e.column, block_of len e.row)

-- an entry, by these blocks
abbrev pub pair_of_entry : {Weight : Type 0} → (Weight → ℕ) → ℕ → Entry Weight → Pair
pair_of_entry number len e = cut_pair len (numbered_entry number e)

-- entries by offsets as a line between two blocks
abbrev pub line_of : {Weight : Type 0} → ℕ × ℕ → List (Entry Weight) → BlockLine Weight
line_of p items = record { column_block = p.0; row_block = p.1; items = items }

-- an entry that can be cut: between nodes, with a weight of at least 1
pub record IsCuttable {Weight : Type 0} (number : Weight → ℕ) (n : ℕ) (e : Entry Weight) : Type 0 where
  pub row : e.row < n
  pub column : e.column < n
  pub heavy : 1 ≤ number e.weight
  pub light : number e.weight < 2 ^ 64

-- a line of items is a plain pair
pub line_plain : {Val Msg Weight : Type 0} (a : Algebra Val Msg Weight) (number : Weight → ℕ) (len n : ℕ) → 1 ≤ len → n ≤ 2 ^ 32 → (line : BlockLine Weight) → IsGoodLine a number len n line → IsPlain (line_pair number line)
line_plain a number len n some few line good =
    let low = good.column_low in
    let most = count_low len n some in
    plain_from (line_pair number line) line.column_block refl (omega (arith, low, most, few)) (line_back a number len n line some few good).one_record

-- the lines of a group of entries between two blocks
pub record Listed {Weight : Type 0} (number : Weight → ℕ) (len : ℕ) (p : ℕ × ℕ) (es : List (Entry Weight)) : Type 0 where
  pub lists : List (List (Entry Weight))
  pub together : flat_map (λ list. list) lists ≡ map (offset_entry len) es
  pub some : All (λ list. list ≢ []) lists
  pub writes : WritesRun blocks_part (map (pair_of_entry number len) es) (pairs_text (map (λ list. line_pair number (line_of p list)) lists))

module _ {Weight : Type 0} (number : Weight → ℕ) (len n : ℕ) (few : n ≤ 2 ^ 32) where
  abbrev IsFine : Entry Weight → Type 0
  IsFine e = IsCuttable number n e

  abbrev pair : Entry Weight → Pair
  pair e = pair_of_entry number len e

  cut_back : (e : Entry Weight) → IsFine e → CutReadsBack len (numbered_entry number e)
  cut_back e fine =
      let row = fine.row in
      let column = fine.column in
      cuts_read_back len (numbered_entry number e) (omega (arith, row, few)) (omega (arith, column, few)) fine.heavy fine.light

  -- the key is two decimals and a dot
  key_no_tab : (e : Entry Weight) → IsFine e → All (λ b. b ≢ 9) (pair e).0
  key_no_tab e fine =
      let NoTab : ℕ → Type 0 = λ b. b ≢ 9 in
      let row = fine.row in
      let column = fine.column in
      let of_column = decimal_plain (block_of len e.column) (omega (arith, column, few, div-le_self e.column len)) in
      let of_row = decimal_plain (block_of len e.row) (omega (arith, row, few, div-le_self e.row len)) in
      All-append NoTab (decimal (block_of len e.column)) (46 ∷ decimal (block_of len e.row)) of_column.as_val.no_tab
      (All-cons NoTab 46 (decimal (block_of len e.row)) (λ is. omega (arith, is)) of_row.as_val.no_tab)

  pub cut_plain : (e : Entry Weight) → IsFine e → IsPlain (pair e)
  cut_plain e fine =
      let NoLf : ℕ → Type 0 = λ b. b ≢ 10 in
      let unbroken : HasNoLf (record_of (pair e)) = (cut_back e fine).entry.one_record in record {
        key_tab = key_no_tab e fine;
        key_lf = all_left NoLf (pair e).0 (9 ∷ (pair e).1) unbroken;
        value_lf = All-tail NoLf 9 (pair e).1 (all_right NoLf (pair e).0 (9 ∷ (pair e).1) unbroken);
      }

  -- ---- the lines of a group

  abbrev IsOf : ℕ × ℕ → Entry Weight → Type 0
  IsOf p e = (blocks_at len e ≡ p) × IsFine e

  all_back : (p : ℕ × ℕ) (es : List (Entry Weight)) → All (IsOf p) es
      → map cut_record_of (map record_of (map pair es)) ≡ map Some (map (numbered_entry number) (map (offset_entry len) es))
  all_back p [] all = refl
  all_back p (e ∷ es) all =
      ap (λ found. found ∷ map cut_record_of (map record_of (map pair es))) (cut_back e (All-head (IsOf p) e es all).1).entry.is
      ∙ ap (λ l. Some (numbered_entry number (offset_entry len e)) ∷ l) (all_back p es (All-tail (IsOf p) e es all))

  pub listed : (p : ℕ × ℕ) (es : List (Entry Weight)) → All (IsOf p) es → Listed number len p es
  listed p [] all = record { lists = []; together = refl; some = All-nil (λ list. list ≢ []); writes = refl }
  listed p (e ∷ es) all =
      let first = All-head (IsOf p) e es all in
      let key : block_pair_of (key_of (record_of (pair e))) ≡ Some (p.0, p.1) = (cut_back e first.1).blocks ∙ ap Some first.0 in
      let made = blocks_are_listed (numbered_entry number) p.0 p.1 (record_of (pair e)) (map record_of (map pair es)) (offset_entry len e) (map (offset_entry len) es) key (all_back p (e ∷ es) all) in record {
        lists = made.lines;
        together = made.together;
        some = All-weaker IsSized (λ list. list ≢ []) (λ list sized. sized.some) made.lines made.sizes;
        writes = made.is ∙ ap written (pairs_text-map (λ list. line_pair number (line_of p list)) made.lines);
      }
