-- What mappers write that go record by record.
use Rattle.std.proofs.Common.{◌≡◌, refl, sym, ap, ◌∙◌, subst, ℕ, ◌≤◌, List, [], ◌∷◌, ◌++◌, map, length, Option, Some, None}
use Rattle.std.specs.List.{All, flat_map}
use Rattle.std.proofs.lemmas.List.{map-append}
use Rattle.std.proofs.lemmas.List.Elements.{All-head, All-tail, All-weaker}
use Rattle.peg_text.specs.Records.{records_of, HasNoLf}
use Rattle.peg_text.proofs.RecordLemmas.{lines_read_back}
use Rattle.splits.specs.declared.table.Split.{Split}
use Rattle.splits.specs.Table.{splits_of}
use Rattle.splits.specs.Lines.{lines_text, split_lines}
use Rattle.splits.proofs.LineLemmas.{splits_cover_each_line_once}
use Rattle.gimv_base.specs.Parts.{Part, written, joined}
use Rattle.gimv_base.specs.Rules.{ByRecord, by_record, text_part}
use Rattle.pairs.specs.Pairs.{Pair, IsPlain, pairs_in, pairs_text}
use Rattle.pairs.proofs.PairLemmas.{pairs_read_back, texts_follow}
use Rattle.job.specs.Output.{texts_of, split_texts}
use Rattle.list_laws.proofs.Alls.{all_left, all_right, all_flat_map}
use Rattle.std.proofs.lemmas.Grind.{flat_map-append}
use Rattle.flow_core.specs.Following.{Follows}

-- the pairs of what is written for a record
abbrev pub pairs_given : Option (List ℕ) → List Pair
pairs_given None = []
pairs_given (Some text) = pairs_in text

-- a record for which these pairs are written
pub record Gives (text : List ℕ → Option (List ℕ)) (r : List ℕ) (qs : List Pair) : Type 0 where
  pub is : text r ≡ Some (pairs_text qs)
  pub plain : All IsPlain qs

pub given_is : (text : List ℕ → Option (List ℕ)) (r : List ℕ) (qs : List Pair) → Gives text r qs → pairs_given (text r) ≡ qs
given_is text r qs gives = ap pairs_given gives.is ∙ pairs_read_back qs gives.plain

module _ (text : List ℕ → Option (List ℕ)) where
  abbrev pub made : List ℕ → List Pair
  made r = pairs_given (text r)

  -- a line for which the mapper writes pairs
  pub record IsMapped (r : List ℕ) : Type 0 where
    pub unbroken : HasNoLf r
    pub gives : Gives text r (made r)

  by_record-pairs : (rs : List (List ℕ)) → All IsMapped rs → by_record text rs ≡ written (pairs_text (flat_map made rs))
  by_record-pairs [] all = refl
  by_record-pairs (r ∷ rs) all =
      let here = All-head IsMapped r rs all in
      ap (λ (found : Option (List ℕ)). joined (text_part found) 1 (by_record text rs)) here.gives.is
      ∙ ap (λ (later : Part). joined (written (pairs_text (made r))) 1 later) (by_record-pairs rs (All-tail IsMapped r rs all))
      ∙ ap written (sym (texts_follow (made r) (flat_map made rs)))

  module _ (gives : List (List ℕ) → List ℕ → List ℕ) (words : List (List ℕ)) (follows : Follows gives words (ByRecord text)) where
    one_split : (lines : List (List ℕ)) → All IsMapped lines → pairs_in (gives words (lines_text lines)) ≡ flat_map made lines
    one_split lines all =
        ap pairs_in (follows (lines_text lines) (pairs_text (flat_map made lines)) (ap (by_record text) (lines_read_back lines (All-weaker IsMapped HasNoLf (λ r h. h.unbroken) lines all)) ∙ by_record-pairs lines all))
        ∙ pairs_read_back (flat_map made lines) (all_flat_map IsPlain made lines (All-weaker IsMapped (λ r. All IsPlain (made r)) (λ r h. h.gives.plain) lines all))

    all_splits : (bytes : List ℕ) (splits : List Split) → All IsMapped (flat_map (λ s. split_lines s bytes) splits)
        → flat_map pairs_in (map (gives words) (texts_of bytes splits)) ≡ flat_map made (flat_map (λ s. split_lines s bytes) splits)
    all_splits bytes [] all = refl
    all_splits bytes (s ∷ splits) all =
        let later = flat_map (λ s. split_lines s bytes) splits in
        ap (λ (ps : List Pair). ps ++ flat_map pairs_in (map (gives words) (texts_of bytes splits))) (one_split (split_lines s bytes) (all_left IsMapped (split_lines s bytes) later all))
        ∙ ap (λ (ps : List Pair). flat_map made (split_lines s bytes) ++ ps) (all_splits bytes splits (all_right IsMapped (split_lines s bytes) later all))
        ∙ sym (flat_map-append made (split_lines s bytes) later)

    one_input : (split : ℕ) → 1 ≤ split → (bytes : List ℕ) → All IsMapped (records_of bytes) → flat_map pairs_in (map (gives words) (split_texts split bytes)) ≡ flat_map made (records_of bytes)
    unfolding split_texts
    one_input split some bytes all =
        let cover = splits_cover_each_line_once bytes split some in
        all_splits bytes (splits_of (length bytes) split) (subst (All IsMapped) (sym cover) all) ∙ ap (flat_map made) cover

    -- the pairs of all that the mappers write are those of each line of the inputs
    pub all_inputs : (split : ℕ) → 1 ≤ split → (inputs : List (List ℕ)) → All IsMapped (flat_map records_of inputs)
        → flat_map pairs_in (map (gives words) (flat_map (split_texts split) inputs)) ≡ flat_map made (flat_map records_of inputs)
    all_inputs split some [] all = refl
    all_inputs split some (bytes ∷ inputs) all =
        let later = flat_map records_of inputs in
        let rest = flat_map (split_texts split) inputs in
        ap (flat_map pairs_in) (map-append (gives words) (split_texts split bytes) rest)
        ∙ flat_map-append pairs_in (map (gives words) (split_texts split bytes)) (map (gives words) rest)
        ∙ ap (λ (ps : List Pair). ps ++ flat_map pairs_in (map (gives words) rest)) (one_input split some bytes (all_left IsMapped (records_of bytes) later all))
        ∙ ap (λ (ps : List Pair). flat_map made (records_of bytes) ++ ps) (all_inputs split some inputs (all_right IsMapped (records_of bytes) later all))
        ∙ sym (flat_map-append made (records_of bytes) later)
