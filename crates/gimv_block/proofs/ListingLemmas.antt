-- The items between two blocks, one by one.
use Rattle.std.proofs.Common.{◌≡◌, ℕ, List, [], ◌∷◌, ◌++◌, Option, Some, sym, ap, ◌∙◌, append_assoc}
use Rattle.peg_text.specs.Pairs.{key_of}
use Rattle.graph.specs.Entries.{Entry}
use Rattle.gimv_base.specs.Parts.{Part, after}
use Rattle.gimv_base.specs.Answers.{Takes}
use Rattle.gimv_block.specs.BlockRecords.{block_pair_of, cut_record_of}
use Rattle.gimv_block.specs.BlockLines.{item_text, link_head}
use Rattle.gimv_block.specs.BlockRules.{item_lead, next_count, items_part, item_then, begun_items, blocks_part}

pub listing_begins : (j i : ℕ) (e : Entry ℕ) (r old mid new : List ℕ) → Some (j, i) ≡ block_pair_of (key_of r) → Some e ≡ cut_record_of r → mid ≡ old ++ link_head j i → new ≡ mid ++ item_text e
    → Takes blocks_part (λ rs. items_part (link_head j i) rs 1) r old new
listing_begins j i e r old mid new pair entry first more = record {
  added = link_head j i ++ item_text e;
  grown = more ∙ ap (λ (l : List ℕ). l ++ item_text e) first ∙ append_assoc old (link_head j i) (item_text e);
  on = λ later.
      ap (λ (blocks : Option (ℕ × ℕ)). begun_items later blocks (cut_record_of r)) (sym pair)
      ∙ ap (λ (found : Option (Entry ℕ)). item_then found (link_head j i) (items_part (link_head j i) later 1)) (sym entry);
}

pub listing_goes_on : (head : List ℕ) (count next : ℕ) (e : Entry ℕ) (r old mid new : List ℕ) → Some e ≡ cut_record_of r → mid ≡ old ++ item_lead head count → new ≡ mid ++ item_text e → next ≡ next_count count
    → Takes (λ rs. items_part head rs count) (λ rs. items_part head rs next) r old new
listing_goes_on head count next e r old mid new entry lead more is = record {
  added = item_lead head count ++ item_text e;
  grown = more ∙ ap (λ (l : List ℕ). l ++ item_text e) lead ∙ append_assoc old (item_lead head count) (item_text e);
  on = λ later.
      ap (λ (found : Option (Entry ℕ)). item_then found (item_lead head count) (items_part head later (next_count count))) (sym entry)
      ∙ ap (λ (k : ℕ). after (item_lead head count ++ item_text e) 1 (items_part head later k)) (sym is);
}
