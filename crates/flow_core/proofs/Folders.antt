-- Folders that hold pairs.
use Rattle.std.proofs.Common.{◌≡◌, refl, sym, ap, ◌∙◌, subst, ℕ, ◌≤◌, List, [], ◌∷◌, ◌++◌, map}
use Rattle.std.specs.List.{All, flat_map, range_with_len}
use Rattle.std.specs.List.Sorted.{IsPermutation}
use Rattle.std.proofs.lemmas.List.{append-nil, map-append}
use Rattle.std.proofs.lemmas.List.Elements.{All-append}
use Rattle.std.proofs.lemmas.List.Sorted.{All-permutation, IsPermutation-trans, IsPermutation-sym, IsPermutation-append}
use Rattle.pairs.specs.Pairs.{Pair, IsPlain, pairs_text, sorted_pairs}
use Rattle.spill.specs.Runs.{of_part}
use Rattle.flow_core.specs.Holding.{Holds}
use Rattle.flow_core.specs.Parts.{part_lines, parts_with}
use Rattle.list_laws.proofs.Alls.{all_each}
use Rattle.list_laws.proofs.Images.{map_agree, map-map}
use Rattle.std.proofs.lemmas.List.Folds.{flat_map-map}
use Rattle.std.proofs.lemmas.Grind.{flat_map-append}
use Rattle.list_laws.proofs.Permutations.{same_items}
use Rattle.flow_core.proofs.InParts.{all_parts, same_part}

pub holds_parts : (reducers : ℕ) (ps : List Pair) → 1 ≤ reducers → All IsPlain ps → Holds (parts_with reducers ps) ps
holds_parts reducers ps some plain =
    let part : ℕ → List Pair = λ r. sorted_pairs (of_part reducers r ps) in record {
      lists = map part (range_with_len 0 reducers);
      are = sym (map-map pairs_text part (range_with_len 0 reducers));
      all = subst (λ qs. IsPermutation qs ps) (sym (flat_map-map (λ (l : List Pair). l) part (range_with_len 0 reducers))) (IsPermutation-sym ps (flat_map part (range_with_len 0 reducers)) (all_parts reducers ps some));
      plain = plain;
    }

pub holds_both : (one other : List (List ℕ)) (ps qs : List Pair) → Holds one ps → Holds other qs → Holds (one ++ other) (ps ++ qs)
holds_both one other ps qs first second = record {
  lists = first.lists ++ second.lists;
  are = ap (λ (ts : List (List ℕ)). ts ++ other) first.are ∙ ap (λ (ts : List (List ℕ)). map pairs_text first.lists ++ ts) second.are ∙ sym (map-append pairs_text first.lists second.lists);
  all = subst (λ zs. IsPermutation zs (ps ++ qs)) (sym (flat_map-append (λ (l : List Pair). l) first.lists second.lists)) (IsPermutation-append (flat_map (λ (l : List Pair). l) first.lists) ps (flat_map (λ (l : List Pair). l) second.lists) qs first.all second.all);
  plain = All-append IsPlain ps qs first.plain second.plain;
}

pub holds_one : (ps : List Pair) → All IsPlain ps → Holds (pairs_text ps ∷ []) ps
holds_one ps plain = record {
  lists = ps ∷ [];
  are = refl;
  all = same_items (ps ++ []) ps (append-nil ps);
  plain = plain;
}

pub holds_permuted : (texts : List (List ℕ)) (ps qs : List Pair) → Holds texts ps → IsPermutation ps qs → Holds texts qs
holds_permuted texts ps qs holds moved = record {
  lists = holds.lists;
  are = holds.are;
  all = IsPermutation-trans (flat_map (λ (l : List Pair). l) holds.lists) ps qs holds.all moved;
  plain = All-permutation IsPlain ps qs moved holds.plain;
}

pub parts_in_any_order : (reducers : ℕ) (one other : List Pair) → IsPermutation one other → parts_with reducers one ≡ parts_with reducers other
parts_in_any_order reducers one other moved =
    map_agree (part_lines reducers one) (part_lines reducers other) (range_with_len 0 reducers) (all_each (λ r. part_lines reducers one r ≡ part_lines reducers other r) (λ r. ap pairs_text (same_part reducers r one other moved)) (range_with_len 0 reducers))
