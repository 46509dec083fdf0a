-- One step of any form: two jobs, over folders that hold a record for each item, and further ones.
use Rattle.std.proofs.Common.{◌≡◌, sym, ap, ◌∙◌, subst, Bool, ℕ, ◌≤◌, List, ◌∷◌, ◌++◌, map, Option, Some}
use Rattle.std.specs.List.{All, flat_map, range_with_len}
use Rattle.std.specs.List.Sorted.{IsPermutation}
use Rattle.std.proofs.lemmas.List.Elements.{All-weaker, All-map}
use Rattle.std.proofs.lemmas.List.Sorted.{IsPermutation-append_comm, IsPermutation-append_right}
use Rattle.peg_text.specs.Pairs.{pair_line}
use Rattle.spill.specs.Runs.{of_part}
use Rattle.gimv_base.specs.Parts.{Part, written}
use Rattle.gimv_base.specs.Lines.{with_lf}
use Rattle.gimv_base.specs.Rules.{ByGroup}
use Rattle.gimv_base.specs.BaseRules.{id_rule, headed}
use Rattle.pairs.specs.Pairs.{Pair, IsPlain, pairs_text, sorted_pairs}
use Rattle.pairs.proofs.Sorting.{IsOrder}
use Rattle.flow_core.specs.Following.{Giving, Follows}
use Rattle.flow_core.specs.Jobs.{Cut, job_by}
use Rattle.flow_core.specs.Holding.{Holds, record_of}
use Rattle.flow_core.specs.Parts.{part_lines, parts_with}
use Rattle.list_laws.proofs.Images.{map-map}
use Rattle.std.proofs.lemmas.List.Folds.{flat_map-map}
use Rattle.flow_core.proofs.Items.{AreKeyed, part_items, sorted_of, sorted_heads}
use Rattle.flow_core.proofs.InParts.{all_of_part}
use Rattle.flow_core.proofs.Joins.{Joins, WritesWhole, first_writes, first_all, first_plain, second_rule, second_writes}
use Rattle.flow_core.proofs.Folders.{holds_parts, holds_both, holds_permuted}
use Rattle.flow_core.proofs.Jobs.{copied, reduces_by_group}

module _ (gives : Giving) (copier : List (List ℕ)) (copies : Follows gives copier id_rule) (cut : Cut) (some_bytes : 1 ≤ cut.split) (some_reducers : 1 ≤ cut.reducers) where
  abbrev parts : List ℕ
  parts = range_with_len 0 cut.reducers

  -- items that each have a record, and further records that come to them first, as those of a matrix do
  module _ {I : Type 0} (key : I → List ℕ) (same : I → I → Bool) (In : I → Type 0) (all : List I) (keyed : AreKeyed key same In all) {before : I → I → Bool} (order : IsOrder before)
      (head : I → Pair) (head_key : (i : I) → (head i).0 ≡ key i) {X : Type 0} (x : I → X) (read_head : List ℕ → Option X)
      (head_good : (i : I) → In i → IsPlain (head i) × (read_head (record_of (head i)) ≡ Some (x i)))
      {E Y : Type 0} (f : E → Pair) (at : E → I) (y : E → Y) (kind : X → List ℕ → Option Y)
      (xs : List E) (joins : All (Joins key same In head x f at y kind) xs)
      (part : X → List (List ℕ) → Part) (out : X → List Y → List ℕ) (writes : WritesWhole kind part out)
      (sends : I → List Pair) (passes : (i : I) → In i → (out (x i) (map y (sorted_of key same f at xs i)) ≡ pairs_text (sends i)) × All IsPlain (sends i))
      (first : List (List ℕ)) (first_is : Follows gives first (ByGroup (headed read_head with_lf part)))
      (matrix old : List (List ℕ)) (matrix_holds : Holds matrix (map f xs)) (old_is : old ≡ parts_with cut.reducers (map head all)) where
    heads_plain : All IsPlain (map head all)
    heads_plain = All-map IsPlain head all (All-weaker In (λ i. IsPlain (head i)) (λ i inside. (head_good i inside).0) all keyed.each)

    abbrev read1 : List Pair
    read1 = map head all ++ map f xs

    inputs_hold : Holds (matrix ++ old) read1
    inputs_hold =
        holds_permuted (matrix ++ old) (map f xs ++ map head all) read1 (holds_both matrix old (map f xs) (map head all) matrix_holds (subst (λ ts. Holds ts (map head all)) (sym old_is) (holds_parts cut.reducers (map head all) some_reducers heads_plain))) (IsPermutation-append_comm (map f xs) (map head all))

    abbrev written1 : ℕ → List Pair
    written1 r = flat_map (λ i. head i ∷ sends i) (part_items key all cut.reducers r)

    abbrev read2 : List Pair
    read2 = map head all ++ flat_map sends all

    -- what was sent
    abbrev pub sent : List (List ℕ)
    sent = job_by gives cut copier first (matrix ++ old)

    pub sent_holds : Holds sent read2
    sent_holds = record {
      lists = map written1 parts;
      are =
          copied gives copier copies cut some_bytes (matrix ++ old) first read1 (λ r. pairs_text (written1 r)) inputs_hold (λ r.
          reduces_by_group gives first (headed read_head with_lf part) (sorted_pairs (of_part cut.reducers r read1)) (pairs_text (written1 r)) first_is (all_of_part IsPlain cut.reducers r read1 inputs_hold.plain)
          (first_writes key same In all keyed head head_key x read_head head_good f at y kind xs joins part out writes sends passes cut.reducers r))
          ∙ sym (map-map pairs_text written1 parts);
      all = subst (λ zs. IsPermutation zs read2) (sym (flat_map-map (λ (l : List Pair). l) written1 parts)) (first_all key same In all keyed head head_key x read_head head_good f at y kind xs joins part out writes sends passes order cut.reducers some_reducers);
      plain = first_plain key same In all keyed head head_key x read_head head_good f at y kind xs joins part out writes sends passes;
    }

    -- what was sent comes to the items, and each has its next record then
    module _ {F Z : Type 0} (f' : F → Pair) (at' : F → I) (z : F → Z) (kind' : X → List ℕ → Option Z)
        (ys : List F) (are_sent : IsPermutation (flat_map sends all) (map f' ys)) (joins' : All (Joins key same In head x f' at' z kind') ys)
        (new : X → List Z → List ℕ) (head' : I → Pair) (head_key' : (i : I) → (head' i).0 ≡ key i)
        (makes : (i : I) → In i → new (x i) (map z (sorted_of key same f' at' ys i)) ≡ pair_line (head' i).0 (head' i).1)
        (second : List (List ℕ)) (second_is : Follows gives second (ByGroup (second_rule read_head kind' new))) where
      pub step_is : job_by gives cut copier second (job_by gives cut copier first (matrix ++ old)) ≡ parts_with cut.reducers (map head' all)
      step_is =
          let read : List Pair = map head all ++ map f' ys in
          let holds : Holds sent read = holds_permuted sent read2 read sent_holds (IsPermutation-append_right (map head all) (flat_map sends all) (map f' ys) are_sent) in
          copied gives copier copies cut some_bytes sent second read (part_lines cut.reducers (map head' all)) holds (λ r.
          reduces_by_group gives second (second_rule read_head kind' new) (sorted_pairs (of_part cut.reducers r read)) (part_lines cut.reducers (map head' all) r) second_is (all_of_part IsPlain cut.reducers r read holds.plain)
          (second_writes key same In all keyed head head_key x read_head head_good f' at' z kind' ys joins' new (λ i. pair_line (head' i).0 (head' i).1) makes cut.reducers r
          ∙ ap written (sym (flat_map-map (λ (p : Pair). pair_line p.0 p.1) head' (part_items key all cut.reducers r)) ∙ ap pairs_text (sym (sorted_heads key same In all keyed cut.reducers head' head_key' r)))))
