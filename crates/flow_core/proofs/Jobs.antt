-- What a job makes of folders that hold pairs, where its children follow rules.
use Rattle.std.proofs.Common.{◌≡◌, refl, sym, ap, ◌∙◌, subst, ℕ, ◌≤◌, List, [], ◌∷◌, ◌++◌, map, Option, Some}
use Rattle.std.specs.List.{All, flat_map, range_with_len}
use Rattle.std.specs.List.Sorted.{IsPermutation}
use Rattle.std.proofs.lemmas.List.{append-nil, map-id}
use Rattle.std.proofs.lemmas.List.Elements.{All-nil, All-cons, All-head, All-tail, All-weaker, All-map}
use Rattle.std.proofs.lemmas.List.Sorted.{All-permutation, IsPermutation-trans, IsPermutation-sym}
use Rattle.peg_text.specs.Pairs.{pair_line}
use Rattle.peg_text.specs.Records.{records_of}
use Rattle.gimv_base.specs.Parts.{Part, written, joined}
use Rattle.gimv_base.specs.Rules.{ByRecord, ByGroup, by_record, by_group, groups_of, text_part}
use Rattle.gimv_base.specs.BaseRules.{id_rule}
use Rattle.pairs.specs.Pairs.{Pair, IsPlain, pair_before, pairs_text, sorted_pairs}
use Rattle.pairs.proofs.PairLemmas.{pair_order}
use Rattle.spill.specs.Runs.{of_part}
use Rattle.job.specs.Output.{map_inputs, map_outputs, pairs_among, part_text, part_texts}
use Rattle.flow_core.specs.Holding.{Holds, record_of}
use Rattle.flow_core.specs.Parts.{part_lines, parts_with}
use Rattle.flow_core.specs.Laws.{ReducersReadParts}
use Rattle.list_laws.proofs.Alls.{all_each, all_unmap}
use Rattle.list_laws.proofs.Images.{map_agree, flat_map_agree, map-map}
use Rattle.std.proofs.lemmas.List.Folds.{flat_map-map}
use Rattle.std.proofs.lemmas.List.Concat.{flat_map_single}
use Rattle.list_laws.proofs.Orders.{permuted_flat}
use Rattle.list_laws.proofs.Permutations.{same_items}
use Rattle.flow_core.proofs.InParts.{same_part, all_of_part}
use Rattle.flow_core.proofs.Records.{record_unbroken, records_back, all_records}
use Rattle.flow_core.proofs.MapPhase.{Gives, IsMapped, made, given_is, all_inputs}
use Rattle.flow_core.specs.Following.{Follows, Giving}
use Rattle.flow_core.specs.Jobs.{Cut, plan_of, job_by}

module _ (text : List ℕ → Option (List ℕ)) (gives : Giving) (words : List (List ℕ)) (follows : Follows gives words (ByRecord text)) (cut : Cut) (some_bytes : 1 ≤ cut.split) where
  abbrev Mapped : List ℕ → Type 0
  Mapped r = IsMapped text r

  mapped_pairs : (reduce inputs : List (List ℕ)) → All Mapped (flat_map records_of inputs)
      → pairs_among (map_outputs gives (plan_of cut words reduce inputs)) ≡ flat_map (made text) (flat_map records_of inputs)
  unfolding pairs_among map_inputs
  mapped_pairs reduce inputs all = all_inputs text gives words follows cut.split some_bytes inputs all

  parts_of : (reduce inputs : List (List ℕ)) (ps : List Pair) → pairs_among (map_outputs gives (plan_of cut words reduce inputs)) ≡ ps
      → job_by gives cut words reduce inputs ≡ map (λ r. gives reduce (part_lines cut.reducers ps r)) (range_with_len 0 cut.reducers)
  unfolding part_texts part_text
  parts_of reduce inputs ps is =
      map-map (gives reduce) (λ r. pairs_text (sorted_pairs (of_part cut.reducers r (pairs_among (map_outputs gives (plan_of cut words reduce inputs)))))) (range_with_len 0 cut.reducers)
      ∙ ap (λ (qs : List Pair). map (λ r. gives reduce (part_lines cut.reducers qs r)) (range_with_len 0 cut.reducers)) is

  -- the cut.reducers read the sorted parts of what the mappers write for the pairs
  pub job_over : (reduce inputs : List (List ℕ)) {I : Type 0} (h : I → Pair) (g : I → List Pair) (is : List I) (out : List Pair) → Holds inputs (map h is)
      → All (λ i. Gives text (record_of (h i)) (g i)) is → IsPermutation (flat_map g is) out
      → job_by gives cut words reduce inputs ≡ map (λ r. gives reduce (part_lines cut.reducers out r)) (range_with_len 0 cut.reducers)
  job_over reduce inputs {I} h g is out holds each moved =
      let found : List Pair = flat_map (λ l. l) holds.lists in
      let plain : All IsPlain found = All-permutation IsPlain (map h is) found (IsPermutation-sym found (map h is) holds.all) holds.plain in
      let mapped : All (λ (p : Pair). Mapped (record_of p)) found =
      All-permutation (λ (p : Pair). Mapped (record_of p)) (map h is) found (IsPermutation-sym found (map h is) holds.all) (All-map (λ (p : Pair). Mapped (record_of p)) h is (mapped_each is each (all_unmap IsPlain h is holds.plain))) in
      let records : flat_map records_of inputs ≡ map record_of found = ap (flat_map records_of) holds.are ∙ all_records holds.lists plain in
      let all : All Mapped (flat_map records_of inputs) = subst (All Mapped) (sym records) (All-map Mapped record_of found mapped) in
      let made_of : Pair → List Pair = λ p. made text (record_of p) in
      let same : flat_map made_of (map h is) ≡ flat_map g is = flat_map-map made_of h is ∙ flat_map_agree (λ i. made_of (h i)) g is (All-weaker (λ i. Gives text (record_of (h i)) (g i)) (λ i. made_of (h i) ≡ g i) (λ i gives'. given_is text (record_of (h i)) (g i) gives') is each) in
      let is_made : pairs_among (map_outputs gives (plan_of cut words reduce inputs)) ≡ flat_map made_of found = mapped_pairs reduce inputs all ∙ ap (flat_map (made text)) records ∙ flat_map-map (made text) record_of found in
      let moved' : IsPermutation (flat_map made_of found) out = IsPermutation-trans (flat_map made_of found) (flat_map made_of (map h is)) out (permuted_flat pair_before made_of pair_order found (map h is) holds.all) (subst (λ zs. IsPermutation zs out) (sym same) moved) in
      parts_of reduce inputs (flat_map made_of found) is_made
      ∙ map_agree (λ r. gives reduce (part_lines cut.reducers (flat_map made_of found) r)) (λ r. gives reduce (part_lines cut.reducers out r)) (range_with_len 0 cut.reducers) (all_each (λ r. gives reduce (part_lines cut.reducers (flat_map made_of found) r) ≡ gives reduce (part_lines cut.reducers out r)) (λ r. ap (λ (qs : List Pair). gives reduce (pairs_text qs)) (same_part cut.reducers r (flat_map made_of found) out moved')) (range_with_len 0 cut.reducers))
    where
      mapped_each : (js : List I) → All (λ i. Gives text (record_of (h i)) (g i)) js → All (λ i. IsPlain (h i)) js → All (λ i. Mapped (record_of (h i))) js
      mapped_each [] one other = All-nil (λ i. Mapped (record_of (h i)))
      mapped_each (j ∷ js) one other =
          let here = All-head (λ i. Gives text (record_of (h i)) (g i)) j js one in
          All-cons (λ i. Mapped (record_of (h i))) j js (record {
            unbroken = record_unbroken (h j) (All-head (λ i. IsPlain (h i)) j js other);
            gives = subst (Gives text (record_of (h j))) (sym (given_is text (record_of (h j)) (g j) here)) here;
          }) (mapped_each js (All-tail (λ i. Gives text (record_of (h i)) (g i)) j js one) (All-tail (λ i. IsPlain (h i)) j js other))

-- ---- what reducers write for the sorted pairs of a part

module _ (gives : Giving) where
  abbrev id_text : List ℕ → Option (List ℕ)
  id_text r = Some (r ++ (10 ∷ []))

  -- a role by record over the sorted pairs of a part, which are those of these items
  pub reduces_by_record : (words : List (List ℕ)) (text : List ℕ → Option (List ℕ)) {I : Type 0} (h g : I → Pair) (is : List I) → Follows gives words (ByRecord text) → All (λ i. IsPlain (h i) × (text (record_of (h i)) ≡ Some (pair_line (g i).0 (g i).1))) is
      → gives words (pairs_text (map h is)) ≡ pairs_text (map g is)
  reduces_by_record words text {I} h g is rule all =
      rule (pairs_text (map h is)) (pairs_text (map g is)) (ap (by_record text) (records_back (map h is) (All-map IsPlain h is (All-weaker (λ i. IsPlain (h i) × (text (record_of (h i)) ≡ Some (pair_line (g i).0 (g i).1))) (λ i. IsPlain (h i)) (λ i x. x.0) is all))) ∙ along is all)
    where
      along : (js : List I) → All (λ i. IsPlain (h i) × (text (record_of (h i)) ≡ Some (pair_line (g i).0 (g i).1))) js → by_record text (map record_of (map h js)) ≡ written (pairs_text (map g js))
      along [] all' = refl
      along (j ∷ js) all' =
          ap (λ (found : Option (List ℕ)). joined (text_part found) 1 (by_record text (map record_of (map h js)))) (All-head (λ i. IsPlain (h i) × (text (record_of (h i)) ≡ Some (pair_line (g i).0 (g i).1))) j js all').1
          ∙ ap (λ (later : Part). joined (written (pair_line (g j).0 (g j).1)) 1 later) (along js (All-tail (λ i. IsPlain (h i) × (text (record_of (h i)) ≡ Some (pair_line (g i).0 (g i).1))) j js all'))

  pub reduces_by_id : (words : List (List ℕ)) (reducers r : ℕ) (ps : List Pair) → Follows gives words id_rule → All IsPlain ps → gives words (part_lines reducers ps r) ≡ part_lines reducers ps r
  reduces_by_id words reducers r ps rule plain =
      let qs = sorted_pairs (of_part reducers r ps) in
      let same = map-id qs in
      ap (λ (ps' : List Pair). gives words (pairs_text ps')) (sym same) ∙ reduces_by_record words id_text (λ (p : Pair). p) (λ (p : Pair). p) qs rule (All-weaker IsPlain (λ (p : Pair). IsPlain p × (id_text (record_of p) ≡ Some (pair_line p.0 p.1))) (λ p h. (h, refl)) qs (all_of_part IsPlain reducers r ps plain)) ∙ ap pairs_text same

  pub reduces_by_group : (words : List (List ℕ)) (part : List (List ℕ) → Part) (qs : List Pair) (out : List ℕ) → Follows gives words (ByGroup part) → All IsPlain qs
      → by_group part (groups_of (map record_of qs)) ≡ written out → gives words (pairs_text qs) ≡ out
  reduces_by_group words part qs out rule plain is = rule (pairs_text qs) out (ap (λ (rs : List (List ℕ)). by_group part (groups_of rs)) (records_back qs plain) ∙ is)

-- ---- jobs of which one half copies

module _ (gives : Giving) (copier : List (List ℕ)) (copies : Follows gives copier id_rule) (cut : Cut) (some_bytes : 1 ≤ cut.split) where
  abbrev copied_text : List ℕ → Option (List ℕ)
  copied_text r = Some (r ++ (10 ∷ []))

  abbrev parts : List ℕ
  parts = range_with_len 0 cut.reducers

  over_copies : (reduce inputs : List (List ℕ)) (ps : List Pair) → Holds inputs ps
      → job_by gives cut copier reduce inputs ≡ map (λ r. gives reduce (part_lines cut.reducers ps r)) (range_with_len 0 cut.reducers)
  over_copies reduce inputs ps holds =
      let same = map-id ps in
      job_over copied_text gives copier copies cut some_bytes reduce inputs (λ (p : Pair). p) (λ p. p ∷ []) ps ps (subst (Holds inputs) (sym same) holds) (All-weaker IsPlain (λ p. Gives copied_text (record_of p) (p ∷ [])) (λ p plain. record { is = ap Some (sym (append-nil (pair_line p.0 p.1))); plain = All-cons IsPlain p [] plain (All-nil IsPlain) }) ps holds.plain) (same_items (flat_map (λ (p : Pair). p ∷ []) ps) ps (flat_map_single (λ (p : Pair). p) ps ∙ same))

  -- what the reducers of a job write whose mappers copy
  pub copied : (inputs : List (List ℕ)) (reducer : List (List ℕ)) (ps : List Pair) (out : ℕ → List ℕ) → Holds inputs ps → ((r : ℕ) → gives reducer (part_lines cut.reducers ps r) ≡ out r)
      → job_by gives cut copier reducer inputs ≡ map out parts
  copied inputs reducer ps out holds each =
      over_copies reducer inputs ps holds
      ∙ map_agree (λ r. gives reducer (part_lines cut.reducers ps r)) out parts (all_each (λ r. gives reducer (part_lines cut.reducers ps r) ≡ out r) each parts)

  -- the folder of a job whose reducers copy
  pub gathered : (rule_text : List ℕ → Option (List ℕ)) (inputs : List (List ℕ)) (mapper : List (List ℕ)) {I : Type 0} (h : I → Pair) (g : I → List Pair) (is : List I) (out : List Pair)
      → Follows gives mapper (ByRecord rule_text) → Holds inputs (map h is) → All (λ i. Gives rule_text (record_of (h i)) (g i)) is → flat_map g is ≡ out → All IsPlain out
      → job_by gives cut mapper copier inputs ≡ parts_with cut.reducers out
  gathered rule_text inputs mapper h g is out rule holds each same plain =
      job_over rule_text gives mapper rule cut some_bytes copier inputs h g is out holds each (same_items (flat_map g is) out same)
      ∙ map_agree (λ r. gives copier (part_lines cut.reducers out r)) (part_lines cut.reducers out) parts (all_each (λ r. gives copier (part_lines cut.reducers out r) ≡ part_lines cut.reducers out r) (λ r. reduces_by_id gives copier cut.reducers r out copies plain) parts)

-- ---- in the words of pairs alone

pub reducers_read_parts : ReducersReadParts
reducers_read_parts gives text cut mapper reducer follows some inputs read out holds each =
    let same = map-id read in
    job_over text gives mapper follows cut some reducer inputs (λ (p : Pair). p) out read (flat_map out read) (subst (Holds inputs) (sym same) holds) (All-weaker (λ p. (text (record_of p) ≡ Some (pairs_text (out p))) × All IsPlain (out p)) (λ p. Gives text (record_of p) (out p)) (λ p h. record { is = h.0; plain = h.1 }) read each) (same_items (flat_map out read) (flat_map out read) refl)
