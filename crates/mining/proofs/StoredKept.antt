-- Where what a work folder has is kept, and all its lines are of their grammars, no place of it is bad.
use Rattle.std.proofs.Common.{◌≡◌, ◌≢◌, ℕ, zero, suc, ◌+◌, ◌^◌, ◌<◌, ◌≤◌, Bool, true, false, inl, inr, ⊎_elim, List, [], ◌∷◌, ◌++◌, length, get_or, Option, None, Some, refl, sym, ◌∙◌, ap, subst, arith}
use Rattle.std.specs.Prelude.{◌&&◌, ◌||◌, ◌==◌, nat_le, IfSome, is_some, nat_lt, option_map, unwrap_or, if◌then◌else◌}
use Rattle.std.specs.List.{find, list_all, range_with_len}
use Rattle.std.proofs.lemmas.Bool.{false≢true, cases_Bool, cases_lt, eqb-true}
use Rattle.std.proofs.lemmas.List.Folds.{list_all-append}
use Rattle.std.proofs.lemmas.List.Sums.{sum_by-cons}
use Rattle.peg_base.specs.Names.{Names}
use Rattle.peg_text.specs.Records.{records_of}
use Rattle.dir_disk.specs.State.{Content, Image, IsSound, State, bytes_at, bytes_of}
use Rattle.committer.specs.Paths.{part_of, success_of}
use Rattle.conf.specs.declared.commands.Command.{Command}
use Rattle.conf.specs.declared.commands.Command.TheVariants.{Hcc}
use Rattle.conf.specs.declared.reading.Conf.{Conf as Settings}
use Rattle.job.specs.Whole.{HasOutput}
use Rattle.store.specs.declared.changes.Place.{Place as Spot}
use Rattle.store.specs.Parts.{IsBad, IsBadStore, IsFirstBad, Record, records_below, records_in}
use Rattle.store.specs.Totals.{change_of, changed, counts, first_change, is_result, is_value, place_of, total_of}
use Rattle.mining.specs.declared.place.Place.{Place}
use Rattle.mining.specs.declared.place.Place.TheVariants.{Conf, Vector, Results}
use Rattle.mining.specs.Places.{folder_of, IsInTable, is_sealed}
use Rattle.mining.specs.Table.{part_count}
use Rattle.mining.specs.Flow.{Mining, changes_in, count_of, ends_at_most, ends_unchanged, flow, is_end, is_unchanged, last_of, most_of, total_in, when_good}
use Rattle.mining.specs.Kept.{AllKept}
use Rattle.mining.specs.Between.{IsSure}
use Rattle.mining.specs.Stored.{IsNotAsMade}
use Rattle.mining.proofs.Flows.{length-flow}
use Rattle.mining.proofs.CountLemmas.{numbered_good, records_are}
use Rattle.mining.proofs.DueLemmas.{count_is, total_is}

and_left : (a b : Bool) → (a && b) ≡ true → a ≡ true
and_left true b is = refl
and_left false b is = is

and_right : (a b : Bool) → (a && b) ≡ true → b ≡ true
and_right true b is = is
and_right false b is = absurd (false≢true is)

same_some : (x y : ℕ) → Some x ≡ Some y → x ≡ y
same_some x y same = ap (λ (o : Option ℕ). unwrap_or o 0) same

not_conf : (place : Place) → is_sealed place ≡ false → place ≢ Conf
not_conf place plain is = false≢true (sym plain ∙ ap is_sealed is)

-- ---- parts

part_there : (mining : Mining) (place : Place) (s : State) → IsSound s → AllKept mining s → IsInTable place → place ≢ Conf → IsSure place s → (part : ℕ) → part < part_count mining.conf place → (path : Names) → path ≡ part_of (folder_of place) part → (s path).now ≡ None → ⊥
part_there mining place s sound kept is_there other sure part inside path named none =
    let folder = folder_of place in
    let mark = success_of folder in
    let image : Image = λ q. (s q).now in
    let has : HasOutput folder (flow mining place) image = (kept image sound).contents place is_there other (sure (s mark).now (sound mark)) in
    let size : length (flow mining place) ≡ part_count mining.conf place = length-flow mining place in
    let some : (s (part_of folder part)).now ≡ Some (get_or (flow mining place) part []) = has.each part (omega (arith, inside, size)) in
    false≢true (ap (λ (content : Content). is_some content) (sym none ∙ ap (λ (p : Names). (s p).now) named ∙ some))

-- ---- records

part_good : (good : List ℕ → Bool) (s : State) (folder : Names) (n : ℕ) → list_all (λ (r : Record). good r.text) (records_below s folder n) ≡ true → (part : ℕ) → part < n → list_all good (records_of (bytes_at s (part_of folder part))) ≡ true
part_good good s folder zero all part inside = absurd (omega (arith, inside))
part_good good s folder (suc n) all part inside =
    let test : Record → Bool = λ (r : Record). good r.text in
    let both : (list_all test (records_below s folder n) && list_all test (records_in s folder n)) ≡ true = sym (list_all-append test (records_below s folder n) (records_in s folder n)) ∙ all in
    ⊎_elim (λ less. part_good good s folder n (and_left (list_all test (records_below s folder n)) (list_all test (records_in s folder n)) both) part less) (λ past. let same : n ≡ part = omega (arith, past, inside) in subst (λ (p : ℕ). list_all good (records_of (bytes_at s (part_of folder p))) ≡ true) same (sym (numbered_good good n 1 (records_of (bytes_at s (part_of folder n)))) ∙ and_right (list_all test (records_below s folder n)) (list_all test (records_in s folder n)) both)) (cases_lt part n)

not_first_bad : (good : List ℕ → Bool) (texts : List (List ℕ)) (line : ℕ) → list_all good texts ≡ true → IsFirstBad good texts line → ⊥
not_first_bad good texts line all bad =
    let whole : list_all good (bad.before ++ (bad.text ∷ bad.after)) ≡ true = subst (λ (ts : List (List ℕ)). list_all good ts ≡ true) bad.parts all in
    let rest : (good bad.text && list_all good bad.after) ≡ true = and_right (list_all good bad.before) (good bad.text && list_all good bad.after) (sym (list_all-append good bad.before (bad.text ∷ bad.after)) ∙ whole) in
    false≢true (sym bad.bad ∙ and_left (good bad.text) (list_all good bad.after) rest)

all_good : (good : List ℕ → Bool) (records : List Record) (n m : ℕ) → when_good good records n ≡ Some m → list_all (λ (r : Record). good r.text) records ≡ true
all_good good records n m is =
    ⊎_elim (λ yes. yes) (λ no. absurd (false≢true (ap (λ (o : Option ℕ). is_some o) (sym (ap (λ (b : Bool). if b then Some n else None) no) ∙ is)))) (cases_Bool (list_all (λ (r : Record). good r.text) records))

count_good : (good : List ℕ → Bool) (records : List Record) (n m : ℕ) → when_good good records n ≡ Some m → n ≡ m
count_good good records n m is =
    same_some n m (sym (ap (λ (b : Bool). if b then Some n else None) (all_good good records n m is)) ∙ is)

not_bad : (mining : Mining) (place : Place) (good : List ℕ → Bool) (s : State) → IsSound s → AllKept mining s → IsInTable place → place ≢ Conf → part_count mining.conf place ≡ mining.conf.reducers → IsSure place s → list_all (λ (r : Record). good r.text) (records_below s (folder_of place) mining.conf.reducers) ≡ true → (path : Names) (line : ℕ) → IsBadStore good s (folder_of place) mining.conf.reducers path line → ⊥
not_bad mining place good s sound kept is_there other count sure all path line bad = at (s path).now refl bad.bad
  where
    inside : bad.part < part_count mining.conf place
    inside = let below = bad.inside in omega (arith, below, count)

    at : (content : Content) → (s path).now ≡ content → IsBad good content line → ⊥
    at None none wrong = part_there mining place s sound kept is_there other sure bad.part inside path bad.named none
    at (Some bytes) is wrong =
        let same : bytes_at s (part_of (folder_of place) bad.part) ≡ bytes = ap (bytes_at s) (sym bad.named) ∙ ap bytes_of is in
        not_first_bad good (records_of bytes) line (subst (λ (bs : List ℕ). list_all good (records_of bs) ≡ true) same (part_good good s (folder_of place) mining.conf.reducers all bad.part bad.inside)) wrong

-- ---- vectors and the result

vector_counts : (mining : Mining) (k n : ℕ) (s : State) → IsSound s → AllKept mining s → k < 10 ^ 10 → IsSure (Vector k) s → count_of mining k ≡ Some n → when_good is_value (records_below s (folder_of (Vector k)) mining.conf.reducers) (changed (records_below s (folder_of (Vector k)) mining.conf.reducers)) ≡ Some n
unfolding changes_in
vector_counts mining k n s sound kept few sure is =
    ap (λ (records : List Record). when_good is_value records (changed records)) (sym (records_are s (Vector k) mining.conf.reducers)) ∙ count_is mining k s sound kept few sure ∙ is

result_counts : (mining : Mining) (n : ℕ) (s : State) → IsSound s → AllKept mining s → IsSure Results s → total_in mining.conf.command (flow mining Results) ≡ Some n → when_good is_result (records_below s (folder_of Results) mining.conf.reducers) (total_of mining.conf.command (records_below s (folder_of Results) mining.conf.reducers)) ≡ Some n
unfolding total_in
result_counts mining n s sound kept sure is =
    ap (λ (records : List Record). when_good is_result records (total_of mining.conf.command records)) (sym (records_are s Results mining.conf.reducers)) ∙ total_is mining s sound kept sure ∙ is

-- ---- the bound on iterations

no_change : (records : List Record) (spot : Spot) → changed records ≡ 0 → first_change records ≡ Some spot → ⊥
no_change [] spot none found = false≢true (ap (λ (o : Option Spot). is_some o) found)
no_change (r ∷ rs) spot none found =
    let f : Record → ℕ = λ (x : Record). unwrap_or (change_of x.text) 0 in
    let sum : changed (r ∷ rs) ≡ f r + changed rs = sum_by-cons f r rs in
    let here : f r ≡ 0 = omega (arith, sum, none) in
    let rest : changed rs ≡ 0 = omega (arith, sum, none) in
    no_change rs spot rest (sym (ap (λ (b : Bool). option_map place_of (if b then Some r else find counts rs)) (ap (nat_lt 0) here)) ∙ found)

found_here : (p : ℕ → Bool) (x : ℕ) (xs : List ℕ) → p x ≡ true → find p (x ∷ xs) ≡ Some x
found_here p x xs is = ap (λ (test : Bool). if test then Some x else find p xs) is

found_later : (p : ℕ → Bool) (x : ℕ) (xs : List ℕ) → p x ≡ false → find p (x ∷ xs) ≡ find p xs
found_later p x xs is = ap (λ (test : Bool). if test then Some x else find p xs) is

found : (p : ℕ → Bool) (a n l : ℕ) → find p (range_with_len a n) ≡ Some l → (p l ≡ true) × (l < a + n)
found p a zero l is = absurd (false≢true (ap (λ (o : Option ℕ). is_some o) is))
found p a (suc n) l is =
    ⊎_elim (λ here. let same : a ≡ l = same_some a l (sym (found_here p a (range_with_len (a + 1) n) here) ∙ is) in (subst (λ (x : ℕ). p x ≡ true) same here, omega (arith, same))) (λ fails. let rest = found p (a + 1) n l (sym (found_later p a (range_with_len (a + 1) n) fails) ∙ is) in let less = rest.1 in (rest.0, omega (arith, less))) (cases_Bool (p a))

unchanged_none : (count : Option ℕ) (n : ℕ) → count ≡ Some n → is_unchanged count ≡ true → n ≡ 0
unchanged_none None n is same = absurd (false≢true same)
unchanged_none (Some m) n is same = sym (same_some m n is) ∙ eqb-true m 0 same

or_false : (a : Bool) → (a || false) ≡ true → a ≡ true
or_false true is = is
or_false false is = is

ends_unchanged_only : (conf : Settings) (k : ℕ) (count : Option ℕ) → conf.command ≡ Hcc → is_end conf k count ≡ true → is_unchanged count ≡ true
ends_unchanged_only conf k count command end =
    or_false (is_unchanged count) (and_right (nat_le 1 k) (is_unchanged count || false) (subst (λ (c : Command). (nat_le 1 k && ((ends_unchanged c && is_unchanged count) || (ends_at_most c && k == most_of conf c))) ≡ true) command end))

bound_met : (mining : Mining) (s : State) → IsSound s → AllKept mining s → (l : ℕ) → last_of mining ≡ Some l → mining.conf.command ≡ Hcc → mining.conf.nodes < 10 ^ 10 → IsSure (Vector mining.conf.nodes) s → (n : ℕ) → count_of mining mining.conf.nodes ≡ Some n → n ≡ 0
unfolding last_of
bound_met mining s sound kept l last command few sure n is =
    let nodes = mining.conf.nodes in
    let mark = success_of (folder_of (Vector nodes)) in
    let up_to : nodes ≤ l = subst (λ (o : Option ℕ). IfSome o (λ m. nodes ≤ m)) last ((kept (λ q. (s q).now) sound).bounds (Vector nodes) few (sure (s mark).now (sound mark))) in
    let at = found (λ k. is_end mining.conf k (count_of mining k)) 1 (most_of mining.conf mining.conf.command) l last in
    let most : most_of mining.conf mining.conf.command ≡ nodes = ap (most_of mining.conf) command in
    let below = at.1 in
    let same : l ≡ nodes = omega (arith, below, most, up_to) in
    unchanged_none (count_of mining nodes) n is (subst (λ (k : ℕ). is_unchanged (count_of mining k) ≡ true) same (ends_unchanged_only mining.conf l (count_of mining l) command at.0))

-- ---- no place is bad

module _ (mining : Mining) (s : State) (sound : IsSound s) (kept : AllKept mining s) (l : ℕ) (last : last_of mining ≡ Some l) (count : ℕ → ℕ) (counted : (k : ℕ) → count_of mining k ≡ Some (count k)) (total : ℕ) (totalled : total_in mining.conf.command (flow mining Results) ≡ Some total) where
  vector_good : (k : ℕ) → k < 10 ^ 10 → IsSure (Vector k) s → list_all (λ (r : Record). is_value r.text) (records_below s (folder_of (Vector k)) mining.conf.reducers) ≡ true
  vector_good k few sure =
      let records = records_below s (folder_of (Vector k)) mining.conf.reducers in
      all_good is_value records (changed records) (count k) (vector_counts mining k (count k) s sound kept few sure (counted k))

  result_good : IsSure Results s → list_all (λ (r : Record). is_result r.text) (records_below s (folder_of Results) mining.conf.reducers) ≡ true
  result_good sure =
      let records = records_below s (folder_of Results) mining.conf.reducers in
      all_good is_result records (total_of mining.conf.command records) total (result_counts mining total s sound kept sure totalled)

  pub none_bad : (path : Names) (line : ℕ) → IsNotAsMade mining.conf s path line → ⊥
  none_bad path line (inl lacks) =
      part_there mining lacks.place s sound kept lacks.is_there lacks.not_conf lacks.whole lacks.part lacks.inside path lacks.named lacks.none
  none_bad path line (inr (inl vector)) =
      let k = vector.k in
      not_bad mining (Vector k) is_value s sound kept vector.few (not_conf (Vector k) refl) refl vector.is.whole (vector_good k vector.few vector.is.whole) path line vector.is.bad
  none_bad path line (inr (inr (inl result))) =
      not_bad mining Results is_result s sound kept tt (not_conf Results refl) refl result.whole (result_good result.whole) path line result.bad
  none_bad path line (inr (inr (inr still))) =
      let nodes = mining.conf.nodes in
      let records = records_below s (folder_of (Vector nodes)) mining.conf.reducers in
      let zero_changed : count nodes ≡ 0 = bound_met mining s sound kept l last still.command still.few still.whole (count nodes) (counted nodes) in
      no_change records (record { part = still.part; line = line }) (count_good is_value records (changed records) (count nodes) (vector_counts mining nodes (count nodes) s sound kept still.few still.whole (counted nodes)) ∙ zero_changed) still.first
