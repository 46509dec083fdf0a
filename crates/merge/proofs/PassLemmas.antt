-- What passes leave of the runs.
use Rattle.std.proofs.Common.{◌≡◌, ◌≢◌, ◌∙◌, ap, sym, refl, subst, ℕ, zero, suc, ◌+◌, ◌*◌, ◌^◌, ◌<◌, ◌≤◌, true, false, ◌⊎◌, inl, inr, ⊎_elim, List, [], ◌∷◌, ◌++◌, Some, None, length, take, drop, map, arith, length-append}
use Rattle.std.specs.List.{All, range_with_len}
use Rattle.std.specs.List.Sorted.{IsPermutation}
use Rattle.std.proofs.lemmas.Bool.{false≢true, cases_Bool, cases_lt}
use Rattle.std.proofs.lemmas.Grind.{flat_map-append}
use Rattle.std.proofs.lemmas.List.{append-nil, append_assoc, drop-drop, drop-append-le, length_push, map-append, take-append-drop}
use Rattle.std.proofs.lemmas.List.Elements.{All-nil, All-cons, All-head, All-tail, All-append, All-take, All-drop, All-map, All-weaker}
use Rattle.std.proofs.lemmas.List.FromFn.{map-range_with_len_more, length-map-range_with_len}
use Rattle.std.proofs.lemmas.List.Sorted.{All-permutation, IsPermutation-refl, IsPermutation-trans, IsPermutation-append_left, IsPermutation-append_comm, length_permutation}
use Rattle.peg_base.specs.Names.{Names, under, same_path}
use Rattle.peg_base.proofs.Under.{same_path-other, under-append, under-children, under-nested, under-refl, under-trans}
use Rattle.digit_names.specs.Digits.{digits}
use Rattle.digit_names.proofs.DigitLemmas.{digits_tell_numbers}
use Rattle.dir_disk.specs.State.{Content, Held, State, StandsOutside, bytes_of, bytes_at}
use Rattle.dir_disk.specs.Lent.{Loan, IsNoOutput}
use Rattle.dir_disk.specs.Moments.{Told, Through, Both, files}
use Rattle.dir_disk.proofs.Lendings.{no_output}
use Rattle.dir_disk.proofs.Through.{kept, then_goes, weaker}
use Rattle.dir_disk.specs.Keeping.{HasWritten, StandsBut}
use Rattle.dir_disk.proofs.Keeping.{other_path}
use Rattle.pairs.specs.Pairs.{Pair, IsPlain, IsInOrder, pairs_in, pairs_text, sorted_pairs}
use Rattle.pairs.proofs.PairLemmas.{sorted_is_in_order, sorted_is_permutation, permutations_sort_alike, pairs_read_back}
use Rattle.merge.specs.Runs.{ArePassesFree, IsAfterPasses, IsRun, HasPasses, StandsBesideMerge, StandsBesidePasses, StandsButMerge, after_passes, lists_at, merge_name, merge_of, pass_pairs, passes, queue_of, ten_merged}
use Rattle.merge.specs.Sources.{all_of}
use Rattle.pieces.specs.Pieces.{IsVacant}

-- ---- lists

pub length_after : (number : ℕ) (lists : List (List Pair)) → length (after_passes number lists) ≡ length lists + number
length_after zero lists = omega arith
length_after (suc number) lists =
    length_push (after_passes number lists) (ten_merged number (after_passes number lists)) ∙ ap (λ (n : ℕ). n + 1) (length_after number lists) ∙ omega arith

all_of-append : (front back : List (List Pair)) → all_of (front ++ back) ≡ all_of front ++ all_of back
all_of-append front back = flat_map-append (λ (pairs : List Pair). pairs) front back

-- ten lists at the front are merged into one at the end
one_pass : (lists : List (List Pair)) → IsPermutation (all_of lists) (all_of (drop 10 lists ++ sorted_pairs (all_of (take 10 lists)) ∷ []))
one_pass lists =
    let front : List Pair = all_of (take 10 lists) in
    let back : List Pair = all_of (drop 10 lists) in
    let whole : all_of lists ≡ front ++ back = ap all_of (sym (take-append-drop 10 lists)) ∙ all_of-append (take 10 lists) (drop 10 lists) in
    let made : all_of (drop 10 lists ++ sorted_pairs front ∷ []) ≡ back ++ sorted_pairs front = all_of-append (drop 10 lists) (sorted_pairs front ∷ []) ∙ ap (λ (ps : List Pair). back ++ ps) (append-nil (sorted_pairs front)) in
    subst (λ (ps : List Pair). IsPermutation ps (all_of (drop 10 lists ++ sorted_pairs front ∷ []))) (sym whole) (subst (λ (ps : List Pair). IsPermutation (front ++ back) ps) (sym made) (IsPermutation-trans (front ++ back) (sorted_pairs front ++ back) (back ++ sorted_pairs front) (IsPermutation-append_left back front (sorted_pairs front) (sorted_is_permutation front)) (IsPermutation-append_comm (sorted_pairs front) back)))

-- what is not merged yet after some passes has all pairs
pub passes_keep : (number : ℕ) (lists : List (List Pair)) → number ≤ passes (length lists) → IsPermutation (all_of lists) (all_of (drop (10 * number) (after_passes number lists)))
passes_keep zero lists few = IsPermutation-refl (all_of lists)
passes_keep (suc number) lists few =
    let before : List (List Pair) = after_passes number lists in
    let made : List Pair = ten_merged number before in
    let long = length_after number lists in
    let next : 10 * suc number ≡ 10 * number + 10 = omega arith in
    let inside : 10 * number + 10 ≤ length before = omega arith in
    let left : drop (10 * suc number) (before ++ made ∷ []) ≡ drop 10 (drop (10 * number) before) ++ made ∷ [] = ap (λ (n : ℕ). drop n (before ++ made ∷ [])) next ∙ drop-append-le (10 * number + 10) before (made ∷ []) inside ∙ ap (λ (ls : List (List Pair)). ls ++ made ∷ []) (sym (drop-drop 10 (10 * number) before)) in
    IsPermutation-trans (all_of lists) (all_of (drop (10 * number) before)) (all_of (drop (10 * suc number) (before ++ made ∷ []))) (passes_keep number lists (omega arith)) (subst (λ (ls : List (List Pair)). IsPermutation (all_of (drop (10 * number) before)) (all_of ls)) (sym left) (one_pass (drop (10 * number) before)))

-- the last merge has all pairs, sorted
pub last_sorted : (number : ℕ) (lists : List (List Pair)) → number ≤ passes (length lists) → sorted_pairs (all_of (drop (10 * number) (after_passes number lists))) ≡ sorted_pairs (all_of lists)
last_sorted number lists few =
    sym (permutations_sort_alike (all_of lists) (all_of (drop (10 * number) (after_passes number lists))) (passes_keep number lists few))

pub last_length : (number : ℕ) (lists : List (List Pair)) → number ≤ passes (length lists) → length (all_of (drop (10 * number) (after_passes number lists))) ≡ length (all_of lists)
last_length number lists few =
    length_permutation (all_of lists) (all_of (drop (10 * number) (after_passes number lists))) (passes_keep number lists few)

-- ---- the names of what passes write

names_tell : (one other : ℕ) → one < 2 ^ 64 → other < 2 ^ 64 → merge_name one ≡ merge_name other → one ≡ other
unfolding merge_name
names_tell one other small also same =
    let numbers : digits 20 one ≡ digits 20 other = cc in
    digits_tell_numbers 20 one other (omega arith) (omega arith) numbers

pub merges_apart : (scratch : Names) (one other : ℕ) → one < 2 ^ 64 → other < 2 ^ 64 → one ≢ other → under (merge_of scratch one) (merge_of scratch other) ≡ false
merges_apart scratch one other small also differ =
    under-children scratch (merge_name one) (merge_name other) [] [] (λ same. differ (names_tell one other small also same))

-- neither lies under the other
abbrev pub AreApart : Names → Names → Type 0
AreApart one other = (under one other ≡ false) × (under other one ≡ false)

-- a path that isn't above the folder, nor under it, is apart from its children
pub child_apart : (scratch out : Names) (name : List ℕ) → under scratch out ≡ false → under out scratch ≡ false → AreApart (scratch ++ name ∷ []) out
child_apart scratch out name outside above =
    (⊎_elim (λ (below : under (scratch ++ name ∷ []) out ≡ true). absurd (false≢true (sym outside ∙ under-trans scratch (scratch ++ name ∷ []) out (under-append scratch (name ∷ [])) below))) (λ (apart : under (scratch ++ name ∷ []) out ≡ false). apart) (cases_Bool (under (scratch ++ name ∷ []) out)), ⊎_elim (λ (below : under out (scratch ++ name ∷ []) ≡ true). ⊎_elim (λ (shorter : length out < length scratch). absurd (false≢true (sym above ∙ under-nested out scratch (scratch ++ name ∷ []) below (under-append scratch (name ∷ [])) (omega arith)))) (λ (longer : length scratch ≤ length out). absurd (false≢true (sym outside ∙ under-nested scratch out (scratch ++ name ∷ []) (under-append scratch (name ∷ [])) below longer))) (cases_lt (length out) (length scratch))) (λ (apart : under out (scratch ++ name ∷ []) ≡ false). apart) (cases_Bool (under out (scratch ++ name ∷ []))))

-- ---- files that stay vacant

vacant_since : (path : Names) (s t : State) → IsVacant path s → ((q : Names) → (under q path ≡ true) ⊎ (under path q ≡ true) → t q ≡ s q) → IsVacant path t
vacant_since path s t vacant same =
    record {
      can = record {
        named = vacant.can.named;
        is_open = λ q above other. ap (λ (h : Held). h.now) (same q (inl above)) ∙ vacant.can.is_open q above other;
        nothing_under = λ q below other. ap (λ (h : Held). h.now) (same q (inr below)) ∙ vacant.can.nothing_under q below other;
      };
      none = ap (λ (h : Held). h.now) (same path (inr (under-refl path))) ∙ vacant.none;
    }

-- another path is neither above this one nor under it
near_other : (written path q : Names) → AreApart written path → (under q path ≡ true) ⊎ (under path q ≡ true) → same_path written q ≡ false
near_other written path q apart near =
    same_path-other written q (λ same. ⊎_elim (λ (above : under q path ≡ true). false≢true (sym apart.0 ∙ ap (λ (p : Names). under p path) same ∙ above)) (λ (below : under path q ≡ true). false≢true (sym apart.1 ∙ ap (λ (p : Names). under path p) same ∙ below)) near)

-- ---- runs that stay as they are

run_same : (s t : State) (path : Names) → t path ≡ s path → IsRun s path → IsRun t path
run_same s t path same run = record {
  there = (run.there.0, ap (λ (h : Held). h.now) same ∙ run.there.1);
  plain = subst (λ (h : Held). All IsPlain (pairs_in (bytes_of h.now))) (sym same) run.plain;
  in_order = subst (λ (h : Held). IsInOrder (pairs_in (bytes_of h.now))) (sym same) run.in_order;
}

lists_same : (s t : State) (paths : List Names) → All (λ path. t path ≡ s path) paths → lists_at t paths ≡ lists_at s paths
lists_same s t [] all = refl
lists_same s t (path ∷ paths) all =
    let one : t path ≡ s path = All-head (λ q. t q ≡ s q) path paths all in
    ap (λ (h : Held). pairs_in (bytes_of h.now) ∷ lists_at t paths) one ∙ ap (λ (ls : List (List Pair)). pairs_in (bytes_at s path) ∷ ls) (lists_same s t paths (All-tail (λ q. t q ≡ s q) path paths all))

-- where a new file is written the runs stand
runs_stand : (target : Names) (s t : State) (paths : List Names) → (s target).now ≡ None → StandsBut target s t → All (IsRun s) paths → All (λ path. t path ≡ s path) paths
runs_stand target s t paths none stands all =
    All-weaker (IsRun s) (λ path. t path ≡ s path) (λ path run. stands path (other_path target path run.there.0 s none run.there.1)) paths all

still_runs : (s t : State) (paths : List Names) → All (λ path. t path ≡ s path) paths → All (IsRun s) paths → All (IsRun t) paths
still_runs s t [] same all = All-nil (IsRun t)
still_runs s t (path ∷ paths) same all =
    All-cons (IsRun t) path paths (run_same s t path (All-head (λ q. t q ≡ s q) path paths same) (All-head (IsRun s) path paths all)) (still_runs s t paths (All-tail (λ q. t q ≡ s q) path paths same) (All-tail (IsRun s) path paths all))

-- ---- a run that is written

plain_all : (lists : List (List Pair)) → All (λ list. All IsPlain list) lists → All IsPlain (all_of lists)
plain_all [] all = All-nil IsPlain
plain_all (list ∷ lists) all =
    All-append IsPlain list (all_of lists) (All-head (λ l. All IsPlain l) list lists all) (plain_all lists (All-tail (λ l. All IsPlain l) list lists all))

plain_ten : (number : ℕ) (lists : List (List Pair)) → All (λ list. All IsPlain list) lists → All IsPlain (ten_merged number lists)
plain_ten number lists all =
    let ten : List (List Pair) = take 10 (drop (10 * number) lists) in
    All-permutation IsPlain (all_of ten) (sorted_pairs (all_of ten)) (sorted_is_permutation (all_of ten)) (plain_all ten (All-take (λ l. All IsPlain l) 10 (drop (10 * number) lists) (All-drop (λ l. All IsPlain l) (10 * number) lists all)))

plain_lists : (s : State) (paths : List Names) → All (IsRun s) paths → All (λ list. All IsPlain list) (lists_at s paths)
plain_lists s paths all =
    All-map (λ list. All IsPlain list) (λ path. pairs_in (bytes_at s path)) paths (All-weaker (IsRun s) (λ path. All IsPlain (pairs_in (bytes_at s path))) (λ path run. run.plain) paths all)

pairs_written : (s : State) (path : Names) (pairs : List Pair) → (s path).now ≡ Some (pairs_text pairs) → All IsPlain pairs → pairs_in (bytes_at s path) ≡ pairs
pairs_written s path pairs is plain =
    ap (λ (c : Content). pairs_in (bytes_of c)) is ∙ pairs_read_back pairs plain

run_written : (s : State) (path : Names) (pairs : List Pair) → (s path).now ≡ Some (pairs_text pairs) → All IsPlain pairs → IsInOrder pairs → IsRun s path
run_written s path pairs is plain ordered =
    let back = pairs_written s path pairs is plain in
    record {
      there = (pairs_text pairs, is);
      plain = subst (λ (ps : List Pair). All IsPlain ps) (sym back) plain;
      in_order = subst (λ (ps : List Pair). IsInOrder ps) (sym back) ordered;
    }

-- ---- one pass more

pub queue_more : (runs : List Names) (scratch : Names) (count : ℕ) → queue_of runs scratch (count + 1) ≡ queue_of runs scratch count ++ merge_of scratch count ∷ []
queue_more runs scratch count =
    ap (λ (l : List Names). runs ++ l) (map-range_with_len_more (merge_of scratch) 0 count count (omega arith)) ∙ sym (append_assoc runs (map (merge_of scratch) (range_with_len 0 count)) (merge_of scratch count ∷ []))

pub length_queue : (runs : List Names) (scratch : Names) (count : ℕ) → length (queue_of runs scratch count) ≡ length runs + count
length_queue runs scratch count =
    length-append runs (map (merge_of scratch) (range_with_len 0 count)) ∙ ap (λ (n : ℕ). length runs + n) (length-map-range_with_len (merge_of scratch) 0 count)

pub after_none : (runs : List Names) (scratch : Names) (entry : State) → All (IsRun entry) runs → IsAfterPasses runs scratch 0 entry entry
after_none runs scratch entry all = record {
  lists = ap (lists_at entry) (append-nil runs);
  each = subst (λ (l : List Names). All (IsRun entry) l) (sym (append-nil runs)) all;
  made = λ number below. absurd (omega arith);
  others = λ path other. refl;
}

module _ (runs : List Names) (scratch : Names) (count : ℕ) (entry s t : State) (after : IsAfterPasses runs scratch count entry s) (none : (s (merge_of scratch count)).now ≡ None) (written : HasWritten (merge_of scratch count) (pairs_text (ten_merged count (lists_at s (queue_of runs scratch count)))) s t) where
  abbrev queue : List Names
  queue = queue_of runs scratch count

  abbrev made : List Pair
  made = ten_merged count (lists_at s queue)

  stands : All (λ path. t path ≡ s path) queue
  stands = runs_stand (merge_of scratch count) s t queue none written.others after.each

  plain_made : All IsPlain made
  plain_made = plain_ten count (lists_at s queue) (plain_lists s queue after.each)

  is_made : made ≡ pass_pairs (lists_at entry runs) count
  is_made = ap (ten_merged count) after.lists

  lists_more : lists_at t (queue ++ merge_of scratch count ∷ []) ≡ after_passes (suc count) (lists_at entry runs)
  lists_more =
      map-append (λ path. pairs_in (bytes_at t path)) queue (merge_of scratch count ∷ []) ∙ ap (λ (ls : List (List Pair)). ls ++ pairs_in (bytes_at t (merge_of scratch count)) ∷ []) (lists_same s t queue stands ∙ after.lists) ∙ ap (λ (ps : List Pair). after_passes count (lists_at entry runs) ++ ps ∷ []) (pairs_written t (merge_of scratch count) made written.now plain_made ∙ is_made)

  made_before : (number : ℕ) → number < count → s (merge_of scratch number) ≡ t (merge_of scratch number)
  made_before number below =
      sym (written.others (merge_of scratch number) (other_path (merge_of scratch count) (merge_of scratch number) (pairs_text (pass_pairs (lists_at entry runs) number)) s none (after.made number below)))

  pub after_more : IsAfterPasses runs scratch (count + 1) entry t
  after_more =
      let next : count + 1 ≡ suc count = omega arith in
      let more = queue_more runs scratch count in
      record {
        lists = ap (lists_at t) more ∙ lists_more ∙ ap (λ (n : ℕ). after_passes n (lists_at entry runs)) (sym next);
        each = subst (λ (l : List Names). All (IsRun t) l) (sym more) (All-append (IsRun t) queue (merge_of scratch count ∷ []) (still_runs s t queue stands after.each) (All-cons (IsRun t) (merge_of scratch count) [] (run_written t (merge_of scratch count) made written.now plain_made (sorted_is_in_order (all_of (take 10 (drop (10 * count) (lists_at s queue)))))) (All-nil (IsRun t))));
        made =
            λ number below.
            ⊎_elim (λ (earlier : number < count). ap (λ (h : Held). h.now) (sym (made_before number earlier)) ∙ after.made number earlier) (λ (last : count ≤ number). let same : number ≡ count = omega arith in ap (λ (n : ℕ). (t (merge_of scratch n)).now) same ∙ written.now ∙ ap (λ (ps : List Pair). Some (pairs_text ps)) is_made ∙ ap (λ (n : ℕ). Some (pairs_text (pass_pairs (lists_at entry runs) n))) (sym same)) (cases_lt number count);
        others =
            λ path other.
            written.others path (other count (omega arith)) ∙ after.others path (λ number below. other number (omega arith));
      }

-- ---- what stays vacant while passes are made

pub vacant_later : (runs : List Names) (scratch : Names) (count number : ℕ) (entry s : State) → IsAfterPasses runs scratch count entry s → count ≤ number → number < 2 ^ 64 → IsVacant (merge_of scratch number) entry → IsVacant (merge_of scratch number) s
vacant_later runs scratch count number entry s after late small vacant =
    vacant_since (merge_of scratch number) entry s vacant (λ q near. after.others q (λ k below. near_other (merge_of scratch k) (merge_of scratch number) q (merges_apart scratch k number (omega arith) small (λ same. omega (arith, same)), merges_apart scratch number k small (omega arith) (λ same. omega (arith, same))) near))

pub vacant_out : (runs : List Names) (scratch out : Names) (count : ℕ) (entry s : State) → IsAfterPasses runs scratch count entry s → under scratch out ≡ false → under out scratch ≡ false → IsVacant out entry → IsVacant out s
vacant_out runs scratch out count entry s after outside above vacant =
    vacant_since out entry s vacant (λ q near. after.others q (λ k below. near_other (merge_of scratch k) out q (child_apart scratch out (merge_name k) outside above) near))

-- the runs of the passes stand while the last merge is made
pub passes_stand_by : (scratch out : Names) (count : ℕ) (lists : List (List Pair)) (s t : State) → under scratch out ≡ false → under out scratch ≡ false → HasPasses scratch count lists s → StandsBut out s t → HasPasses scratch count lists t
passes_stand_by scratch out count lists s t outside above made stands number below =
    let apart = child_apart scratch out (merge_name number) outside above in
    ap (λ (h : Held). h.now) (stands (merge_of scratch number) (same_path-other out (merge_of scratch number) (λ same. false≢true (sym apart.1 ∙ ap (λ (p : Names). under out p) (sym same) ∙ under-refl out)))) ∙ made number below

-- the passes and the last merge change nothing but what they write
pub merge_alone : (runs : List Names) (scratch out : Names) (count : ℕ) (entry s t : State) → IsAfterPasses runs scratch count entry s → StandsBut out s t → StandsButMerge out scratch count entry t
merge_alone runs scratch out count entry s t after stands path other apart =
    stands path other ∙ after.others path apart

-- ---- at every moment

pub passes_stand : (scratch : Names) (total number : ℕ) (a b c : Told) → number < total → Through (Both (StandsBesidePasses scratch total (files a))) a b → Through (Both (StandsOutside (merge_of scratch number) (files b))) b c → Through (Both (StandsBesidePasses scratch total (files a))) a c
passes_stand scratch total number a b c below so_far more =
    let here : StandsBesidePasses scratch total (files a) (files b) = kept (StandsBesidePasses scratch total (files a)) a b so_far (λ q apart. refl) in
    then_goes (Both (StandsBesidePasses scratch total (files a))) a b c so_far (weaker (Both (StandsOutside (merge_of scratch number) (files b))) (Both (StandsBesidePasses scratch total (files a))) b c (λ s t both. (λ q apart. both.0 q (apart number below) ∙ here q apart, λ q apart. both.1 q (apart number below) ∙ here q apart)) more)

pub passes_alone : (out scratch : Names) (total : ℕ) (a b : Told) → Through (Both (StandsBesidePasses scratch total (files a))) a b → Through (Both (StandsBesideMerge out scratch total (files a))) a b
passes_alone out scratch total a b steps =
    weaker (Both (StandsBesidePasses scratch total (files a))) (Both (StandsBesideMerge out scratch total (files a))) a b (λ s t both. (λ q outside apart. both.0 q apart, λ q outside apart. both.1 q apart)) steps

pub merge_stands : (out scratch : Names) (total : ℕ) (a b c : Told) → Through (Both (StandsBesidePasses scratch total (files a))) a b → Through (Both (StandsOutside out (files b))) b c → Through (Both (StandsBesideMerge out scratch total (files a))) a c
merge_stands out scratch total a b c so_far more =
    let here : StandsBesidePasses scratch total (files a) (files b) = kept (StandsBesidePasses scratch total (files a)) a b so_far (λ q apart. refl) in
    then_goes (Both (StandsBesideMerge out scratch total (files a))) a b c (passes_alone out scratch total a b so_far) (weaker (Both (StandsOutside out (files b))) (Both (StandsBesideMerge out scratch total (files a))) b c (λ s t both. (λ q outside apart. both.0 q outside ∙ here q apart, λ q outside apart. both.1 q outside ∙ here q apart)) more)

-- ---- what is lent

range_all : (P : ℕ → Type 0) (from count : ℕ) → ((k : ℕ) → k < from + count → P k) → All P (range_with_len from count)
range_all P from zero each = All-nil P
range_all P from (suc count) each =
    All-cons P from (range_with_len (from + 1) count) (each from (omega arith)) (range_all P (from + 1) count (λ k below. each k (omega arith)))

pub queue_lent : (lent : List Loan) (runs : List Names) (scratch : Names) (count total : ℕ) → count ≤ total → All (IsNoOutput lent) runs → ArePassesFree scratch total lent → All (IsNoOutput lent) (queue_of runs scratch count)
queue_lent lent runs scratch count total few all free =
    All-append (IsNoOutput lent) runs (map (merge_of scratch) (range_with_len 0 count)) all (All-map (IsNoOutput lent) (merge_of scratch) (range_with_len 0 count) (range_all (λ k. IsNoOutput lent (merge_of scratch k)) 0 count (λ k below. no_output lent (merge_of scratch k) (free k (omega arith)))))
