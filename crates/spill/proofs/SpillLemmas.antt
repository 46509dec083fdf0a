-- The pairs that a spill holds as text, and the runs of a flush by their parts.
use Rattle.std.proofs.Common.{◌≡◌, ◌∙◌, ap, sym, refl, subst, ℕ, ◌+◌, ◌*◌, ◌<◌, ◌≤◌, List, [], ◌∷◌, ◌++◌, Some, length, map, get_or, set, take, arith, length-append}
use Rattle.std.specs.Global.{Vec}
use Rattle.std.specs.List.{All, sum_by}
use Rattle.std.proofs.lemmas.List.{length-map, get_or-map, append-nil, take_at}
use Rattle.std.proofs.lemmas.List.Elements.{All-nil, All-push}
use Rattle.std.proofs.lemmas.List.Sorted.{length_permutation}
use Rattle.std.proofs.lemmas.List.Sums.{sum_by-cons, sum_by_push}
use Rattle.partition.specs.Hash.{part_among}
use Rattle.peg_text.specs.Pairs.{pair_line}
use Rattle.peg_base.specs.Names.{Names}
use Rattle.dir_disk.specs.State.{State}
use Rattle.dir_disk.specs.Moments.{Told, Through, Both, files}
use Rattle.dir_disk.specs.Lent.{Loan, IsFree}
use Rattle.dir_disk.proofs.Through.{weaker}
use Rattle.pairs.specs.Pairs.{Pair, IsPlain, pairs_text, pairs_in, sorted_pairs}
use Rattle.pairs.specs.Prefixes.{AreBytes}
use Rattle.pairs.proofs.PairLemmas.{pairs_read_back, texts_follow, sorted_is_permutation}
use Rattle.pieces.specs.Pieces.{IsVacant}
use Rattle.spill.specs.Runs.{of_part, run_of, new_runs, HasPairs, HasRuns, StandsBesideRuns, StandsButRuns}
use Rattle.spill.specs.Chunks.{parts_of, sorted_parts_of, HasItems, list_at, StandsBesideLists, StandsButLists, HasLists, AreListsFree, AreListsVacant, AreNoted}
use Rattle.spill.specs.declared.entry.Entry.{Entry}
use Rattle.spill.specs.Lines.{pushed_entry, entry_pairs, sorted_lists}
use Rattle.spill.specs.Spills.{IsWell}
use Rattle.spill.proofs.ChunkLemmas.{entries_kept, entries_pushed, length-parts_of, lists_kept, lists_pushed, none_are_entries, none_dealt, none_listed, part_at}
use Rattle.spill.proofs.WritingLemmas.{has_place}

-- ---- the text of the pairs held

text_pushed : (text : List ℕ) (p : Pair) → pairs_text (pairs_in text) ≡ text → pairs_text (pairs_in text ++ p ∷ []) ≡ text ++ pair_line p.0 p.1
text_pushed text p lines =
    texts_follow (pairs_in text) (p ∷ []) ∙ ap (λ (t : List ℕ). t ++ pairs_text (p ∷ [])) lines ∙ ap (λ (t : List ℕ). text ++ t) (append-nil (pair_line p.0 p.1))

pub pairs_pushed : (text : List ℕ) (p : Pair) → pairs_text (pairs_in text) ≡ text → All IsPlain (pairs_in text) → IsPlain p → pairs_in (text ++ pair_line p.0 p.1) ≡ pairs_in text ++ p ∷ []
pairs_pushed text p lines plain fits =
    ap pairs_in (sym (text_pushed text p lines)) ∙ pairs_read_back (pairs_in text ++ p ∷ []) (All-push IsPlain (pairs_in text) p plain fits)

-- there are as many lists of entries as reducers
pub parts_counted : (text : List ℕ) (parts : List (Vec Entry)) (bytes reducers runs : ℕ) (folder : Names) → IsWell text parts bytes reducers runs folder → length parts ≡ reducers
parts_counted text parts bytes reducers runs folder well =
    sym (length-map parts (λ (v : Vec Entry). entry_pairs text v.items)) ∙ ap length well.dealt ∙ length-parts_of reducers (pairs_in text)

pub well_pushed : (text : List ℕ) (parts : List (Vec Entry)) (entries grown : Vec Entry) (bytes reducers runs part : ℕ) (folder : Names) (p : Pair) → IsWell text parts bytes reducers runs folder → IsPlain p → AreBytes p.0 → AreBytes p.1 → part ≡ part_among p.0 reducers → part < reducers → entries ≡ get_or parts part entries → grown.items ≡ entries.items ++ pushed_entry text p ∷ [] → IsWell (text ++ pair_line p.0 p.1) (set parts part grown) (bytes + (length p.0 + length p.1)) reducers runs folder
well_pushed text parts entries grown bytes reducers runs part folder p well fits keys values at_part below is_entries is_grown =
    let pushed : pairs_in (text ++ pair_line p.0 p.1) ≡ pairs_in text ++ p ∷ [] = pairs_pushed text p well.lines well.plain fits in
    let held : Pair → ℕ = λ q. length q.0 + length q.1 in
    let many = parts_counted text parts bytes reducers runs folder well in
    record {
      lines = ap pairs_text pushed ∙ text_pushed text p well.lines;
      plain = subst (λ (ps : List Pair). All IsPlain ps) (sym pushed) (All-push IsPlain (pairs_in text) p well.plain fits);
      entries = entries_pushed text parts entries grown part p fits keys values well.entries (omega (arith, many, below)) is_entries is_grown;
      dealt = lists_pushed text parts entries grown reducers part (pairs_in text) p fits well.entries well.dealt at_part below is_entries is_grown ∙ ap (parts_of reducers) (sym pushed);
      counted = ap (λ (n : ℕ). n + held p) well.counted ∙ sym (sum_by_push held (pairs_in text) p) ∙ ap (sum_by held) (sym pushed);
      some = well.some;
      few = well.few;
      each_part = well.each_part;
      short = well.short;
    }

-- a push that was refused
pub well_kept : (text : List ℕ) (parts : List (Vec Entry)) (entries kept : Vec Entry) (bytes reducers runs part : ℕ) (folder : Names) → IsWell text parts bytes reducers runs folder → part < reducers → entries ≡ get_or parts part entries → kept.items ≡ entries.items → IsWell text (set parts part kept) bytes reducers runs folder
well_kept text parts entries kept bytes reducers runs part folder well below is_entries is_kept =
    let many = parts_counted text parts bytes reducers runs folder well in
    let inside : part < length parts = omega (arith, many, below) in
    record {
      lines = well.lines;
      plain = well.plain;
      entries = entries_kept text parts entries kept part inside is_entries is_kept well.entries;
      dealt = lists_kept text parts entries kept part is_entries is_kept ∙ well.dealt;
      counted = well.counted;
      some = well.some;
      few = well.few;
      each_part = well.each_part;
      short = well.short;
    }

length-pair_line : (key value : List ℕ) → length (pair_line key value) ≡ length key + length value + 2
length-pair_line key value =
    let one = length-append key (9 ∷ value) in
    let two = length-append (key ++ (9 ∷ value)) (10 ∷ []) in
    omega arith

length-pairs_text : (ps : List Pair) → length (pairs_text ps) ≡ sum_by (λ (p : Pair). length p.0 + length p.1) ps + 2 * length ps
length-pairs_text [] = refl
length-pairs_text (p ∷ ps) =
    let line = length-pair_line p.0 p.1 in
    let whole = length-append (pair_line p.0 p.1) (pairs_text ps) in
    let rest = length-pairs_text ps in
    let sum = sum_by-cons (λ (q : Pair). length q.0 + length q.1) p ps in
    omega arith

-- the bytes of keys and values are among those of the text
pub bytes_inside : (text : List ℕ) (parts : List (Vec Entry)) (bytes reducers runs : ℕ) (folder : Names) → IsWell text parts bytes reducers runs folder → bytes ≤ length text
bytes_inside text parts bytes reducers runs folder well =
    let long = ap length well.lines in
    let sum = length-pairs_text (pairs_in text) in
    let is = well.counted in
    omega (arith, long, sum, is)

-- a text without bytes has no pairs, and only such a one
pub no_pairs : (text : List ℕ) → pairs_text (pairs_in text) ≡ text → pairs_in text ≡ [] → text ≡ []
no_pairs text lines none = sym lines ∙ ap pairs_text none

-- the parts of the entries, each sorted, are those of the pairs held
pub lists_held : (text shown : List ℕ) (parts lent : List (Vec Entry)) (bytes reducers runs : ℕ) (folder : Names) → IsWell text parts bytes reducers runs folder → shown ≡ text → lent ≡ parts → sorted_lists shown lent ≡ sorted_parts_of reducers (pairs_in text)
lists_held text shown parts lent bytes reducers runs folder well is_shown is_lent =
    ap (λ (t : List ℕ). sorted_lists t lent) is_shown ∙ ap (sorted_lists text) is_lent ∙ ap (map sorted_pairs) well.dealt

-- nothing is held
pub well_empty : (parts : List (Vec Entry)) (reducers runs : ℕ) (folder : Names) → All (λ (v : Vec Entry). v.items ≡ []) parts → length parts ≡ reducers → 1 ≤ reducers → reducers ≤ 100000 → runs ≡ reducers → length folder < 8 → IsWell [] parts 0 reducers runs folder
well_empty parts reducers runs folder none many some few each_part short =
    record {
      lines = refl;
      plain = All-nil IsPlain;
      entries = none_are_entries [] parts none;
      dealt = none_listed [] parts reducers none many ∙ none_dealt reducers;
      counted = refl;
      some = some;
      few = few;
      each_part = each_part;
      short = short;
    }

-- the same, where the parts were lent as a slice
pub well_emptied : (text : List ℕ) (parts behind : List (Vec Entry)) (many reducers runs : ℕ) (folder : Names) → text ≡ [] → All (λ (v : Vec Entry). v.items ≡ []) parts → length parts ≡ many → many ≡ reducers → 1 ≤ reducers → reducers ≤ 100000 → runs ≡ reducers → length folder < 8 → IsWell text (take many (parts ++ behind)) 0 reducers runs folder
well_emptied text parts behind many reducers runs folder is none long same some few each_part short =
    let well = well_empty parts reducers runs folder none (long ∙ same) some few each_part short in
    subst (λ (t : List ℕ). IsWell t (take many (parts ++ behind)) 0 reducers runs folder) (sym is) (subst (λ (ps : List (Vec Entry)). IsWell [] ps 0 reducers runs folder) (sym (take_at parts behind many long)) well)

-- ---- the lists of the parts

none_from_length : (ps : List Pair) → length ps ≡ 0 → ps ≡ []
none_from_length [] none = refl
none_from_length (p ∷ ps) none = absurd (omega arith)

sorted_none : (ps : List Pair) → sorted_pairs ps ≡ [] → ps ≡ []
sorted_none ps none =
    none_from_length ps (sym (length_permutation ps (sorted_pairs ps) (sorted_is_permutation ps)) ∙ ap length none)

pub length-sorted_parts_of : (reducers : ℕ) (pairs : List Pair) → length (sorted_parts_of reducers pairs) ≡ reducers
length-sorted_parts_of reducers pairs =
    length-map (parts_of reducers pairs) sorted_pairs ∙ length-parts_of reducers pairs

sorted_at : (reducers part : ℕ) (pairs : List Pair) → part < reducers → list_at (sorted_parts_of reducers pairs) part ≡ sorted_pairs (of_part reducers part pairs)
sorted_at reducers part pairs below =
    get_or-map sorted_pairs (parts_of reducers pairs) part [] [] (omega (arith, length-parts_of reducers pairs)) ∙ ap sorted_pairs (part_at reducers part pairs below)

list_below : (reducers part : ℕ) (pairs : List Pair) → HasItems (list_at (sorted_parts_of reducers pairs) part) → part < reducers
list_below reducers part pairs some =
    let place = has_place (sorted_parts_of reducers pairs) part some in
    omega (arith, length-sorted_parts_of reducers pairs)

list_has_pairs : (reducers part : ℕ) (pairs : List Pair) → HasItems (list_at (sorted_parts_of reducers pairs) part) → HasPairs reducers part pairs
list_has_pairs reducers part pairs some none =
    some (sorted_at reducers part pairs (list_below reducers part pairs some) ∙ ap sorted_pairs none)

part_has_items : (reducers part : ℕ) (pairs : List Pair) → part < reducers → HasPairs reducers part pairs → HasItems (list_at (sorted_parts_of reducers pairs) part)
part_has_items reducers part pairs below some none =
    some (sorted_none (of_part reducers part pairs) (sym (sorted_at reducers part pairs below) ∙ none))

pub lists_free : (folder : Names) (flush reducers : ℕ) (pairs : List Pair) (lent : List Loan) → ((part : ℕ) → part < reducers → HasPairs reducers part pairs → IsFree lent (run_of folder part flush)) → AreListsFree folder flush (sorted_parts_of reducers pairs) lent
lists_free folder flush reducers pairs lent free part some =
    free part (list_below reducers part pairs some) (list_has_pairs reducers part pairs some)

pub lists_vacant : (folder : Names) (flush reducers : ℕ) (pairs : List Pair) (state : State) → ((part : ℕ) → part < reducers → HasPairs reducers part pairs → IsVacant (run_of folder part flush) state) → AreListsVacant folder flush (sorted_parts_of reducers pairs) state
lists_vacant folder flush reducers pairs state vacant part some =
    vacant part (list_below reducers part pairs some) (list_has_pairs reducers part pairs some)

stands_beside_runs : (folder : Names) (flush reducers : ℕ) (pairs : List Pair) (entry s : State) → StandsBesideLists folder flush (sorted_parts_of reducers pairs) entry s → StandsBesideRuns folder flush reducers pairs entry s
stands_beside_runs folder flush reducers pairs entry s stands q apart =
    stands q (λ part some. apart part (list_below reducers part pairs some) (list_has_pairs reducers part pairs some))

pub runs_alone : (folder : Names) (flush reducers : ℕ) (pairs : List Pair) (entry s : State) → StandsButLists folder flush (sorted_parts_of reducers pairs) entry s → StandsButRuns folder flush reducers pairs entry s
runs_alone folder flush reducers pairs entry s stands q apart =
    stands q (λ part some. apart part (list_below reducers part pairs some) (list_has_pairs reducers part pairs some))

pub steps_beside_runs : (folder : Names) (flush reducers : ℕ) (pairs : List Pair) (old new : Told) → Through (Both (StandsBesideLists folder flush (sorted_parts_of reducers pairs) (files old))) old new → Through (Both (StandsBesideRuns folder flush reducers pairs (files old))) old new
steps_beside_runs folder flush reducers pairs old new =
    weaker (Both (StandsBesideLists folder flush (sorted_parts_of reducers pairs) (files old))) (Both (StandsBesideRuns folder flush reducers pairs (files old))) old new (λ s t stands. (stands_beside_runs folder flush reducers pairs (files old) s stands.0, stands_beside_runs folder flush reducers pairs (files old) t stands.1))

pub runs_written : (folder : Names) (flush reducers : ℕ) (pairs : List Pair) (state : State) → HasLists folder flush (sorted_parts_of reducers pairs) state → HasRuns folder flush reducers pairs state
runs_written folder flush reducers pairs state has part below some =
    has part (part_has_items reducers part pairs below some) ∙ ap (λ (ps : List Pair). Some (pairs_text ps)) (sorted_at reducers part pairs below)

new_runs_same : (path : Names) (ps qs : List Pair) → length ps ≡ length qs → new_runs path ps ≡ new_runs path qs
new_runs_same path [] [] long = refl
new_runs_same path [] (q ∷ qs) long = absurd (omega arith)
new_runs_same path (p ∷ ps) [] long = absurd (omega arith)
new_runs_same path (p ∷ ps) (q ∷ qs) long = refl

pub runs_noted : (folder : Names) (flush reducers : ℕ) (pairs : List Pair) (before after : List (List Names)) → AreNoted folder flush (sorted_parts_of reducers pairs) before after → (part : ℕ) → part < reducers → get_or after part [] ≡ get_or before part [] ++ new_runs (run_of folder part flush) (of_part reducers part pairs)
runs_noted folder flush reducers pairs before after noted part below =
    noted part ∙ ap (λ (ps : List Pair). get_or before part [] ++ new_runs (run_of folder part flush) ps) (sorted_at reducers part pairs below) ∙ ap (λ (ps : List Names). get_or before part [] ++ ps) (new_runs_same (run_of folder part flush) (sorted_pairs (of_part reducers part pairs)) (of_part reducers part pairs) (length_permutation (of_part reducers part pairs) (sorted_pairs (of_part reducers part pairs)) (sorted_is_permutation (of_part reducers part pairs))))
