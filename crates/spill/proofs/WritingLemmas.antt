-- What appends leave of the files of runs.
use Rattle.std.proofs.Common.{◌≡◌, ◌≢◌, ◌∙◌, ap, sym, refl, subst, ℕ, ◌+◌, ◌<◌, ◌≤◌, true, ◌⊎◌, inl, inr, ⊎_elim, List, [], ◌∷◌, ◌++◌, Some, Result, length, get_or, set, take, arith}
use Rattle.std.proofs.lemmas.Bool.{cases_lt}
use Rattle.std.proofs.lemmas.Grind.{flat_map-append}
use Rattle.std.proofs.lemmas.List.{append_assoc, append-nil, take_more, get_or_past, get_or-set_same, get_or-set_other}
use Rattle.peg_text.specs.Pairs.{pair_line}
use Rattle.peg_base.specs.Names.{Names, under}
use Rattle.peg_base.proofs.Under.{under-refl}
use Rattle.dir_disk.specs.declared.dir.DirFault.{DirFault}
use Rattle.dir_disk.specs.State.{Held, State, IsSound, StandsOutside, bytes_of}
use Rattle.dir_disk.specs.Calls.{Append, Does}
use Rattle.dir_disk.specs.Moments.{Told, Through, Both, files}
use Rattle.dir_disk.proofs.Steps.{stands_call}
use Rattle.dir_disk.proofs.Through.{goes_on, then_goes, kept, weaker}
use Rattle.pairs.specs.Pairs.{Pair, pairs_text}
use Rattle.pieces.specs.Pieces.{IsVacant}
use Rattle.spill.specs.Runs.{run_of, run_name, new_runs}
use Rattle.spill.proofs.RunNames.{run_names_differ, children_apart, child_not_above}
use Rattle.pieces.specs.Pieces.{gathered}
use Rattle.spill.specs.Chunks.{HasItems, list_at, StandsBesideRun, StandsBesideLists, StandsButRun, StandsButLists, HasLists, AreListsVacant, AreNoted}

-- ---- one file

pub stands_start : (path : Names) (s : State) → StandsOutside path s s
stands_start path s q apart = refl

-- an append more to the file
pub append_more : {T : Type 0} (path : Names) (bytes : List ℕ) (old mid new : Told) (result : Result T DirFault) → Through (Both (StandsOutside path (files old))) old mid → Does (Append path bytes) mid new result → IsSound (files mid) → Through (Both (StandsOutside path (files old))) old new
append_more path bytes old mid new result so_far does sound =
    let here : StandsOutside path (files old) (files mid) = kept (StandsOutside path (files old)) old mid so_far (stands_start path (files old)) in
    goes_on (Both (StandsOutside path (files old))) old mid new (Append path bytes) result so_far does sound (λ t steps. (here, stands_call path (files old) (files mid) t (Append path bytes) here steps (λ q apart. apart)))

-- more steps of the same kind
pub stands_more : (path : Names) (old mid new : Told) → Through (Both (StandsOutside path (files old))) old mid → Through (Both (StandsOutside path (files mid))) mid new → Through (Both (StandsOutside path (files old))) old new
stands_more path old mid new so_far more =
    let here : StandsOutside path (files old) (files mid) = kept (StandsOutside path (files old)) old mid so_far (stands_start path (files old)) in
    then_goes (Both (StandsOutside path (files old))) old mid new so_far (weaker (Both (StandsOutside path (files mid))) (Both (StandsOutside path (files old))) mid new (λ s t stands. (λ q apart. stands.0 q apart ∙ here q apart, λ q apart. stands.1 q apart ∙ here q apart)) more)

-- ---- the paths of runs

-- the paths of the runs of the first lists were added to their parts
pub record NotedBelow (folder : Names) (flush : ℕ) (lists : List (List Pair)) (count : ℕ) (before after : List (List Names)) : Type 0 where
  pub done : (part : ℕ) → part < count → get_or after part [] ≡ get_or before part [] ++ new_runs (run_of folder part flush) (list_at lists part)
  pub others : (part : ℕ) → count ≤ part → get_or after part [] ≡ get_or before part []

pub noted_none : (folder : Names) (flush : ℕ) (lists : List (List Pair)) (before : List (List Names)) → NotedBelow folder flush lists 0 before before
noted_none folder flush lists before = record { done = λ part below. absurd (omega arith); others = λ part from. refl }

pub noted_more : (folder : Names) (flush : ℕ) (lists : List (List Pair)) (count : ℕ) (before after : List (List Names)) (paths more : List Names) → NotedBelow folder flush lists count before after → count < length after → paths ≡ get_or after count [] → more ≡ paths ++ new_runs (run_of folder count flush) (list_at lists count) → NotedBelow folder flush lists (count + 1) before (set after count more)
noted_more folder flush lists count before after paths more noted inside is_paths is_more =
    record {
      done = λ part below. ⊎_elim (λ (earlier : part < count). get_or-set_other after count part more [] (λ same. omega (arith, same)) ∙ noted.done part earlier) (λ (last : count ≤ part). let same : part ≡ count = omega arith in ap (λ (n : ℕ). get_or (set after count more) n []) same ∙ get_or-set_same after count more [] inside ∙ is_more ∙ ap (λ (ps : List Names). ps ++ new_runs (run_of folder count flush) (list_at lists count)) (is_paths ∙ noted.others count (omega arith)) ∙ ap (λ (n : ℕ). get_or before n [] ++ new_runs (run_of folder n flush) (list_at lists n)) (sym same)) (cases_lt part count);
      others = λ part from. get_or-set_other after count part more [] (λ same. omega (arith, same)) ∙ noted.others part (omega arith);
    }

pub noted_all : (folder : Names) (flush : ℕ) (lists : List (List Pair)) (count : ℕ) (before after : List (List Names)) → length lists ≤ count → NotedBelow folder flush lists count before after → AreNoted folder flush lists before after
noted_all folder flush lists count before after all noted part =
    ⊎_elim (λ (below : part < count). noted.done part below) (λ (past : count ≤ part). noted.others part past ∙ sym (append-nil (get_or before part [])) ∙ ap (λ (ps : List Pair). get_or before part [] ++ new_runs (run_of folder part flush) ps) (sym (get_or_past lists part [] (omega arith)))) (cases_lt part count)

-- ---- the pairs of one file

-- the text of one pair more
text_more : (pairs : List Pair) (i : ℕ) (d : Pair) → i < length pairs → pairs_text (take (i + 1) pairs) ≡ pairs_text (take i pairs) ++ pair_line (get_or pairs i d).0 (get_or pairs i d).1
text_more pairs i d inside =
    let p : Pair = get_or pairs i d in
    ap pairs_text (take_more pairs i d inside) ∙ flat_map-append (λ (q : Pair). pair_line q.0 q.1) (take i pairs) (p ∷ []) ∙ ap (λ (t : List ℕ). pairs_text (take i pairs) ++ t) (append-nil (pair_line p.0 p.1))

-- a pair was gathered, and maybe sent
pub pair_sent : (path : Names) (s t : State) (piece line after : List ℕ) (pairs : List Pair) (i : ℕ) (p d : Pair) → gathered path s piece ≡ pairs_text (take i pairs) → i < length pairs → p ≡ get_or pairs i d → line ≡ piece ++ pair_line p.0 p.1 → gathered path t after ≡ gathered path s line → gathered path t after ≡ pairs_text (take (i + 1) pairs)
pair_sent path s t piece line after pairs i p d so_far inside is_pair is_line sent =
    let more : List ℕ = pair_line (get_or pairs i d).0 (get_or pairs i d).1 in
    let same : pair_line p.0 p.1 ≡ more = ap (λ (q : Pair). pair_line q.0 q.1) is_pair in
    sent ∙ ap (gathered path s) (is_line ∙ ap (λ (l : List ℕ). piece ++ l) same) ∙ sym (append_assoc (bytes_of (s path).now) piece more) ∙ ap (λ (t : List ℕ). t ++ more) so_far ∙ sym (text_more pairs i d inside)

-- ---- the runs of all parts

pub vacant_stands : (path : Names) (s t : State) → ((q : Names) → (under q path ≡ true) ⊎ (under path q ≡ true) → t q ≡ s q) → IsVacant path s → IsVacant path t
vacant_stands path s t same vacant =
    record {
      can = record {
        named = vacant.can.named;
        is_open = λ q above other. ap (λ (h : Held). h.now) (same q (inl above)) ∙ vacant.can.is_open q above other;
        nothing_under = λ q below other. ap (λ (h : Held). h.now) (same q (inr below)) ∙ vacant.can.nothing_under q below other;
      };
      none = ap (λ (h : Held). h.now) (same path (inr (under-refl path))) ∙ vacant.none;
    }

-- a run of another part stays vacant
pub still_vacant : (folder : Names) (flush part other : ℕ) (pairs : List Pair) (s t : State) → part < 100000 → other < 100000 → part ≢ other → StandsBesideRun (run_of folder part flush) pairs s t → IsVacant (run_of folder other flush) s → IsVacant (run_of folder other flush) t
still_vacant folder flush part other pairs s t small also differ stands vacant =
    let names = run_names_differ part other flush small also differ in
    vacant_stands (run_of folder other flush) s t (λ q near. stands q (λ some. ⊎_elim (λ (above : under q (run_of folder other flush) ≡ true). child_not_above folder (run_name part flush) (run_name other flush) q names above) (λ (below : under (run_of folder other flush) q ≡ true). children_apart folder (run_name other flush) (run_name part flush) q (λ same. names (sym same)) below) near)) vacant

-- the runs of the first lists are written, and those of the others can be
pub record WrittenBelow (folder : Names) (flush : ℕ) (lists : List (List Pair)) (count : ℕ) (state : State) : Type 0 where
  pub done : (part : ℕ) → part < count → HasItems (list_at lists part) → (state (run_of folder part flush)).now ≡ Some (pairs_text (list_at lists part))
  pub others : (part : ℕ) → count ≤ part → HasItems (list_at lists part) → IsVacant (run_of folder part flush) state

pub has_place : (lists : List (List Pair)) (part : ℕ) → HasItems (list_at lists part) → part < length lists
has_place lists part some =
    ⊎_elim (λ (below : part < length lists). below) (λ (past : length lists ≤ part). absurd (some (get_or_past lists part [] past))) (cases_lt part (length lists))

pub beside_start : (run : Names) (pairs : List Pair) (s : State) → StandsBesideRun run pairs s s
beside_start run pairs s q apart = refl

pub lists_start : (folder : Names) (flush : ℕ) (lists : List (List Pair)) (s : State) → StandsBesideLists folder flush lists s s
lists_start folder flush lists s q apart = refl

-- one run's steps, said of the list at its place
own_run : (folder : Names) (flush part i : ℕ) (lists : List (List Pair)) (pairs : List Pair) (mid new : Told) → part ≡ i → pairs ≡ list_at lists i → Through (Both (StandsBesideRun (run_of folder part flush) pairs (files mid))) mid new → Through (Both (StandsBesideRun (run_of folder i flush) (list_at lists i) (files mid))) mid new
own_run folder flush part i lists pairs mid new at_part is_pairs steps =
    subst (λ (n : ℕ). Through (Both (StandsBesideRun (run_of folder n flush) (list_at lists i) (files mid))) mid new) at_part (subst (λ (ps : List Pair). Through (Both (StandsBesideRun (run_of folder part flush) ps (files mid))) mid new) is_pairs steps)

pub run_more : (folder : Names) (flush part i : ℕ) (lists : List (List Pair)) (pairs : List Pair) (old mid new : Told) → part ≡ i → pairs ≡ list_at lists i → Through (Both (StandsBesideLists folder flush lists (files old))) old mid → Through (Both (StandsBesideRun (run_of folder part flush) pairs (files mid))) mid new → Through (Both (StandsBesideLists folder flush lists (files old))) old new
run_more folder flush part i lists pairs old mid new at_part is_pairs so_far steps =
    let here : StandsBesideLists folder flush lists (files old) (files mid) = kept (StandsBesideLists folder flush lists (files old)) old mid so_far (lists_start folder flush lists (files old)) in
    let own = own_run folder flush part i lists pairs mid new at_part is_pairs steps in
    then_goes (Both (StandsBesideLists folder flush lists (files old))) old mid new so_far (weaker (Both (StandsBesideRun (run_of folder i flush) (list_at lists i) (files mid))) (Both (StandsBesideLists folder flush lists (files old))) mid new (λ s t stands. (λ q apart. stands.0 q (apart i) ∙ here q apart, λ q apart. stands.1 q (apart i) ∙ here q apart)) own)

pub written_more : (folder : Names) (flush part i : ℕ) (lists : List (List Pair)) (pairs : List Pair) (mid new : Told) → length lists ≤ 100000 → i < length lists → part ≡ i → pairs ≡ list_at lists i → WrittenBelow folder flush lists i (files mid) → Through (Both (StandsBesideRun (run_of folder part flush) pairs (files mid))) mid new → (HasItems pairs → (files new (run_of folder part flush)).now ≡ Some (pairs_text pairs)) → WrittenBelow folder flush lists (i + 1) (files new)
written_more folder flush part i lists pairs mid new few inside at_part is_pairs below steps written =
    let own = own_run folder flush part i lists pairs mid new at_part is_pairs steps in
    let stands : StandsBesideRun (run_of folder i flush) (list_at lists i) (files mid) (files new) = kept (StandsBesideRun (run_of folder i flush) (list_at lists i) (files mid)) mid new own (beside_start (run_of folder i flush) (list_at lists i) (files mid)) in
    let mine : HasItems (list_at lists i) → (files new (run_of folder i flush)).now ≡ Some (pairs_text (list_at lists i)) = subst (λ (n : ℕ). HasItems (list_at lists i) → (files new (run_of folder n flush)).now ≡ Some (pairs_text (list_at lists i))) at_part (subst (λ (ps : List Pair). HasItems ps → (files new (run_of folder part flush)).now ≡ Some (pairs_text ps)) is_pairs written) in
    record {
      done = λ n before some. ⊎_elim (λ (earlier : n < i). ap (λ (h : Held). h.now) (stands (run_of folder n flush) (λ _. children_apart folder (run_name n flush) (run_name i flush) (run_of folder n flush) (run_names_differ n i flush (omega arith) (omega arith) (λ same. omega (arith, same))) (under-refl (run_of folder n flush)))) ∙ below.done n earlier some) (λ (last : i ≤ n). let same : n ≡ i = omega arith in subst (λ (m : ℕ). HasItems (list_at lists m) → (files new (run_of folder m flush)).now ≡ Some (pairs_text (list_at lists m))) (sym same) mine some) (cases_lt n i);
      others = λ n from some. let place = has_place lists n some in still_vacant folder flush i n (list_at lists i) (files mid) (files new) (omega arith) (omega arith) (λ same. omega (arith, same)) stands (below.others n (omega arith) some);
    }

-- the run of one list more alone has changed
pub others_more : (folder : Names) (flush part i : ℕ) (lists : List (List Pair)) (pairs : List Pair) (old mid new : State) → part ≡ i → pairs ≡ list_at lists i → StandsButLists folder flush lists old mid → StandsButRun (run_of folder part flush) pairs mid new → StandsButLists folder flush lists old new
others_more folder flush part i lists pairs old mid new at_part is_pairs so_far stands q apart =
    let own : StandsButRun (run_of folder i flush) (list_at lists i) mid new = subst (λ (n : ℕ). StandsButRun (run_of folder n flush) (list_at lists i) mid new) at_part (subst (λ (ps : List Pair). StandsButRun (run_of folder part flush) ps mid new) is_pairs stands) in
    own q (apart i) ∙ so_far q apart

pub written_none : (folder : Names) (flush : ℕ) (lists : List (List Pair)) (state : State) → AreListsVacant folder flush lists state → WrittenBelow folder flush lists 0 state
written_none folder flush lists state vacant =
    record { done = λ part below some. absurd (omega arith); others = λ part from some. vacant part some }

pub written_all : (folder : Names) (flush : ℕ) (lists : List (List Pair)) (count : ℕ) (state : State) → length lists ≤ count → WrittenBelow folder flush lists count state → HasLists folder flush lists state
written_all folder flush lists count state all below part some =
    let place = has_place lists part some in below.done part (omega arith) some
