-- The laws of runs.
use Rattle.std.proofs.Common.{◌≡◌, ◌≢◌, ◌∙◌, ap, sym, refl, subst, ℕ, suc, ◌+◌, ◌<◌, ◌≤◌, ◌==◌, ⊎_elim, List, [], ◌∷◌, ◌++◌, None, Some, length, get_or, arith}
use Rattle.std.specs.List.{flat_map}
use Rattle.std.specs.List.Sorted.{IsPermutation}
use Rattle.std.proofs.lemmas.Bool.{cases_lt}
use Rattle.std.proofs.lemmas.List.{length_push, append-nil, append_assoc, get_or_append_left, get_or_at}
use Rattle.std.proofs.lemmas.List.Elements.{filter-append}
use Rattle.std.proofs.lemmas.List.Sorted.{IsPermutation-refl, IsPermutation-append}
use Rattle.partition.specs.Hash.{part_among}
use Rattle.peg_base.specs.Names.{Names}
use Rattle.peg_base.proofs.Under.{under-refl}
use Rattle.dir_disk.specs.State.{Content, Held}
use Rattle.digit_names.specs.Digits.{digits}
use Rattle.pairs.specs.Pairs.{Pair, pairs_text, sorted_pairs}
use Rattle.pairs.proofs.PairLemmas.{sorted_is_permutation}
use Rattle.spill.specs.Runs.{of_part, run_name, run_of, run_content, new_runs}
use Rattle.spill.specs.Laws.{RunsAreApart, FlushesAddUp, paths_of, PathsAddUp, RunsHoldThePairs, NamesByExample}
use Rattle.spill.proofs.RunNames.{run_names_tell, run_names_differ, children_apart}

pub runs_are_apart : RunsAreApart
runs_are_apart folder part other flush another path small also low too differ =
    children_apart folder (run_name part flush) (run_name other another) path (λ same. let numbers = run_names_tell part other flush another small also low too same in ⊎_elim (λ (parts : part ≢ other). parts numbers.0) (λ (flushes : flush ≢ another). flushes numbers.1) differ)

content_by_cases : (ps : List Pair) (content : Content) → (ps ≡ [] → content ≡ None) → ((ps ≡ [] → ⊥) → content ≡ Some (pairs_text (sorted_pairs ps))) → content ≡ run_content ps
content_by_cases [] content none some = none refl
content_by_cases (p ∷ ps) content none some = some (λ is. let zero : length (p ∷ ps) ≡ 0 = ap length is in absurd (omega arith))

pub flushes_add_up : FlushesAddUp
flushes_add_up folder reducers chunks pairs entry state few low has none stands written flush part within below =
    let long = length_push chunks pairs in
    ⊎_elim (λ (earlier : flush < length chunks). ap (λ (h : Held). h.now) (stands (run_of folder part flush) (λ other small some. children_apart folder (run_name part flush) (run_name other (length chunks)) (run_of folder part flush) (λ same. let numbers = run_names_tell part other flush (length chunks) (omega arith) (omega arith) (omega arith) low same in omega (arith, numbers.1)) (under-refl (run_of folder part flush)))) ∙ has flush part earlier below ∙ ap (λ (ps : List Pair). run_content (of_part reducers part ps)) (sym (get_or_append_left chunks (pairs ∷ []) [] flush earlier))) (λ (past : length chunks ≤ flush). let last : flush ≡ length chunks = omega arith in ap (λ (n : ℕ). (state (run_of folder part n)).now) last ∙ newest ∙ ap (λ (ps : List Pair). run_content (of_part reducers part ps)) (sym (get_or_at chunks pairs [] [] (length chunks) refl) ∙ ap (λ (n : ℕ). get_or (chunks ++ pairs ∷ []) n []) (sym last))) (cases_lt flush (length chunks))
  where
    newest : (state (run_of folder part (length chunks))).now ≡ run_content (of_part reducers part pairs)
    newest =
        content_by_cases (of_part reducers part pairs) (state (run_of folder part (length chunks))).now (λ empty. ap (λ (h : Held). h.now) (stands (run_of folder part (length chunks)) (λ other small some. children_apart folder (run_name part (length chunks)) (run_name other (length chunks)) (run_of folder part (length chunks)) (run_names_differ part other (length chunks) (omega arith) (omega arith) (λ same. some (ap (λ (n : ℕ). of_part reducers n pairs) (sym same) ∙ empty))) (under-refl (run_of folder part (length chunks))))) ∙ none part below) (λ some. written part below some)

pub paths_add_up : PathsAddUp
paths_add_up folder reducers part first [] pairs =
    let same : first ≡ first + 0 = omega arith in
    append-nil (new_runs (run_of folder part first) (of_part reducers part pairs)) ∙ ap (λ (n : ℕ). new_runs (run_of folder part n) (of_part reducers part pairs)) same
paths_add_up folder reducers part first (chunk ∷ chunks) pairs =
    let same : first + 1 + length chunks ≡ first + suc (length chunks) = omega arith in
    let mine : List Names = new_runs (run_of folder part first) (of_part reducers part chunk) in
    ap (λ (ps : List Names). mine ++ ps) (paths_add_up folder reducers part (first + 1) chunks pairs ∙ ap (λ (n : ℕ). paths_of folder reducers part (first + 1) chunks ++ new_runs (run_of folder part n) (of_part reducers part pairs)) same) ∙ sym (append_assoc mine (paths_of folder reducers part (first + 1) chunks) (new_runs (run_of folder part (first + suc (length chunks))) (of_part reducers part pairs)))

pub runs_hold_the_pairs : RunsHoldThePairs
runs_hold_the_pairs reducers part [] = IsPermutation-refl []
runs_hold_the_pairs reducers part (chunk ∷ chunks) =
    let later : List Pair = flat_map (λ (pairs : List Pair). sorted_pairs (of_part reducers part pairs)) chunks in
    subst (λ (ps : List Pair). IsPermutation ps (sorted_pairs (of_part reducers part chunk) ++ later)) (sym (filter-append (λ (p : Pair). part_among p.0 reducers == part) chunk (flat_map (λ (pairs : List Pair). pairs) chunks))) (IsPermutation-append (of_part reducers part chunk) (sorted_pairs (of_part reducers part chunk)) (of_part reducers part (flat_map (λ (pairs : List Pair). pairs) chunks)) later (sorted_is_permutation (of_part reducers part chunk)) (runs_hold_the_pairs reducers part chunks))

pub names_by_example : NamesByExample
unfolding run_name digits
names_by_example = (refl, refl)
