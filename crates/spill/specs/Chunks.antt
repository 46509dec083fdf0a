-- A chunk of pairs, dealt out to their parts.
use Rattle.std.specs.Prelude.{◌≡◌, ℕ, false, List, [], ◌++◌, Some, map, slice_index_or}
use Rattle.std.specs.List.{range_with_len}
use Rattle.peg_base.specs.Names.{Names, same_path, under}
use Rattle.dir_disk.specs.State.{State}
use Rattle.dir_disk.specs.Lent.{Loan, IsFree}
use Rattle.pairs.specs.Pairs.{Pair, pairs_text, sorted_pairs}
use Rattle.pieces.specs.Pieces.{IsVacant}
use Rattle.spill.specs.Runs.{of_part, run_of, new_runs}

-- the pairs of each part
abbrev pub parts_of : ℕ → List Pair → List (List Pair)
parts_of reducers pairs = map (λ part. of_part reducers part pairs) (range_with_len 0 reducers)

-- the same, each part sorted
abbrev pub sorted_parts_of : ℕ → List Pair → List (List Pair)
sorted_parts_of reducers pairs = map sorted_pairs (parts_of reducers pairs)

abbrev pub HasItems : List Pair → Type 0
HasItems pairs = (pairs ≡ [] → ⊥)

-- the pairs of one part among the lists of all
abbrev pub list_at : List (List Pair) → ℕ → List Pair
list_at lists part = slice_index_or lists part []

-- all but the run of these pairs is as at entry; without pairs there is no run
abbrev pub StandsBesideRun : Names → List Pair → State → State → Type 0
StandsBesideRun run pairs entry state =
    (path : Names) → (HasItems pairs → under run path ≡ false) → state path ≡ entry path

-- all but the runs of these lists, by their parts, is as at entry
abbrev pub StandsBesideLists : Names → ℕ → List (List Pair) → State → State → Type 0
StandsBesideLists folder flush lists entry state =
    (path : Names) → ((part : ℕ) → HasItems (list_at lists part) → under (run_of folder part flush) path ≡ false) → state path ≡ entry path

-- the run of these pairs alone has changed; without pairs nothing has
abbrev pub StandsButRun : Names → List Pair → State → State → Type 0
StandsButRun run pairs entry state =
    (path : Names) → (HasItems pairs → same_path run path ≡ false) → state path ≡ entry path

-- the runs of these lists alone, by their parts, have changed
abbrev pub StandsButLists : Names → ℕ → List (List Pair) → State → State → Type 0
StandsButLists folder flush lists entry state =
    (path : Names) → ((part : ℕ) → HasItems (list_at lists part) → same_path (run_of folder part flush) path ≡ false) → state path ≡ entry path

-- the run of each of these lists that has pairs is written
abbrev pub HasLists : Names → ℕ → List (List Pair) → State → Type 0
HasLists folder flush lists state =
    (part : ℕ) → HasItems (list_at lists part) → (state (run_of folder part flush)).now ≡ Some (pairs_text (list_at lists part))

-- no run of these lists is lent
abbrev pub AreListsFree : Names → ℕ → List (List Pair) → List Loan → Type 0
AreListsFree folder flush lists lent =
    (part : ℕ) → HasItems (list_at lists part) → IsFree lent (run_of folder part flush)

-- the run of each of these lists can be written
abbrev pub AreListsVacant : Names → ℕ → List (List Pair) → State → Type 0
AreListsVacant folder flush lists state =
    (part : ℕ) → HasItems (list_at lists part) → IsVacant (run_of folder part flush) state

-- the paths of the runs of these lists were added to their parts
abbrev pub AreNoted : Names → ℕ → List (List Pair) → List (List Names) → List (List Names) → Type 0
AreNoted folder flush lists before after =
    (part : ℕ) → slice_index_or after part [] ≡ slice_index_or before part [] ++ new_runs (run_of folder part flush) (list_at lists part)
