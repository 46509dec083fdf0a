-- What several flushes leave together, and how their runs are named.
use Rattle.std.specs.Prelude.{◌≡◌, ◌≢◌, ℕ, ◌+◌, ◌-◌, ◌^◌, ◌<◌, ◌≤◌, true, false, ◌⊎◌, List, [], ◌∷◌, ◌++◌, None, length, codes, slice_index_or}
use Rattle.std.specs.List.{flat_map}
use Rattle.std.specs.List.Sorted.{IsPermutation}
use Rattle.peg_base.specs.Names.{Names, under}
use Rattle.dir_disk.specs.State.{State}
use Rattle.pairs.specs.Pairs.{Pair, sorted_pairs}
use Rattle.spill.specs.Runs.{of_part, run_name, run_of, run_content, new_runs, HasRuns, StandsBesideRuns}

-- nothing lies under two runs of different parts or flushes
abbrev pub RunsAreApart : Type 0
RunsAreApart =
    (folder : Names) (part other flush another : ℕ) (path : Names) → part < 100000 → other < 100000 → flush < 2 ^ 64 → another < 2 ^ 64 → (part ≢ other) ⊎ (flush ≢ another) → under (run_of folder part flush) path ≡ true → under (run_of folder other another) path ≡ false

-- each chunk has its runs: for each part a file of just its pairs, sorted, and no file where the part has none
abbrev pub HasChunks : Names → ℕ → List (List Pair) → State → Type 0
HasChunks folder reducers chunks state =
    (flush part : ℕ) → flush < length chunks → part < reducers → (state (run_of folder part flush)).now ≡ run_content (of_part reducers part (slice_index_or chunks flush []))

-- a flush adds the runs of its chunk, and leaves those of the chunks before it
abbrev pub FlushesAddUp : Type 0
FlushesAddUp =
    (folder : Names) (reducers : ℕ) (chunks : List (List Pair)) (pairs : List Pair) (entry state : State) → reducers ≤ 100000 → length chunks < 2 ^ 64 → HasChunks folder reducers chunks entry → ((part : ℕ) → part < reducers → (entry (run_of folder part (length chunks))).now ≡ None) → StandsBesideRuns folder (length chunks) reducers pairs entry state → HasRuns folder (length chunks) reducers pairs state → HasChunks folder reducers (chunks ++ pairs ∷ []) state

-- the paths of a part's runs, where the chunks are numbered from `first` on
abbrev pub paths_of : Names → ℕ → ℕ → ℕ → List (List Pair) → List Names
paths_of folder reducers part first [] = []
paths_of folder reducers part first (pairs ∷ chunks) =
    new_runs (run_of folder part first) (of_part reducers part pairs) ++ paths_of folder reducers part (first + 1) chunks

-- a flush adds the path of its run at the end
abbrev pub PathsAddUp : Type 0
PathsAddUp =
    (folder : Names) (reducers part first : ℕ) (chunks : List (List Pair)) (pairs : List Pair) → paths_of folder reducers part first (chunks ++ pairs ∷ []) ≡ paths_of folder reducers part first chunks ++ new_runs (run_of folder part (first + length chunks)) (of_part reducers part pairs)

-- the runs of a part together have each pair of the part as often as it was pushed
abbrev pub RunsHoldThePairs : Type 0
RunsHoldThePairs =
    (reducers part : ℕ) (chunks : List (List Pair)) → IsPermutation (of_part reducers part (flat_map (λ pairs. pairs) chunks)) (flat_map (λ pairs. sorted_pairs (of_part reducers part pairs)) chunks)

-- the part in five digits, and the flush in twenty
abbrev pub NamesByExample : Type 0
NamesByExample =
    (run_name 0 0 ≡ codes "run-00000-00000000000000000000") × (run_name 63 (2 ^ 64 - 1) ≡ codes "run-00063-18446744073709551615")
