-- The runs that one flush writes: a sorted file for each part that has pairs.
use Rattle.std.specs.Prelude.{◌≡◌, ℕ, ◌<◌, ◌==◌, false, List, [], ◌∷◌, ◌++◌, None, Some, codes}
use Rattle.std.specs.List.{filter}
use Rattle.partition.specs.Hash.{part_among}
use Rattle.peg_base.specs.Names.{Names, same_path, under}
use Rattle.dir_disk.specs.State.{Content, State}
use Rattle.digit_names.specs.Digits.{digits}
use Rattle.pairs.specs.Pairs.{Pair, pairs_text, sorted_pairs}

-- the pairs of one part, in the order in which they came
abbrev pub of_part : ℕ → ℕ → List Pair → List Pair
of_part reducers part pairs = filter (λ p. part_among p.0 reducers == part) pairs

-- the part in five digits, the number of the flush in twenty
unfoldable pub run_name : ℕ → ℕ → List ℕ
run_name part flush = codes "run-" ++ digits 5 part ++ 45 ∷ [] ++ digits 20 flush

-- the file that a flush writes for a part
abbrev pub run_of : Names → ℕ → ℕ → Names
run_of folder part flush = folder ++ run_name part flush ∷ []

-- what such a file has: the part's pairs, sorted, and there is no file where the part has none
abbrev pub run_content : List Pair → Content
run_content [] = None
run_content (p ∷ ps) = Some (pairs_text (sorted_pairs (p ∷ ps)))

-- the paths that are added to a part's runs
abbrev pub new_runs : Names → List Pair → List Names
new_runs path [] = []
new_runs path (p ∷ ps) = path ∷ []

-- some pair is of the part
abbrev pub HasPairs : ℕ → ℕ → List Pair → Type 0
HasPairs reducers part pairs = (of_part reducers part pairs ≡ [] → ⊥)

-- all but the runs of this flush, and what lies under them, is as at entry
abbrev pub StandsBesideRuns : Names → ℕ → ℕ → List Pair → State → State → Type 0
StandsBesideRuns folder flush reducers pairs entry state =
    (path : Names) → ((part : ℕ) → part < reducers → HasPairs reducers part pairs → under (run_of folder part flush) path ≡ false) → state path ≡ entry path

-- the runs of this flush alone have changed
abbrev pub StandsButRuns : Names → ℕ → ℕ → List Pair → State → State → Type 0
StandsButRuns folder flush reducers pairs entry state =
    (path : Names) → ((part : ℕ) → part < reducers → HasPairs reducers part pairs → same_path (run_of folder part flush) path ≡ false) → state path ≡ entry path

-- each part that has pairs has its run, with all of them, sorted
abbrev pub HasRuns : Names → ℕ → ℕ → List Pair → State → Type 0
HasRuns folder flush reducers pairs state =
    (part : ℕ) → part < reducers → HasPairs reducers part pairs → (state (run_of folder part flush)).now ≡ Some (pairs_text (sorted_pairs (of_part reducers part pairs)))
