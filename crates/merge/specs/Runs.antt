-- Runs of pairs, and the passes that merge many of them.
use Rattle.std.specs.Prelude.{◌≡◌, ℕ, zero, suc, ◌-◌, ◌*◌, ◌/◌, ◌<◌, false, List, [], ◌∷◌, ◌++◌, All, Some, take, drop, map, codes}
use Rattle.std.specs.List.{range_with_len}
use Rattle.peg_base.specs.Names.{Names, under, same_path}
use Rattle.dir_disk.specs.State.{State, bytes_at}
use Rattle.dir_disk.specs.Calls.{HasFile}
use Rattle.dir_disk.specs.Lent.{Loan, IsFree}
use Rattle.digit_names.specs.Digits.{digits}
use Rattle.pairs.specs.Pairs.{Pair, IsPlain, IsInOrder, pairs_in, pairs_text, sorted_pairs}
use Rattle.merge.specs.Sources.{all_of}
use Rattle.pieces.specs.Pieces.{IsVacant}

-- the pairs of files
abbrev pub lists_at : State → List Names → List (List Pair)
lists_at state paths = map (λ path. pairs_in (bytes_at state path)) paths

-- a file whose lines are pairs in order
pub record IsRun (state : State) (path : Names) : Type 0 where
  pub there : HasFile state path
  pub plain : All IsPlain (pairs_in (bytes_at state path))
  pub in_order : IsInOrder (pairs_in (bytes_at state path))

-- the pairs of all files, sorted, each as often as it stands there
abbrev pub merged_at : State → List Names → List Pair
merged_at state paths = sorted_pairs (all_of (lists_at state paths))

-- ---- passes

-- how many passes so many runs need, where a pass makes one run of ten and ten can be merged at last
abbrev pub passes : ℕ → ℕ
passes runs = (runs - 2) / 9

-- the number of the pass in twenty digits
unfoldable pub merge_name : ℕ → List ℕ
merge_name number = codes "merge-" ++ digits 20 number

-- the run that a pass makes
abbrev pub merge_of : Names → ℕ → Names
merge_of scratch number = scratch ++ merge_name number ∷ []

-- what a pass makes: the pairs of the next ten lists, sorted
abbrev pub ten_merged : ℕ → List (List Pair) → List Pair
ten_merged number lists = sorted_pairs (all_of (take 10 (drop (10 * number) lists)))

-- the lists after so many passes: each pass puts what it makes behind all others
abbrev pub after_passes : ℕ → List (List Pair) → List (List Pair)
after_passes zero lists = lists
after_passes (suc number) lists =
    after_passes number lists ++ ten_merged number (after_passes number lists) ∷ []

-- the pairs of the run that a pass makes
abbrev pub pass_pairs : List (List Pair) → ℕ → List Pair
pass_pairs lists number = ten_merged number (after_passes number lists)

-- no path that the passes write is lent
abbrev pub ArePassesFree : Names → ℕ → List Loan → Type 0
ArePassesFree scratch count lent = (number : ℕ) → number < count → IsFree lent (merge_of scratch number)

-- each path that the passes write is vacant
abbrev pub ArePassesVacant : Names → ℕ → State → Type 0
ArePassesVacant scratch count state =
    (number : ℕ) → number < count → IsVacant (merge_of scratch number) state

-- all but the runs of these passes, and what lies under them, is as at entry
abbrev pub StandsBesidePasses : Names → ℕ → State → State → Type 0
StandsBesidePasses scratch count entry state =
    (path : Names) → ((number : ℕ) → number < count → under (merge_of scratch number) path ≡ false) → state path ≡ entry path

-- all but the file that is written, the runs of these passes, and what lies under them, is as at entry
abbrev pub StandsBesideMerge : Names → Names → ℕ → State → State → Type 0
StandsBesideMerge out scratch count entry state =
    (path : Names) → under out path ≡ false → ((number : ℕ) → number < count → under (merge_of scratch number) path ≡ false) → state path ≡ entry path

-- the file that is written and the runs of these passes alone have changed
abbrev pub StandsButMerge : Names → Names → ℕ → State → State → Type 0
StandsButMerge out scratch count entry state =
    (path : Names) → same_path out path ≡ false → ((number : ℕ) → number < count → same_path (merge_of scratch number) path ≡ false) → state path ≡ entry path

-- each pass has made its run
abbrev pub HasPasses : Names → ℕ → List (List Pair) → State → Type 0
HasPasses scratch count lists state =
    (number : ℕ) → number < count → (state (merge_of scratch number)).now ≡ Some (pairs_text (pass_pairs lists number))

-- the runs, and those of the passes behind them
abbrev pub queue_of : List Names → Names → ℕ → List Names
queue_of runs scratch count = runs ++ map (merge_of scratch) (range_with_len 0 count)

-- so many passes are done: the runs are there with the lists, each pass has made its run, and all else is as at entry
pub record IsAfterPasses (runs : List Names) (scratch : Names) (count : ℕ) (entry state : State) : Type 0 where
  pub lists : lists_at state (queue_of runs scratch count) ≡ after_passes count (lists_at entry runs)
  pub each : All (IsRun state) (queue_of runs scratch count)
  pub made : HasPasses scratch count (lists_at entry runs) state
  pub others : (path : Names) → ((number : ℕ) → number < count → same_path (merge_of scratch number) path ≡ false) → state path ≡ entry path
