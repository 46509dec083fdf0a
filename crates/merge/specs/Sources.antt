-- Runs that are read from the front, and which of them has the least pair.
use Rattle.std.specs.Prelude.{◌≡◌, ℕ, ◌+◌, ◌*◌, ◌<◌, ◌≤◌, min, true, false, if◌then◌else◌, List, [], ◌∷◌, ◌++◌, Option, Some, None, drop, length, map, slice_index_or}
use Rattle.std.specs.List.{flat_map}
use Rattle.peg_base.specs.Names.{Names, same_path}
use Rattle.dir_disk.specs.State.{State, bytes_at}
use Rattle.dir_disk.specs.Calls.{HasFile}
use Rattle.pairs.specs.Pairs.{Pair, pair_before, pairs_in, IsInOrder}
use Rattle.merge.specs.declared.source.Source.{Source}

-- what no line was taken from yet
abbrev pub untaken : State → Source → List ℕ
untaken state source = source.lines.rest ++ drop source.place (bytes_at state source.path)

-- the pairs that are not given yet
abbrev pub left_of : State → Source → List Pair
left_of state source =
    if source.ended then [] else source.lines.head ∷ pairs_in (untaken state source)

abbrev pub lefts : State → List Source → List (List Pair)
lefts state sources = map (left_of state) sources

-- the pairs of all lists, one list after the other
abbrev pub all_of : List (List Pair) → List Pair
all_of lists = flat_map (λ pairs. pairs) lists

-- of the sources from one place up to another, the pair of one may stand before the next pair of each
pub record IsLeast (sources : List Source) (low high at : ℕ) : Type 0 where
  pub from : low ≤ at
  pub below : at < high
  pub inside : at < length sources
  pub running : (none : Source) → (slice_index_or sources at none).ended ≡ false
  pub first : (other : ℕ) (none : Source) → low ≤ other → other < high → (slice_index_or sources other none).ended ≡ false → pair_before (slice_index_or sources at none).lines.head (slice_index_or sources other none).lines.head ≡ true

-- the source with the least pair among those from one place up to another, where one of them has a pair
abbrev pub IsLeastOf : List Source → ℕ → ℕ → Option ℕ → Type 0
IsLeastOf sources low high None =
    (other : ℕ) (none : Source) → low ≤ other → other < high → (slice_index_or sources other none).ended ≡ true
IsLeastOf sources low high (Some at) = IsLeast sources low high at

-- the least source of each four, one group after the other, up to the end
pub record AreLeaders (sources : List Source) (leaders : List (Option ℕ)) : Type 0 where
  pub enough : length sources ≤ 4 * length leaders
  pub few : 4 * length leaders ≤ length sources + 4
  pub each : (group : ℕ) (none : Option ℕ) → group < length leaders → IsLeastOf sources (4 * group) (min (4 * group + 4) (length sources)) (slice_index_or leaders group none)

-- a run that can be read beside the file that is written
pub record IsSource (out : Names) (state : State) (source : Source) : Type 0 where
  pub there : HasFile state source.path
  pub other : same_path out source.path ≡ false
  pub in_order : IsInOrder (left_of state source)
