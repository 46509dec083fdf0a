-- What an image of a work folder holds, where the children are the bundled ones: whole iterations, each so many steps over
-- the edges, and the result of the last one.
use Rattle.std.specs.Prelude.{◌≡◌, ℕ, ◌==◌, ◌+◌, ◌-◌, ◌^◌, ◌<◌, ◌≤◌, List, ◌++◌, Option, Some, None, IfSome, slice_index}
use Rattle.std.specs.List.{flat_map, range_with_len}
use Rattle.graph.specs.declared.edges.Edge.{Edge}
use Rattle.graph.specs.Entries.{hadi_entries}
use Rattle.graph.specs.Walks.{AreLeast}
use Rattle.hadi.specs.Radii.{IsRadius}
use Rattle.conf.specs.declared.commands.Command.TheVariants.{Hcc, Hadi}
use Rattle.conf.specs.declared.reading.Conf.{Conf}
use Rattle.dir_disk.specs.State.{Image}
use Rattle.job.specs.Whole.{HasOutput, HasOutputIfWhole}
use Rattle.mining.specs.declared.place.Place.TheVariants.{Vector, Results}
use Rattle.mining.specs.Flow.{last_of, mining_of, most_of}
use Rattle.mining.specs.Iterations.{console}
use Rattle.mining.specs.Kept.{Has, Kept}
use Rattle.mining.specs.Places.{folder_of}
use Rattle.report.specs.Lines.{done_text, iteration_text, resumed_text}
use Rattle.flow_core.specs.Following.{Giving}
use Rattle.flow.specs.Children.{FollowsChildren}
use Rattle.flow.specs.Iterates.{IsBaseRun, IsLast, changed_of, layout_of, result_of, total_after}
use Rattle.flow.specs.Laws.{AreCountable, parts_of_numbers}

-- ---- folders

-- just the iterations up to this one are whole; or none is
abbrev pub IsWholeUpTo : Option ℕ → Image → Type 0
IsWholeUpTo None image = (j : ℕ) → j < 10 ^ 10 → Has (Vector j) image → ⊥
IsWholeUpTo (Some k) image =
    ((j : ℕ) → j ≤ k → Has (Vector j) image) × ((j : ℕ) → j < 10 ^ 10 → Has (Vector j) image → j ≤ k)

-- whole iterations 0 to k, none after the last one, each exactly so many steps over the edges; and a result, where it is whole, is
-- that of the last one
pub record HoldsIterates (conf : Conf) (edges : List Edge) (image : Image) : Type 0 where
  pub newest : Option ℕ
  pub whole : IsWholeUpTo newest image
  pub last : ℕ
  pub is_last : IsLast conf (changed_of conf edges) last
  pub few : IfSome newest (λ k. k ≤ last)
  pub steps : (k : ℕ) → k < 10 ^ 10 → HasOutputIfWhole (folder_of (Vector k)) (layout_of conf edges k) image
  pub result : HasOutputIfWhole (folder_of Results) (result_of conf edges last) image

-- all iterations up to the last one are whole, and so is the result, which is that of the last one: for components the least label of
-- each node, for radii the radius of each
pub record HoldsResult (conf : Conf) (edges : List Edge) (image : Image) : Type 0 where
  pub last : ℕ
  pub is_last : IsLast conf (changed_of conf edges) last
  pub soon : last ≤ most_of conf conf.command
  pub vectors : (k : ℕ) → k ≤ last → Has (Vector k) image × HasOutput (folder_of (Vector k)) (layout_of conf edges k) image
  pub whole : Has Results image
  pub result : HasOutput (folder_of Results) (result_of conf edges last) image
  pub least : conf.command ≡ Hcc → (labels : List ℕ) → AreLeast conf.nodes edges labels
      → result_of conf edges last ≡ parts_of_numbers conf (λ node. slice_index labels node)
  pub radii : conf.command ≡ Hadi → (radius : ℕ → ℕ)
      → ((node : ℕ) → node < conf.nodes
      → IsRadius conf.seed (hadi_entries conf.sym edges) last node (radius node))
      → result_of conf edges last ≡ parts_of_numbers conf radius

-- wherever a machine stops, what is kept holds so many steps
abbrev pub KeptHoldsIterates : Type 0
KeptHoldsIterates =
    (gives : Giving) → FollowsChildren gives → (conf : Conf) → IsBaseRun conf → (edges : List Edge)
    → AreCountable conf.nodes edges
    → (image : Image) → Kept (mining_of gives conf edges) image → HoldsIterates conf edges image

-- and where the result is whole, all of it
abbrev pub KeptHoldsResult : Type 0
KeptHoldsResult =
    (gives : Giving) → FollowsChildren gives → (conf : Conf) → IsBaseRun conf → (edges : List Edge)
    → AreCountable conf.nodes edges
    → (image : Image) → Kept (mining_of gives conf edges) image → Has Results image → HoldsResult conf edges image

-- ---- the console

-- the line of an iteration
abbrev pub iterate_line : Conf → List Edge → ℕ → List ℕ
iterate_line conf edges k = iteration_text k (changed_of conf edges k)

-- the line of a run that is done
abbrev pub iterates_done : Conf → List Edge → ℕ → List ℕ
iterates_done conf edges last =
    done_text conf last (changed_of conf edges last == 0) (total_after conf edges last)

-- what is said after iteration k, where this is the last one
abbrev pub iterates_after : Conf → List Edge → ℕ → ℕ → List ℕ
iterates_after conf edges k last =
    flat_map (iterate_line conf edges) (range_with_len (k + 1) (last - k)) ++ iterates_done conf edges last

-- all that a run says that goes on after iteration k, or that begins with iteration 0
abbrev pub iterates_console : Conf → List Edge → Option ℕ → ℕ → List ℕ
iterates_console conf edges None last = iterate_line conf edges 0 ++ iterates_after conf edges 0 last
iterates_console conf edges (Some k) last = resumed_text k ++ iterates_after conf edges k last

-- what the flow has a run say are the counts and the total of the iterates
abbrev pub ConsoleIsOfIterates : Type 0
ConsoleIsOfIterates =
    (gives : Giving) → FollowsChildren gives → (conf : Conf) → IsBaseRun conf → (edges : List Edge)
    → AreCountable conf.nodes edges
    → (last : ℕ) → IsLast conf (changed_of conf edges) last
    → (last_of (mining_of gives conf edges) ≡ Some last)
    × ((k : Option ℕ) → console (mining_of gives conf edges) k last ≡ iterates_console conf edges k last)
