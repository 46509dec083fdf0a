-- What holds of jobs and steps, whatever the algorithm.
use Rattle.std.specs.Prelude.{◌≡◌, ℕ, ◌<◌, ◌≤◌, Bool, List, map, All, Option, Some}
use Rattle.std.specs.List.{flat_map, range_with_len}
use Rattle.std.specs.List.Sorted.{IsPermutation}
use Rattle.graph.specs.declared.edges.Edge.{Edge}
use Rattle.graph.specs.Edges.{AreBelow}
use Rattle.graph.specs.Entries.{Entry, by_degree, hadi_entries}
use Rattle.graph.specs.Steps.{Algorithm, iterate}
use Rattle.gimv_base.specs.Rules.{ByRecord}
use Rattle.pairs.specs.Pairs.{Pair, IsPlain, pairs_text}
use Rattle.flow_core.specs.Following.{Giving, Follows}
use Rattle.flow_core.specs.Parts.{part_lines, parts_with}
use Rattle.flow_core.specs.Jobs.{Cut, job_by}
use Rattle.flow_core.specs.Holding.{Holds, record_of}
use Rattle.flow_core.specs.Places.{AreAtPlaces, placed_edge, placed_entry, IsInside, over_places}

-- ---- folders and jobs

-- a folder that has pairs in the parts of their keys holds them
abbrev pub PartsHold : Type 0
PartsHold =
    (reducers : ℕ) (pairs : List Pair) → 1 ≤ reducers → All IsPlain pairs
    → Holds (parts_with reducers pairs) pairs

-- the order of pairs makes no difference to a folder
abbrev pub PartsInAnyOrder : Type 0
PartsInAnyOrder =
    (reducers : ℕ) (one other : List Pair) → IsPermutation one other
    → parts_with reducers one ≡ parts_with reducers other

-- reducers read the sorted parts of all that mappers write: neither splits nor the parts of the inputs make
-- a difference
abbrev pub ReducersReadParts : Type 0
ReducersReadParts =
    (gives : Giving) (text : List ℕ → Option (List ℕ)) (cut : Cut) (mapper reducer : List (List ℕ))
    → Follows gives mapper (ByRecord text) → 1 ≤ cut.split
    → (inputs : List (List ℕ)) (read : List Pair) (out : Pair → List Pair) → Holds inputs read
    → All (λ p. (text (record_of p) ≡ Some (pairs_text (out p))) × All IsPlain (out p)) read
    → job_by gives cut mapper reducer inputs
    ≡ map (λ part. gives reducer (part_lines cut.reducers (flat_map out read) part))
    (range_with_len 0 cut.reducers)

-- ---- nodes at places

-- entries of edges by places are the edges' entries by places
abbrev pub EntriesGoAlong : Type 0
EntriesGoAlong =
    (place : ℕ → ℕ) (both : Bool) (edges : List Edge)
    → hadi_entries both (map (placed_edge place) edges) ≡ map (placed_entry place) (hadi_entries both edges)

abbrev pub DegreesGoAlong : Type 0
DegreesGoAlong =
    (n : ℕ) (place id : ℕ → ℕ) → AreAtPlaces n place id → (edges : List Edge) → AreBelow n edges
    → by_degree (map (placed_edge place) edges) ≡ map (placed_entry place) (by_degree edges)

-- the iterates over places are those of the nodes there
abbrev pub IteratesGoAlong : Type 0 → Type 0 → Type 0 → Type 0
IteratesGoAlong Val Msg Weight =
    (n : ℕ) (place id : ℕ → ℕ) → AreAtPlaces n place id
    → (a : Algorithm Val Msg Weight) (entries : List (Entry Weight)) → All (IsInside n) entries
    → (k p : ℕ) → p < n
    → iterate (over_places id a) (map (placed_entry place) entries) k p ≡ iterate a entries k (id p)
