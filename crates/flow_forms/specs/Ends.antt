-- How a run ends whose folders tell a sequence of vectors.
use Rattle.std.specs.Prelude.{◌≡◌, ℕ, ◌==◌, ◌+◌, ◌-◌, ◌<◌, ◌≤◌, List, ◌++◌, Option, Some, None, slice_index}
use Rattle.std.specs.List.{flat_map, range_with_len}
use Rattle.graph.specs.declared.edges.Edge.{Edge}
use Rattle.graph.specs.Entries.{hadi_entries}
use Rattle.graph.specs.Walks.{AreLeast}
use Rattle.hadi.specs.Radii.{IsRadius}
use Rattle.conf.specs.declared.commands.Command.TheVariants.{Hcc, Hadi}
use Rattle.conf.specs.declared.reading.Conf.{Conf}
use Rattle.mining.specs.declared.place.Place.TheVariants.{Results}
use Rattle.mining.specs.Flow.{flow, last_of, mining_of, most_of, total_in}
use Rattle.mining.specs.Iterations.{console}
use Rattle.report.specs.Lines.{done_text, iteration_text, resumed_text}
use Rattle.flow_core.specs.Following.{Giving}
use Rattle.flow_base.specs.Layouts.{Sequence, changed_in, result_parts}
use Rattle.flow.specs.Iterates.{IsLast, total_by}
use Rattle.flow.specs.Laws.{parts_of_numbers}

-- ---- what is said

-- the line of a vector, and that of a run that is done
abbrev pub changes_line : Conf → Sequence → ℕ → List ℕ
changes_line conf s k = iteration_text k (changed_in s conf.nodes k)

abbrev pub last_line : Conf → Sequence → ℕ → List ℕ
last_line conf s last =
    done_text conf last (changed_in s conf.nodes last == 0) (total_by conf.command s conf.nodes last)

-- what is said after vector k, where this is the last one
abbrev pub said_after : Conf → Sequence → ℕ → ℕ → List ℕ
said_after conf s k last =
    flat_map (changes_line conf s) (range_with_len (k + 1) (last - k)) ++ last_line conf s last

-- all that a run says that goes on after vector k, or that begins with the first one
abbrev pub said_of : Conf → Sequence → Option ℕ → ℕ → List ℕ
said_of conf s None last = changes_line conf s 0 ++ said_after conf s 0 last
said_of conf s (Some k) last = resumed_text k ++ said_after conf s k last

-- ---- the last iteration

-- the flow has the last iteration of the sequence, of which the result, its total and the lines are: for
-- components the result has the least label of each node, for radii the radius of each
pub record EndsWith (gives : Giving) (conf : Conf) (edges : List Edge) (s : Sequence) : Type 0 where
  pub last : ℕ
  pub is_last : last_of (mining_of gives conf edges) ≡ Some last
  pub first : IsLast conf (changed_in s conf.nodes) last
  pub soon : last ≤ most_of conf conf.command
  pub result : flow (mining_of gives conf edges) Results ≡ result_parts s conf.nodes conf.reducers last
  pub total : total_in conf.command (flow (mining_of gives conf edges) Results)
      ≡ Some (total_by conf.command s conf.nodes last)
  pub says : (k : Option ℕ) → console (mining_of gives conf edges) k last ≡ said_of conf s k last
  pub least : conf.command ≡ Hcc → (labels : List ℕ) → AreLeast conf.nodes edges labels
      → result_parts s conf.nodes conf.reducers last ≡ parts_of_numbers conf (λ node. slice_index labels node)
  pub radii : conf.command ≡ Hadi → (radius : ℕ → ℕ)
      → ((node : ℕ) → node < conf.nodes
      → IsRadius conf.seed (hadi_entries conf.sym edges) last node (radius node))
      → result_parts s conf.nodes conf.reducers last ≡ parts_of_numbers conf radius
