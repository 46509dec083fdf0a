-- The iterates of a run's command, as folders, and which iteration is the last one.
use Rattle.std.specs.Prelude.{◌≡◌, ℕ, ◌<◌, ◌≤◌, ◌==◌, ◌⊎◌, List, [], map, fold, max, sum_by, count_by, true}
use Rattle.std.specs.List.{range_with_len}
use Rattle.graph.specs.declared.edges.Edge.{Edge}
use Rattle.graph.specs.Entries.{hcc_entries, page_rank_entries, hadi_entries}
use Rattle.graph.specs.Steps.{iterate}
use Rattle.hcc.specs.Components.{hcc_algebra}
use Rattle.pagerank.specs.Ranks.{page_rank_algebra}
use Rattle.hadi.specs.Hadi.{hadi_algebra}
use Rattle.conf.specs.declared.commands.Command.{Command}
use Rattle.conf.specs.declared.commands.Command.TheVariants.{Plain, Hcc, Hadi, PageRank}
use Rattle.conf.specs.declared.commands.Form.TheVariants.{Base}
use Rattle.conf.specs.declared.reading.Conf.{Conf}
use Rattle.conf.specs.Commands.{is_mining}
use Rattle.conf.specs.Limits.{IsWithinLimits}
use Rattle.flow_base.specs.Layouts.{Sequence, sequence, layout, result_parts, changed_in}

-- a run of the base form
pub record IsBaseRun (conf : Conf) : Type 0 where
  pub limits : IsWithinLimits conf
  pub mines : is_mining conf.command ≡ true
  pub form : conf.form ≡ Base

-- ---- the iterates

abbrev pub iterates_by : Command → Conf → List Edge → Sequence
iterates_by Plain conf edges = record { text = λ k node. []; changes = λ k node. 0; number = λ k node. 0 }
iterates_by Hcc conf edges = sequence hcc_algebra (iterate hcc_algebra.algorithm (hcc_entries edges))
iterates_by Hadi conf edges =
    sequence (hadi_algebra conf.seed)
    (iterate (hadi_algebra conf.seed).algorithm (hadi_entries conf.sym edges))
iterates_by PageRank conf edges =
    sequence (page_rank_algebra conf.nodes)
    (iterate (page_rank_algebra conf.nodes).algorithm (page_rank_entries edges))

-- the vectors of the command, from the first one on, each a step from the one before it
abbrev pub iterates_of : Conf → List Edge → Sequence
iterates_of conf edges = iterates_by conf.command conf edges

-- the parts of the folder of iteration k, and those of the result that is read from it
abbrev pub layout_of : Conf → List Edge → ℕ → List (List ℕ)
layout_of conf edges k = layout (iterates_of conf edges) conf.nodes conf.reducers k

abbrev pub result_of : Conf → List Edge → ℕ → List (List ℕ)
result_of conf edges k = result_parts (iterates_of conf edges) conf.nodes conf.reducers k

-- how many nodes iteration k changed
abbrev pub changed_of : Conf → List Edge → ℕ → ℕ
changed_of conf edges k = changed_in (iterates_of conf edges) conf.nodes k

-- the total of a result: how many nodes are their own label, the greatest radius, or the sum of the ranks
abbrev pub total_by : Command → Sequence → ℕ → ℕ → ℕ
total_by Plain s n k = 0
total_by Hcc s n k = count_by (λ node. node == s.number k node) (range_with_len 0 n)
total_by Hadi s n k = fold max 0 (map (s.number k) (range_with_len 0 n))
total_by PageRank s n k = sum_by (s.number k) (range_with_len 0 n)

abbrev pub total_after : Conf → List Edge → ℕ → ℕ
total_after conf edges k = total_by conf.command (iterates_of conf edges) conf.nodes k

-- ---- the last iteration

-- a command ends at an iteration that changed so many nodes: components where none changed, ranks at their
-- number of iterations, radii at either
abbrev pub EndsAt : Command → Conf → ℕ → ℕ → Type 0
EndsAt Plain conf changed k = ⊥
EndsAt Hcc conf changed k = changed ≡ 0
EndsAt Hadi conf changed k = (changed ≡ 0) ⊎ (k ≡ conf.hops)
EndsAt PageRank conf changed k = k ≡ conf.iters

-- the first such iteration, from 1, where `changed` counts what each iteration changed
pub record IsLast (conf : Conf) (changed : ℕ → ℕ) (k : ℕ) : Type 0 where
  pub made : 1 ≤ k
  pub ends : EndsAt conf.command conf (changed k) k
  pub earlier : (j : ℕ) → 1 ≤ j → j < k → EndsAt conf.command conf (changed j) j → ⊥

-- there is at most one
abbrev pub LastIsOne : Type 0
LastIsOne = (conf : Conf) (changed : ℕ → ℕ) (j k : ℕ) → IsLast conf changed j → IsLast conf changed k → j ≡ k
