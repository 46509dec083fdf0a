-- Runs of other forms that end as those of the base form do.
use Rattle.std.specs.Prelude.{◌≡◌, ℕ, List, Some, true, unwrap_or}
use Rattle.graph.specs.declared.edges.Edge.{Edge}
use Rattle.conf.specs.declared.commands.Form.TheVariants.{Base}
use Rattle.conf.specs.declared.reading.Conf.{Conf}
use Rattle.conf.specs.Commands.{is_mining}
use Rattle.conf.specs.Limits.{IsWithinLimits}
use Rattle.mining.specs.declared.place.Place.TheVariants.{Results}
use Rattle.mining.specs.Flow.{mining_of, flow, count_of, last_of}
use Rattle.flow_core.specs.Following.{Giving}
use Rattle.flow.specs.Children.{FollowsChildren}
use Rattle.flow.specs.Iterates.{changed_of, iterates_of, result_of}
use Rattle.flow.specs.Laws.{AreCountable}
use Rattle.flow_forms.specs.Ends.{EndsWith}

-- the same run in the base form
abbrev pub as_base : Conf → Conf
as_base conf = record conf { form = Base }

-- each vector counts what the iterate changes, and the result has the numbers of the last iterate
pub record TellsIterates (gives : Giving) (conf : Conf) (edges : List Edge) : Type 0 where
  pub counts : (k : ℕ) → count_of (mining_of gives conf edges) k ≡ Some (changed_of conf edges k)
  pub result : flow (mining_of gives conf edges) Results
      ≡ result_of conf edges (unwrap_or (last_of (mining_of gives conf edges)) 0)

-- a run has the bytes of the base form's result
abbrev pub HasBaseResult : Giving → Conf → List Edge → Type 0
HasBaseResult gives conf edges =
    flow (mining_of gives conf edges) Results ≡ flow (mining_of gives (as_base conf) edges) Results

-- it counts what the base form counts, has its last iteration and the bytes of its result, and ends with the
-- iterates
pub record EndsAsBase (gives : Giving) (conf : Conf) (edges : List Edge) : Type 0 where
  pub counts : (k : ℕ)
      → count_of (mining_of gives conf edges) k ≡ count_of (mining_of gives (as_base conf) edges) k
  pub last : last_of (mining_of gives conf edges) ≡ last_of (mining_of gives (as_base conf) edges)
  pub result : HasBaseResult gives conf edges
  pub ends : EndsWith gives conf edges (iterates_of conf edges)

-- the counts and the result decide it, whatever the form
abbrev pub FormsEndAsBase : Type 0
FormsEndAsBase =
    (gives : Giving) → FollowsChildren gives → (conf : Conf) → IsWithinLimits conf
    → is_mining conf.command ≡ true → (edges : List Edge) → AreCountable conf.nodes edges
    → TellsIterates gives conf edges → EndsAsBase gives conf edges
