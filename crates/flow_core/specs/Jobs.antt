-- A job by its words.
use Rattle.std.specs.Prelude.{ℕ, List}
use Rattle.job.specs.Output.{Plan, job_parts}
use Rattle.flow_core.specs.Following.{Giving}

-- how a job is cut: the length of a split, and the number of parts
pub record Cut : Type 0 where
  pub split : ℕ
  pub reducers : ℕ

abbrev pub plan_of : Cut → List (List ℕ) → List (List ℕ) → List (List ℕ) → Plan
plan_of cut mapper reducer inputs =
    record { inputs = inputs; map_words = mapper; reduce_words = reducer; split = cut.split; reducers = cut.reducers }

-- the parts that a job makes, of these words for its mappers and its reducers, from the bytes of its inputs
abbrev pub job_by : Giving → Cut → List (List ℕ) → List (List ℕ) → List (List ℕ) → List (List ℕ)
job_by gives cut mapper reducer inputs = job_parts gives (plan_of cut mapper reducer inputs)
