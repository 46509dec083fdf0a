-- The doubles in memory of a source, a sink and a console.
use Rattle.std.specs.Prelude.{ℕ, List}
use Rattle.dir_disk.specs.FaultPlan.{Plan}

-- a source: the bytes that are left, how many of them a read gives at most, and which reads fail
pub record Supply : Type 0 where
  pub left : List ℕ
  pub piece : ℕ
  pub plan : Plan

-- a sink or a console: the bytes that it took, and which calls fail
pub record Intake : Type 0 where
  pub bytes : List ℕ
  pub plan : Plan
