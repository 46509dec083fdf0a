-- The tasks of a job.
use Rattle.std.specs.Prelude.{Bool, true, false}
use Rattle.peg_base.specs.declared.tasks.Phase.{Phase}
use Rattle.peg_base.specs.declared.tasks.Phase.TheVariants.{Map, Combine, Reduce}

-- the same phase
abbrev pub same_phase : Phase → Phase → Bool
same_phase Map Map = true
same_phase Map Combine = false
same_phase Map Reduce = false
same_phase Combine Map = false
same_phase Combine Combine = true
same_phase Combine Reduce = false
same_phase Reduce Map = false
same_phase Reduce Combine = false
same_phase Reduce Reduce = true
