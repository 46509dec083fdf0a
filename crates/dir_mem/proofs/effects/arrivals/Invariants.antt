use Rattle.std.proofs.Common.{take}
use Rattle.dir_mem.specs.Log.{state_of}
use Rattle.dir_mem.specs.Effects.{Arrives}
use Rattle.dir_mem.proofs.effects.arrivals.Given as goal

-- the files so far have arrived
abbrev pub invariant-loop-path : goal.invariant-loop-path
invariant-loop-path l =
    Arrives l.from l.to (take l.path-index l.paths) l.changes.items (state_of l.steps)
