use Rattle.std.proofs.Common.{take}
use Rattle.dir_disk.specs.State.{after_settle}
use Rattle.dir_mem.specs.Log.{state_of}
use Rattle.dir_mem.specs.Effects.{Brings}
use Rattle.dir_mem.proofs.effects.settling.Given as goal

-- the paths so far are settled, where they lie at or under the path
abbrev pub invariant-loop-path : goal.invariant-loop-path
invariant-loop-path l =
    Brings (take l.path-index l.paths) l.changes.items (state_of l.steps) (after_settle l.top (state_of l.steps))
