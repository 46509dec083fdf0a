use Rattle.std.proofs.Common.{take}
use Rattle.dir_mem.specs.Log.{after_changes, state_of}
use Rattle.dir_mem.specs.Effects.{Brings, after_break}
use Rattle.dir_mem.proofs.effects.breaking.Given as goal

-- the paths so far are broken, where they lie at or under one of the two
abbrev pub invariant-loop-path : goal.invariant-loop-path
invariant-loop-path l =
    Brings (take l.path-index l.paths) l.broken.items (state_of l.steps) (after_break l.top l.other (after_changes l.changes (state_of l.steps)) (state_of l.steps))
