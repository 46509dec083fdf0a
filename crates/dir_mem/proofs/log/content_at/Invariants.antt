use Rattle.std.proofs.Common.{◌≡◌, ◌≤◌, length, take}
use Rattle.dir_mem.specs.Log.{state_of}
use Rattle.dir_mem.proofs.log.content_at.Given as goal

-- no later step changed the path
abbrev pub invariant-loop-place : goal.invariant-loop-place
invariant-loop-place l =
    (l.place ≤ length l.steps) × (state_of l.steps l.path ≡ state_of (take l.place l.steps) l.path)

abbrev pub decreases-loop-place : goal.decreases-loop-place
decreases-loop-place l = l.place
