use Rattle.std.proofs.Common.{◌≡◌, ℕ, ◌<◌, ◌≤◌, length, take}
use Rattle.dir_mem.specs.Log.{calls_of}
use Rattle.dir_mem.proofs.images.place_before.Given as goal

-- so many calls were made by this place, and more by each later one
abbrev pub invariant-loop-calls : goal.invariant-loop-calls
invariant-loop-calls l = record {
  within : l.place ≤ length l.steps;
  counted : l.calls ≡ calls_of (take l.place l.steps);
  enough : l.call ≤ l.calls;
  last : (later : ℕ) → l.place < later → later ≤ length l.steps → l.call < calls_of (take later l.steps);
}

abbrev pub decreases-loop-calls : goal.decreases-loop-calls
decreases-loop-calls l = l.place
