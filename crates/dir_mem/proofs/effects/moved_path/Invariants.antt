use Rattle.std.proofs.Common.{◌≡◌, ◌++◌, take}
use Rattle.dir_mem.proofs.effects.moved_path.Given as goal

-- the names so far stand under the new path
abbrev pub invariant-loop-name : goal.invariant-loop-name
invariant-loop-name l = l.moved ≡ l.to ++ take l.name-index l.name-items
