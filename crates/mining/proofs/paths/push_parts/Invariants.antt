use Rattle.std.proofs.Common.{◌≡◌, ◌++◌, map}
use Rattle.std.specs.List.{range_with_len}
use Rattle.committer.specs.Paths.{part_of}
use Rattle.mining.specs.Places.{folder_of}
use Rattle.mining.proofs.paths.push_parts.Given as goal

abbrev pub invariant-loop-part : goal.invariant-loop-part
invariant-loop-part l =
    l.paths.items ≡ l.initial.paths.items ++ map (part_of (folder_of l.fn.place)) (range_with_len 0 l.part)
