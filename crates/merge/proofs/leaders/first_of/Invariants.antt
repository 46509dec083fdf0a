use Rattle.std.proofs.Common.{◌*◌, length, min}
use Rattle.merge.specs.Sources.{IsLeastOf}
use Rattle.merge.proofs.leaders.first_of.Given as goal

abbrev pub invariant-loop-leader : goal.invariant-loop-leader
invariant-loop-leader l = IsLeastOf l.sources 0 (min (4 * l.leader-index) (length l.sources)) l.first
