use Rattle.std.proofs.Common.{◌≡◌, ◌+◌, ◌-◌, ◌≤◌, length, take}
use Rattle.child.specs.Feeding.{Feeds, IsCounted, fed_of}
use Rattle.child.proofs.feeding.Feeding.take_within.Given as goal

abbrev pub invariant-loop-length : goal.invariant-loop-length
invariant-loop-length g l = record {
  inside : l.start ≤ length l.piece;
  fed : Feeds (fed_of g.R.Role.standing l.initial.self) (fed_of g.R.Role.standing l.self) (take l.start l.piece) l.initial.out.items l.out.items;
  counted : IsCounted (fed_of g.R.Role.standing l.self);
  taken : l.self.taken ≡ l.initial.self.taken + l.start;
}

abbrev pub decreases-loop-length : goal.decreases-loop-length
decreases-loop-length g l = length l.piece - l.start
