use Rattle.std.proofs.Common.{length, ◌-◌}
use Rattle.gimv_base.proofs.LeadingZeros.{FollowsZeros}
use Rattle.gimv_base.proofs.fields.without_leading_zeros.Given as goal

abbrev pub invariant-loop-zeros : goal.invariant-loop-zeros
invariant-loop-zeros l = FollowsZeros l.text l.zeros

abbrev pub decreases-loop-zeros : goal.decreases-loop-zeros
decreases-loop-zeros l = length l.text - l.zeros
