use Rattle.std.proofs.Common.{◌-◌}
use Rattle.gimv_block.proofs.NumberLemmas.{IsRead}
use Rattle.gimv_block.proofs.numbers.leading_number.Given as goal

abbrev pub invariant-loop-count : goal.invariant-loop-count
invariant-loop-count l = IsRead l.text l.most l.number l.count

abbrev pub decreases-loop-count : goal.decreases-loop-count
decreases-loop-count l = l.most - l.count
