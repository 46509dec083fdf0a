use Rattle.std.proofs.Common.{◌≡◌, ◌++◌, take}
use Rattle.std.specs.List.{flat_map}
use Rattle.bitstrings.specs.Texts.{sum_text}
use Rattle.bitstrings.proofs.write.append_sums.Given as goal

abbrev pub invariant-loop-sum : goal.invariant-loop-sum
invariant-loop-sum l = l.out.items ≡ l.initial.out.items ++ flat_map sum_text (take l.sum-index l.sums)
