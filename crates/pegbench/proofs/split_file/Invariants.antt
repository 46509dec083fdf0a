use Rattle.std.proofs.Common.{◌≡◌, []}
use Rattle.pegbench.proofs.split_file.Given as goal

abbrev pub invariant-loop-number : goal.invariant-loop-number
invariant-loop-number g l = g.D.Dir.lent l.dir ≡ []
