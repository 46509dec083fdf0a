use Rattle.std.proofs.Common.{◌≡◌, []}
use Rattle.pegbench.proofs.calls.Given as goal

abbrev pub invariant-loop-word : goal.invariant-loop-word
invariant-loop-word g l = g.D.Dir.lent l.dir ≡ []
