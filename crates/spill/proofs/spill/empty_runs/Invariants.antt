use Rattle.std.proofs.Common.{◌≡◌, [], map, replicate}
use Rattle.spill.proofs.spill.empty_runs.Given as goal

abbrev pub invariant-loop-part : goal.invariant-loop-part
invariant-loop-part l = map (λ paths. paths.items) l.runs.items ≡ replicate l._part []
