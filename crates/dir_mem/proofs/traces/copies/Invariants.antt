use Rattle.std.proofs.Common.{◌≡◌, take}
use Rattle.dir_mem.specs.Traces.{members_of}
use Rattle.dir_mem.proofs.traces.copies.Given as goal

-- the traces so far are copied
abbrev pub invariant-loop-trace : goal.invariant-loop-trace
invariant-loop-trace l = members_of l.copies.items ≡ members_of (take l.trace-index l.traces)
