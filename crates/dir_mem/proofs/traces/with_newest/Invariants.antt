use Rattle.std.proofs.Common.{◌≡◌, ◌∷◌, take}
use Rattle.dir_mem.specs.Traces.{member_of, members_of}
use Rattle.dir_mem.proofs.traces.with_newest.Given as goal

-- the traces so far are copied behind the newest
abbrev pub invariant-loop-trace : goal.invariant-loop-trace
invariant-loop-trace l =
    members_of l.may.items ≡ member_of l.fn.newest ∷ members_of (take l.trace-index l.traces)
