use Rattle.std.proofs.Common.{sym, arith, Some, None}
use Rattle.dir_mem.specs.Traces.{members_of}
use Rattle.dir_mem.proofs.LogLemmas.{looked_may}
use Rattle.dir_mem.proofs.log.traces_after.Goals as goal

pub returns-in-Some : goal.returns-in-Some
returns-in-Some c =
    sym (looked_may c.args.steps.now c.loop-place.place c.index-steps-place.result c.changes.result.now (Some (members_of c.in-Some.traces.now)) c.args.path.now c.loop-place-test.true c.loop-place.invariant c.index-steps-place.is c.changes.ensures c.in-Some.ensures)

pub loop-place-preserved : goal.loop-place-preserved
loop-place-preserved c = (omega arith, looked_may c.args.steps.now c.loop-place.place c.index-steps-place.result c.changes.result.now None c.args.path.now c.loop-place-test.true c.loop-place.invariant c.index-steps-place.is c.changes.ensures c.in_default.ensures)
