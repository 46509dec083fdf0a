use Rattle.dir_mem.specs.Images.{is_fair}
use Rattle.dir_mem.specs.Log.{state_of}
use Rattle.dir_mem.proofs.ImageLemmas.{trace_passes}
use Rattle.dir_mem.proofs.images.contents_of.Goals as goal

pub loop-trace-preserved : goal.loop-trace-preserved
loop-trace-preserved c =
    let held = state_of c.args.steps.now c.args.path.now in
    c.add_shown.ensures (is_fair held) c.loop-trace.invariant (trace_passes held c.in-Some.traces.now c.loop-trace.trace-index c.trace-item.result c.in-Some.ensures (c.requires c.args.path.now) c.loop-trace-test.true c.trace-item.is)
