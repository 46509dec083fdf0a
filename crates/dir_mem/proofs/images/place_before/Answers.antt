use Rattle.std.proofs.Common.{arith}
use Rattle.dir_mem.proofs.LogLemmas.{calls_back, later_back}
use Rattle.dir_mem.proofs.images.place_before.Goals as goal

pub loop-calls-preserved : goal.loop-calls-preserved
loop-calls-preserved c =
    let so_far = c.loop-calls.invariant in
    let back = calls_back c.args.steps.now c.loop-calls.place c.loop-calls.calls c.args.call c.index-steps-place.result c.loop-calls-test.true so_far.counted so_far.within c.index-steps-place.is in
    record {
      within = omega (arith, so_far.within);
      counted = omega (arith, back, c.count-calls.ensures.value);
      enough = omega (arith, c.count-calls.ensures.one, c.loop-calls-test.true);
      last = later_back c.args.steps.now c.loop-calls.place c.loop-calls.calls c.args.call c.loop-calls-test.true so_far.counted so_far.last;
    }
