use Rattle.std.proofs.Common.{◌≡◌, ◌≤◌, length}
use Rattle.dir_disk.specs.Moments.{Both, Through, files}
use Rattle.merge.specs.Runs.{IsAfterPasses, StandsBesidePasses, passes, queue_of}
use Rattle.merge.proofs.passes.run_passes.Given as goal

abbrev pub invariant-loop-number : goal.invariant-loop-number
invariant-loop-number g l =
    let entry = files (g.D.Dir.told l.fn.dir) in
    record {
      queue : l.queue.items ≡ queue_of l.runs l.scratch l.number;
      after : g.D.Dir.tells → IsAfterPasses l.runs l.scratch l.number entry (files (g.D.Dir.told l.dir));
      steps : g.D.Dir.tells → Through (Both (StandsBesidePasses l.scratch (passes (length l.runs)) entry)) (g.D.Dir.told l.fn.dir) (g.D.Dir.told l.dir);
      lent : g.D.Dir.lent l.dir ≡ g.D.Dir.lent l.fn.dir;
      beside : g.D.Dir.beside l.dir ≡ g.D.Dir.beside l.fn.dir;
      later : g.D.Dir.faults l.dir ≡ g.D.Dir.faults l.fn.dir;
    }
