use Rattle.std.proofs.Common.{◌≡◌, ◌-◌, ◌^◌, ◌<◌, ◌≤◌}
use Rattle.dir_disk.specs.Keeping.{StandsBut}
use Rattle.dir_disk.specs.Moments.{Both, Through, files}
use Rattle.dir_disk.specs.State.{StandsOutside}
use Rattle.splits.specs.Copying.{IsCopying}
use Rattle.splits.proofs.copying.copy_pieces.Given as goal

abbrev pub invariant-loop-progress : goal.invariant-loop-progress
invariant-loop-progress g l =
    record {
      from : l.progress.from ≡ l.fn.progress.from;
      end : l.progress.end ≡ l.fn.progress.end;
      few : l.progress.lines ≤ l.progress.place;
      small : l.progress.lines < 2 ^ 63;
      copying : g.D.Dir.tells → IsCopying l.path l.out (files (g.D.Dir.told l.dir)) l.progress;
      others : g.D.Dir.tells → StandsBut l.out (files (g.D.Dir.told l.fn.dir)) (files (g.D.Dir.told l.dir));
      stands : g.D.Dir.tells → Through (Both (StandsOutside l.out (files (g.D.Dir.told l.fn.dir)))) (g.D.Dir.told l.fn.dir) (g.D.Dir.told l.dir);
      lent : g.D.Dir.lent l.dir ≡ g.D.Dir.lent l.fn.dir;
      beside : g.D.Dir.beside l.dir ≡ g.D.Dir.beside l.fn.dir;
      later : g.D.Dir.faults l.dir ≡ g.D.Dir.faults l.fn.dir;
    }

abbrev pub decreases-loop-progress : goal.decreases-loop-progress
decreases-loop-progress g l = 2 ^ 50 - l.progress.place
