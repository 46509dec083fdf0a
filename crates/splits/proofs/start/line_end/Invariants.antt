use Rattle.std.proofs.Common.{◌≡◌, ◌-◌, ◌≤◌}
use Rattle.dir_disk.specs.Moments.{Both, Through, files}
use Rattle.dir_disk.specs.State.{bytes_at}
use Rattle.splits.specs.Copying.{HasNoLfBetween}
use Rattle.splits.proofs.start.line_end.Given as goal

abbrev pub invariant-loop-place : goal.invariant-loop-place
invariant-loop-place g l =
    record {
      ordered : l.from ≤ l.place;
      unbroken : g.D.Dir.tells → HasNoLfBetween (bytes_at (files (g.D.Dir.told l.fn.dir)) l.path) l.from l.place;
      stands : g.D.Dir.tells → Through (Both (λ state. state ≡ files (g.D.Dir.told l.fn.dir))) (g.D.Dir.told l.fn.dir) (g.D.Dir.told l.dir);
      lent : g.D.Dir.lent l.dir ≡ g.D.Dir.lent l.fn.dir;
      beside : g.D.Dir.beside l.dir ≡ g.D.Dir.beside l.fn.dir;
      later : g.D.Dir.faults l.dir ≡ g.D.Dir.faults l.fn.dir;
    }

abbrev pub decreases-loop-place : goal.decreases-loop-place
decreases-loop-place g l = l.end - l.place
