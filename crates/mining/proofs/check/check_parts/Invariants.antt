use Rattle.std.proofs.Common.{◌≡◌, take}
use Rattle.std.specs.List.{All}
use Rattle.dir_disk.specs.Moments.{Both, Through, files}
use Rattle.dir_disk.specs.Calls.{HasFile}
use Rattle.mining.specs.Making.{IsAsAt}
use Rattle.mining.proofs.check.check_parts.Given as goal

abbrev pub invariant-loop-path : goal.invariant-loop-path
invariant-loop-path g l =
    record {
      lent : g.D.Dir.lent l.dir ≡ g.D.Dir.lent l.fn.dir;
      faults : g.D.Dir.faults l.dir ≡ g.D.Dir.faults l.fn.dir;
      beside : g.D.Dir.beside l.dir ≡ g.D.Dir.beside l.fn.dir;
      stands : g.D.Dir.tells → Through (Both (IsAsAt (files (g.D.Dir.told l.fn.dir)))) (g.D.Dir.told l.fn.dir) (g.D.Dir.told l.dir);
      there : g.D.Dir.tells → All (HasFile (files (g.D.Dir.told l.fn.dir))) (take l.path-index l.paths);
    }
