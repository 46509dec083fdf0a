use Rattle.std.proofs.Common.{◌≡◌}
use Rattle.dir_disk.specs.Moments.{Both, Through, files}
use Rattle.committer.specs.Commits.{IsUnsealed, IsMovedUpTo}
use Rattle.committer.proofs.commits.move_parts.Given as goal

abbrev pub invariant-loop-part : goal.invariant-loop-part
invariant-loop-part g l =
    record {
      steps : g.D.Dir.tells → Through (Both (IsUnsealed l.folder (files (g.D.Dir.told l.fn.dir)))) (g.D.Dir.told l.fn.dir) (g.D.Dir.told l.dir);
      moved : g.D.Dir.tells → IsMovedUpTo l.folder l.part (files (g.D.Dir.told l.fn.dir)) (files (g.D.Dir.told l.dir));
      lent : g.D.Dir.lent l.dir ≡ g.D.Dir.lent l.fn.dir;
      beside : g.D.Dir.beside l.dir ≡ g.D.Dir.beside l.fn.dir;
      later : g.D.Dir.faults l.dir ≡ g.D.Dir.faults l.fn.dir;
    }
