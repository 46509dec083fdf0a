use Rattle.std.proofs.Common.{◌≡◌, ◌<◌, ℕ}
use Rattle.dir_disk.specs.Calls.{HasFile}
use Rattle.dir_disk.specs.Moments.{Both, Through, files}
use Rattle.committer.specs.Paths.{part_of}
use Rattle.store.proofs.missing.missing_part.Given as goal

abbrev pub invariant-loop-part : goal.invariant-loop-part
invariant-loop-part g l =
    record {
      there : g.D.Dir.tells → (other : ℕ) → other < l.part → HasFile (files (g.D.Dir.told l.fn.dir)) (part_of l.folder other);
      stands : g.D.Dir.tells → Through (Both (λ state. state ≡ files (g.D.Dir.told l.fn.dir))) (g.D.Dir.told l.fn.dir) (g.D.Dir.told l.dir);
      lent : g.D.Dir.lent l.dir ≡ g.D.Dir.lent l.fn.dir;
      beside : g.D.Dir.beside l.dir ≡ g.D.Dir.beside l.fn.dir;
      later : g.D.Dir.faults l.dir ≡ g.D.Dir.faults l.fn.dir;
    }
