use Rattle.std.proofs.Common.{◌≡◌, ◌≤◌, ◌<◌, ℕ}
use Rattle.dir_disk.specs.Moments.{Both, IsFresh, Through, files}
use Rattle.store.specs.Parts.{IsGood, records_below}
use Rattle.store.proofs.tally.add_parts.Given as goal

abbrev pub invariant-loop-part : goal.invariant-loop-part
invariant-loop-part g l =
    record {
      tallied : g.D.Dir.tells → g.T.Tally.tallies l.tally (records_below (files (g.D.Dir.told l.fn.dir)) l.folder l.part);
      good : g.D.Dir.tells → (other : ℕ) → other < l.part → IsGood g.T.Tally.is_good (files (g.D.Dir.told l.fn.dir)) l.folder other;
      stands : g.D.Dir.tells → Through (Both (λ state. state ≡ files (g.D.Dir.told l.fn.dir))) (g.D.Dir.told l.fn.dir) (g.D.Dir.told l.dir);
      fresh : g.D.Dir.tells → 1 ≤ l.part → IsFresh (g.D.Dir.told l.dir);
      lent : g.D.Dir.lent l.dir ≡ g.D.Dir.lent l.fn.dir;
      beside : g.D.Dir.beside l.dir ≡ g.D.Dir.beside l.fn.dir;
      later : g.D.Dir.faults l.dir ≡ g.D.Dir.faults l.fn.dir;
    }
