use Rattle.std.proofs.Common.{◌≡◌, ◌≤◌, ◌+◌, ◌-◌, ◌^◌, ◌++◌, List, drop, length}
use Rattle.peg_text.specs.Records.{HasNoLf, records_of}
use Rattle.dir_disk.specs.Moments.{Both, IsFresh, Through, files}
use Rattle.dir_disk.specs.State.{bytes_at}
use Rattle.store.specs.Parts.{Record}
use Rattle.store.specs.Tallies.{HasTallied}
use Rattle.store.proofs.tally.add_pieces.Given as goal

abbrev pub invariant-loop-place : goal.invariant-loop-place
invariant-loop-place g l =
    let bytes = bytes_at (files (g.D.Dir.told l.fn.dir)) l.path in
    record {
      unbroken : HasNoLf l.held;
      few : l.line + length l.held ≤ l.place + 1;
      small : l.place ≤ 2 ^ 50 + 65536;
      added : g.D.Dir.tells → (before : List Record) → g.T.Tally.tallies l.fn.tally before → HasTallied g.T.Tally.is_good (g.T.Tally.tallies l.tally) before l.part (records_of bytes) (l.held ++ drop l.place bytes) l.line;
      stands : g.D.Dir.tells → Through (Both (λ state. state ≡ files (g.D.Dir.told l.fn.dir))) (g.D.Dir.told l.fn.dir) (g.D.Dir.told l.dir);
      fresh : g.D.Dir.tells → IsFresh (g.D.Dir.told l.fn.dir) → IsFresh (g.D.Dir.told l.dir);
      lent : g.D.Dir.lent l.dir ≡ g.D.Dir.lent l.fn.dir;
      beside : g.D.Dir.beside l.dir ≡ g.D.Dir.beside l.fn.dir;
      later : g.D.Dir.faults l.dir ≡ g.D.Dir.faults l.fn.dir;
    }

abbrev pub decreases-loop-place : goal.decreases-loop-place
decreases-loop-place g l = 2 ^ 50 - l.place
