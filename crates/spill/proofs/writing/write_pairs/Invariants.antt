use Rattle.std.proofs.Common.{◌≡◌, take}
use Rattle.dir_disk.specs.Calls.{CanAppend}
use Rattle.dir_disk.specs.Keeping.{StandsBut}
use Rattle.dir_disk.specs.Moments.{Both, Through, files}
use Rattle.dir_disk.specs.State.{StandsOutside}
use Rattle.pairs.specs.Pairs.{pairs_text}
use Rattle.pieces.specs.Pieces.{gathered}
use Rattle.spill.specs.Lines.{entry_pairs}
use Rattle.spill.proofs.writing.write_pairs.Given as goal

abbrev pub invariant-loop-entry : goal.invariant-loop-entry
invariant-loop-entry g l = record {
  steps : g.D.Dir.tells → Through (Both (StandsOutside l.path (files (g.D.Dir.told l.fn.dir)))) (g.D.Dir.told l.fn.dir) (g.D.Dir.told l.dir);
  can : g.D.Dir.tells → CanAppend (files (g.D.Dir.told l.dir)) l.path;
  others : g.D.Dir.tells → StandsBut l.path (files (g.D.Dir.told l.fn.dir)) (files (g.D.Dir.told l.dir));
  sent : g.D.Dir.tells → gathered l.path (files (g.D.Dir.told l.dir)) l.piece.items ≡ pairs_text (take l.entry-index (entry_pairs l.text l.entries));
  lent : g.D.Dir.lent l.dir ≡ g.D.Dir.lent l.fn.dir;
  beside : g.D.Dir.beside l.dir ≡ g.D.Dir.beside l.fn.dir;
  later : g.D.Dir.faults l.dir ≡ g.D.Dir.faults l.fn.dir;
}
