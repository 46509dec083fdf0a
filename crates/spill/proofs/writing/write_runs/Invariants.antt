use Rattle.std.proofs.Common.{◌≡◌}
use Rattle.dir_disk.specs.Moments.{Both, Through, files}
use Rattle.spill.specs.Chunks.{StandsBesideLists, StandsButLists}
use Rattle.spill.specs.Lines.{lists_of}
use Rattle.spill.proofs.WritingLemmas.{WrittenBelow}
use Rattle.spill.proofs.writing.write_runs.Given as goal

abbrev pub invariant-loop-entries : goal.invariant-loop-entries
invariant-loop-entries g l = record {
  part : l.part ≡ l.entries-index;
  steps : g.D.Dir.tells → Through (Both (StandsBesideLists l.folder l.flush (lists_of l.text l.parts) (files (g.D.Dir.told l.fn.dir)))) (g.D.Dir.told l.fn.dir) (g.D.Dir.told l.dir);
  others : g.D.Dir.tells → StandsButLists l.folder l.flush (lists_of l.text l.parts) (files (g.D.Dir.told l.fn.dir)) (files (g.D.Dir.told l.dir));
  written : g.D.Dir.tells → WrittenBelow l.folder l.flush (lists_of l.text l.parts) l.entries-index (files (g.D.Dir.told l.dir));
  lent : g.D.Dir.lent l.dir ≡ g.D.Dir.lent l.fn.dir;
  beside : g.D.Dir.beside l.dir ≡ g.D.Dir.beside l.fn.dir;
  later : g.D.Dir.faults l.dir ≡ g.D.Dir.faults l.fn.dir;
}
