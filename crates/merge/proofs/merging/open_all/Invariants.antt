use Rattle.std.proofs.Common.{◌≡◌, ◌≤◌, map, take}
use Rattle.dir_disk.specs.Moments.{Both, Through, files}
use Rattle.merge.specs.Runs.{lists_at}
use Rattle.merge.specs.Sources.{lefts}
use Rattle.merge.proofs.merging.open_all.Given as goal

abbrev pub invariant-loop-run : goal.invariant-loop-run
invariant-loop-run g l =
    let entry = files (g.D.Dir.told l.fn.dir) in
    record {
      paths : map (λ source. source.path) l.sources.items ≡ take l.run-index l.runs;
      lefts : g.D.Dir.tells → lefts entry l.sources.items ≡ lists_at entry (take l.run-index l.runs);
      stands : g.D.Dir.tells → Through (Both (λ state. state ≡ entry)) (g.D.Dir.told l.fn.dir) (g.D.Dir.told l.dir);
      lent : g.D.Dir.lent l.dir ≡ g.D.Dir.lent l.fn.dir;
      beside : g.D.Dir.beside l.dir ≡ g.D.Dir.beside l.fn.dir;
      later : g.D.Dir.faults l.dir ≡ g.D.Dir.faults l.fn.dir;
    }
