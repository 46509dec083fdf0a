use Rattle.std.proofs.Common.{◌≡◌, ◌++◌, ◌-◌, ◌^◌, ◌≤◌, drop}
use Rattle.dir_disk.specs.Moments.{Both, Through, files}
use Rattle.dir_disk.specs.State.{bytes_at}
use Rattle.merge.specs.Sources.{untaken}
use Rattle.merge.proofs.source.Source.whole_line.Given as goal

abbrev pub invariant-loop-alloc : goal.invariant-loop-alloc
invariant-loop-alloc g l =
    let entry = files (g.D.Dir.told l.fn.dir) in
    record {
      path : l.self.path ≡ l.fn.self.path;
      running : l.self.ended ≡ l.fn.self.ended;
      held : g.D.Dir.tells → l.self.lines.rest ++ drop l.self.place (bytes_at entry l.fn.self.path) ≡ untaken entry l.fn.self;
      stands : g.D.Dir.tells → Through (Both (λ state. state ≡ files (g.D.Dir.told l.fn.dir))) (g.D.Dir.told l.fn.dir) (g.D.Dir.told l.dir);
      lent : g.D.Dir.lent l.dir ≡ g.D.Dir.lent l.fn.dir;
      beside : g.D.Dir.beside l.dir ≡ g.D.Dir.beside l.fn.dir;
      later : g.D.Dir.faults l.dir ≡ g.D.Dir.faults l.fn.dir;
    }

abbrev pub decreases-loop-alloc : goal.decreases-loop-alloc
decreases-loop-alloc g l = 2 ^ 51 - l.self.place
