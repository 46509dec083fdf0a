use Rattle.std.proofs.Common.{◌≡◌, ◌-◌, ◌^◌, ℕ, List}
use Rattle.dir_disk.specs.Moments.{Both, Through, files}
use Rattle.dir_disk.specs.State.{bytes_at}
use Rattle.edge_text.specs.Feeding.{taken_of}
use Rattle.store.specs.Comparing.{IsCounted, IsSame}
use Rattle.store.specs.Ingesting.{HasFed}
use Rattle.store.proofs.checking.check_edges.Given as goal

abbrev pub invariant-pieces : goal.invariant-pieces
invariant-pieces g l =
    record {
      text : List ℕ;
      fed : HasFed l.nodes (g.E.Source.left l.fn.source) (g.E.Source.left l.source) l.reader text;
      same : g.D.Dir.tells → IsSame (bytes_at (files (g.D.Dir.told l.fn.dir)) l.path) text l.compared;
      counted : IsCounted l.compared;
      stands : g.D.Dir.tells → Through (Both (λ state. state ≡ files (g.D.Dir.told l.fn.dir))) (g.D.Dir.told l.fn.dir) (g.D.Dir.told l.dir);
      lent : g.D.Dir.lent l.dir ≡ g.D.Dir.lent l.fn.dir;
      beside : g.D.Dir.beside l.dir ≡ g.D.Dir.beside l.fn.dir;
      later : g.D.Dir.faults l.dir ≡ g.D.Dir.faults l.fn.dir;
      steady : g.E.Source.faults l.source ≡ g.E.Source.faults l.fn.source;
    }

abbrev pub decreases-pieces : goal.decreases-pieces
decreases-pieces g l = 2 ^ 36 - taken_of l.reader
