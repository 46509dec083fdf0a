use Rattle.std.proofs.Common.{◌≡◌, ◌-◌, ◌^◌, ℕ, List, []}
use Rattle.dir_disk.specs.Moments.{Told, files}
use Rattle.edge_text.specs.Feeding.{taken_of}
use Rattle.committer.specs.Folders.{IsBegun}
use Rattle.store.specs.Ingesting.{HasFed}
use Rattle.store.specs.Sealed.{IsWriting}
use Rattle.store.proofs.writing.write_all.Given as goal

abbrev pub invariant-pieces : goal.invariant-pieces
invariant-pieces g l =
    record {
      text : List ℕ;
      fed : HasFed l.nodes (g.E.Source.left l.fn.source) (g.E.Source.left l.source) l.reader text;
      folder : l.sealing ≡ l.fn.sealing;
      begun : g.D.Dir.tells → IsBegun l.fn.sealing (files (g.D.Dir.told l.dir));
      writing : g.D.Dir.tells → (entry : Told) → IsWriting l.fn.sealing [] entry (g.D.Dir.told l.fn.dir) → IsWriting l.fn.sealing text entry (g.D.Dir.told l.dir);
      lent : g.D.Dir.lent l.dir ≡ g.D.Dir.lent l.fn.dir;
      beside : g.D.Dir.beside l.dir ≡ g.D.Dir.beside l.fn.dir;
      later : g.D.Dir.faults l.dir ≡ g.D.Dir.faults l.fn.dir;
      steady : g.E.Source.faults l.source ≡ g.E.Source.faults l.fn.source;
    }

abbrev pub decreases-pieces : goal.decreases-pieces
decreases-pieces g l = 2 ^ 36 - taken_of l.reader
