use Rattle.std.proofs.Common.{◌≡◌}
use Rattle.store.specs.Sealed.{IsGathering, nodes_text}
use Rattle.store.proofs.nodes.write_nodes.Given as goal

abbrev pub invariant-loop-node : goal.invariant-loop-node
invariant-loop-node g l =
    record {
      folder : l.sealing ≡ l.folder;
      gathering : g.D.Dir.tells → IsGathering l.folder (nodes_text l.node) l.held.items (g.D.Dir.told l.fn.dir) (g.D.Dir.told l.dir);
      lent : g.D.Dir.lent l.dir ≡ g.D.Dir.lent l.fn.dir;
      beside : g.D.Dir.beside l.dir ≡ g.D.Dir.beside l.fn.dir;
      later : g.D.Dir.faults l.dir ≡ g.D.Dir.faults l.fn.dir;
    }
