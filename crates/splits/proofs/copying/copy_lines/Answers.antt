use Rattle.dir_disk.proofs.Keeping.{stands_then}
use Rattle.splits.proofs.copying.copy_lines.Goals as goal

pub returns-clause-stands : goal.returns-clause-stands
returns-clause-stands g c =
    λ tells.
    stands_then c.args.out.now (g.D.Dir.told c.args.dir.now) (g.D.Dir.told c.copy_pieces.new.dir) (g.D.Dir.told c.end_last.new.dir) (c.copy_pieces.ensures.stands tells) (c.end_last.ensures.stands tells)
