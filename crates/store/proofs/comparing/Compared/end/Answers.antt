use Rattle.std.proofs.Common.{◌≢◌, length, drop, sym, ap, arith}
use Rattle.std.proofs.lemmas.Bool.{eqb-false}
use Rattle.std.proofs.lemmas.List.{length-drop, length-take}
use Rattle.dir_disk.specs.Moments.{files}
use Rattle.dir_disk.specs.State.{bytes_at}
use Rattle.store.proofs.ComparingLemmas.{longer}
use Rattle.store.proofs.comparing.Compared.end.Goals as goal

pub returns-clause-found : goal.returns-clause-found
returns-clause-found g c =
    λ tells text same.
    let bytes = bytes_at (files (g.D.Dir.told c.args.dir.now)) c.args.path.now in
    let place = c.args.self.now.place in
    let some : c.in_ok-piece.piece.len ≢ 0 = eqb-false c.in_ok-piece.piece.len 0 (sym c.if-is_empty.ensures) in
    longer bytes text c.args.self.now same (omega (arith, some, c.in_ok-piece.piece.ok.0, ap length (c.in_ok-piece.ensures.bytes tells), length-take 1 (drop place bytes), length-drop place bytes))
