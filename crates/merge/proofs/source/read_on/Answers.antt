use Rattle.std.proofs.Common.{◌≡◌, ◌∙◌, ◌++◌, ap, sym, length, arith}
use Rattle.std.proofs.lemmas.Bool.{eqb-true}
use Rattle.dir_disk.specs.Moments.{files}
use Rattle.dir_disk.specs.State.{bytes_at}
use Rattle.merge.proofs.SourceLemmas.{read_held, read_ended}
use Rattle.merge.proofs.source.read_on.Goals as goal

pub returns-then-is_empty-clause-ended : goal.returns-then-is_empty-clause-ended
returns-then-is_empty-clause-ended g c =
    λ tells.
    let bytes = bytes_at (files (g.D.Dir.told c.args.dir.now)) c.args.path.now in
    let none : length c.in_ok-piece.piece.items ≡ 0 = omega (arith, c.in_ok-piece.piece.ok, eqb-true _ 0 (sym c.if-is_empty.ensures)) in
    read_ended bytes c.in_ok-piece.piece.items c.args.place.now 65536 (c.in_ok-piece.ensures.bytes tells) (omega arith) none

pub returns-clause-held : goal.returns-clause-held
returns-clause-held g c =
    λ tells.
    let bytes = bytes_at (files (g.D.Dir.told c.args.dir.now)) c.args.path.now in
    let piece = c.in_ok-piece.piece.items in
    let fed = c.in_ok-feed.ensures ∙ ap (λ l. c.args.held.now.rest ++ l) c.deref.ensures.value in
    let long : c.len.result ≡ length piece = omega (arith, c.in_ok-piece.piece.ok, c.len.ensures) in
    read_held bytes c.args.held.now.rest piece c.feed.new.self.rest c.args.place.now 65536 c.len.result (c.in_ok-piece.ensures.bytes tells) fed long
