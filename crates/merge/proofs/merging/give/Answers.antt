use Rattle.std.proofs.Common.{◌≡◌, ◌∙◌, ◌++◌, ap, sym, subst}
use Rattle.peg_text.specs.Pairs.{pair_line}
use Rattle.dir_disk.specs.Calls.{CanAppend}
use Rattle.dir_disk.specs.State.{State}
use Rattle.dir_disk.specs.Moments.{Told, files}
use Rattle.dir_disk.proofs.Keeping.{stands_then}
use Rattle.pieces.specs.Pieces.{gathered}
use Rattle.merge.proofs.SourceLemmas.{same_state}
use Rattle.pieces.proofs.PieceLemmas.{gathered_more}
use Rattle.merge.proofs.WriteLemmas.{on_ok, same_stands}
use Rattle.merge.proofs.merging.give.Goals as goal

pub returns-clause-can : goal.returns-clause-can
returns-clause-can g c =
    λ tells.
    let same = same_state (g.D.Dir.told c.send_piece.new.dir) (g.D.Dir.told c.advance.new.dir) (c.advance.ensures.stands tells) in
    on_ok c.advance.result (subst (λ (s : State). CanAppend s c.args.out.now) (sym same) (c.in_ok-send_piece.ensures.can tells))

pub returns-clause-sent : goal.returns-clause-sent
returns-clause-sent g c =
    λ tells.
    let out = c.args.out.now in
    let entry = files (g.D.Dir.told c.args.dir.now) in
    let head = c.args.source.now.lines.head in
    let same = same_state (g.D.Dir.told c.send_piece.new.dir) (g.D.Dir.told c.advance.new.dir) (c.advance.ensures.stands tells) in
    on_ok c.advance.result (ap (λ (s : State). gathered out s c.send_piece.new.piece.items) same ∙ c.in_ok-send_piece.ensures.sent tells ∙ ap (gathered out entry) c.in_ok-write.ensures ∙ gathered_more out entry c.args.piece.now.items (pair_line head.0 head.1))

pub returns-clause-others : goal.returns-clause-others
returns-clause-others g c =
    λ tells.
    let same = same_state (g.D.Dir.told c.send_piece.new.dir) (g.D.Dir.told c.advance.new.dir) (c.advance.ensures.stands tells) in
    on_ok c.advance.result (λ q other. ap (λ (s : State). s q) same ∙ c.in_ok-send_piece.ensures.others tells q other)

pub returns-clause-stands : goal.returns-clause-stands
returns-clause-stands g c =
    λ tells.
    let out = c.args.out.now in
    let a : Told = g.D.Dir.told c.args.dir.now in
    let b : Told = g.D.Dir.told c.send_piece.new.dir in
    let d : Told = g.D.Dir.told c.advance.new.dir in
    stands_then out a b d (c.send_piece.ensures.stands tells) (same_stands out b d (c.advance.ensures.stands tells))
