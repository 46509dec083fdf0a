use Rattle.std.proofs.Common.{◌≡◌, ◌-◌, ◌≤◌, ◌∙◌, ap, sym, subst, length, take, arith}
use Rattle.std.specs.Prelude.{unwrap_or, vec_len}
use Rattle.std.proofs.lemmas.Bool.{eqb-true, eqb-false}
use Rattle.peg_base.proofs.Under.{under-refl}
use Rattle.dir_disk.specs.Moments.{Told, files}
use Rattle.dir_disk.specs.State.{after_append, bytes_at}
use Rattle.dir_disk.proofs.Keeping.{append_stands, look_stands, stands_then}
use Rattle.splits.specs.Copying.{HasCopied, IsLineEnd}
use Rattle.splits.proofs.StartLemmas.{read_end}
use Rattle.splits.proofs.CopyLemmas.{copying_ended, piece_copied}
use Rattle.splits.proofs.copying.copy_piece.Goals as goal

pub returns-then-is_empty-clause-goes_on : goal.returns-then-is_empty-clause-goes_on
returns-then-is_empty-clause-goes_on g c =
    λ tells.
    let path = c.args.path.now in
    let out = c.args.out.now in
    let progress = c.args.progress.now in
    let before = files (g.D.Dir.told c.args.dir.now) in
    let after = files (g.D.Dir.told c.read.new.self) in
    let same : after ≡ before = (c.in_ok-piece.ensures.call tells).ok.1 in
    let none : length c.in_ok-piece.piece.items ≡ 0 = omega (arith, c.in_ok-piece.piece.ok, eqb-true _ 0 (sym c.if-is_empty.ensures)) in
    let ended : length (bytes_at before path) ≤ progress.place = read_end (bytes_at before path) c.in_ok-piece.piece.items progress.place 65536 (c.in_ok-piece.ensures.bytes tells) (omega arith) none in
    subst (λ s. HasCopied path out s progress) (sym same) (copying_ended path out before progress (c.requires.copying tells) ended)

pub returns-clause-goes_on : goal.returns-clause-goes_on
returns-clause-goes_on g c =
    λ tells.
    let path = c.args.path.now in
    let out = c.args.out.now in
    let piece = c.in_ok-piece.piece.items in
    let part = take c.unwrap_or.result c.deref-2.result.now in
    let before = files (g.D.Dir.told c.args.dir.now) in
    let middle = files (g.D.Dir.told c.read.new.self) in
    let after = files (g.D.Dir.told c.append.new.self) in
    let end = c.line_end-end.result in
    let same : middle ≡ before = (c.in_ok-piece.ensures.call tells).ok.1 in
    let is : after ≡ after_append out part before = (c.in_ok-append.ensures.call tells).ok.1 ∙ ap (after_append out part) same in
    let len : length piece ≡ vec_len c.in_ok-piece.piece = sym (ap length c.deref-2.ensures.value) ∙ c.deref-2.ensures.len in
    let some : 1 ≤ length piece = omega (arith, len, eqb-false _ 0 (sym c.if-is_empty.ensures)) in
    let ends : IsLineEnd piece (c.args.progress.now.end - c.args.progress.now.place) end = subst (λ l. IsLineEnd l (c.args.progress.now.end - c.args.progress.now.place) end) c.deref.ensures.value (subst (λ due. IsLineEnd c.deref.result.now due end) c.saturating_sub.ensures c.line_end-end.ensures) in
    let front : part ≡ take (unwrap_or end (length piece)) piece = ap (take c.unwrap_or.result) c.deref-2.ensures.value ∙ ap (λ n. take n piece) (c.unwrap_or.ensures ∙ ap (unwrap_or end) (c.len.ensures ∙ sym len)) in
    piece_copied path out before after piece part c.args.progress.now c.pass.new.self 65536 end c.is_none.result (c.requires.copying tells) (c.in_ok-piece.ensures.bytes tells) some ends front is (record { from = c.pass.ensures.from; end = c.pass.ensures.end; place = c.pass.ensures.place; lines = c.pass.ensures.lines; unended = c.pass.ensures.unended }) c.is_none.ensures

pub returns-clause-stands : goal.returns-clause-stands
returns-clause-stands g c =
    λ tells.
    let path = c.args.path.now in
    let out = c.args.out.now in
    let part = take c.unwrap_or.result c.deref-2.result.now in
    let a : Told = g.D.Dir.told c.args.dir.now in
    let b : Told = g.D.Dir.told c.read.new.self in
    let d : Told = g.D.Dir.told c.append.new.self in
    stands_then out a b d (look_stands out path a b c.read.result (c.read.ensures.call tells) (λ q. g.met.D.Dir.now_allowed c.args.dir.now q tells)) (append_stands out out part b d c.append.result (under-refl out) (c.append.ensures.call tells) (λ q. g.met.D.Dir.now_allowed c.read.new.self q tells))
