use Rattle.std.proofs.Common.{◌≡◌, ◌+◌, ◌∙◌, ◌≤◌, ap, sym, subst, length, take, drop, None, Some, arith, rules}
use Rattle.std.proofs.lemmas.Bool.{eqb-true}
use Rattle.dir_disk.specs.Moments.{files}
use Rattle.memchr.specs.Find.{IsFirstByte, is_byte}
use Rattle.dir_disk.specs.State.{bytes_at}
use Rattle.splits.proofs.StartLemmas.{StandsAt, stands_whole, read_end, none_found, first_found, first_up_to, none_up_to, searched_more, looked_more, read_before}
use Rattle.splits.proofs.start.line_end.Goals as goal

pub returns-in_err-piece-clause-stands : goal.returns-in_err-piece-clause-stands
returns-in_err-piece-clause-stands g c =
    λ tells.
    looked_more c.args.path.now (g.D.Dir.told c.args.dir.now) (g.D.Dir.told c.loop-place.dir) (g.D.Dir.told c.read.new.self) c.read.result (c.loop-place.invariant.stands tells) (c.read.ensures.call tells) (λ q. g.met.D.Dir.now_allowed c.loop-place.dir q tells)

pub returns-in-Some-clause-found : goal.returns-in-Some-clause-found
returns-in-Some-clause-found g c =
    λ tells.
    let bytes = bytes_at (files (g.D.Dir.told c.args.dir.now)) c.args.path.now in
    let place = c.loop-place.place in
    let piece = c.in_ok-piece.piece.items in
    let read : piece ≡ take c.min.result (drop place bytes) = read_before c.args.path.now (g.D.Dir.told c.args.dir.now) (g.D.Dir.told c.loop-place.dir) piece place c.min.result (c.loop-place.invariant.stands tells) (c.in_ok-piece.ensures.bytes tells) in
    let stands : StandsAt bytes piece place = stands_whole bytes piece place c.min.result read in
    let first : IsFirstByte (is_byte 10) piece (Some c.in-Some.found) = subst (λ hay. IsFirstByte (is_byte 10) hay (Some c.in-Some.found)) c.deref.ensures.value c.in-Some.ensures in
    first_up_to bytes c.args.from c.args.end place (place + c.in-Some.found) (place + c.in-Some.found + 1) (c.loop-place.invariant.unbroken tells) c.loop-place.invariant.ordered (first_found bytes piece place c.in-Some.found stands first) (omega (arith, first.0.high, c.in_ok-piece.ensures.few, c.min.ensures, c.from.ensures)) (omega arith)

pub returns-then-is_empty-clause-found : goal.returns-then-is_empty-clause-found
returns-then-is_empty-clause-found g c =
    λ tells.
    let bytes = bytes_at (files (g.D.Dir.told c.args.dir.now)) c.args.path.now in
    let place = c.loop-place.place in
    let piece = c.in_ok-piece.piece.items in
    let read : piece ≡ take c.min.result (drop place bytes) = read_before c.args.path.now (g.D.Dir.told c.args.dir.now) (g.D.Dir.told c.loop-place.dir) piece place c.min.result (c.loop-place.invariant.stands tells) (c.in_ok-piece.ensures.bytes tells) in
    let none : length piece ≡ 0 = sym (ap length c.deref.ensures.value) ∙ c.deref.ensures.len ∙ eqb-true _ 0 (sym c.if-is_empty.ensures) in
    let ended : length bytes ≤ place = read_end bytes piece place c.min.result read (omega (arith, c.min.ensures, c.from.ensures)) none in
    none_up_to bytes c.args.from c.args.end place (c.loop-place.invariant.unbroken tells) (omega arith)

pub loop-place-preserved : goal.loop-place-preserved
loop-place-preserved g c =
    record {
      ordered = omega (arith, c.loop-place.invariant.ordered);
      unbroken =
          λ tells.
          let bytes = bytes_at (files (g.D.Dir.told c.args.dir.now)) c.args.path.now in
          let place = c.loop-place.place in
          let piece = c.in_ok-piece.piece.items in
          let read : piece ≡ take c.min.result (drop place bytes) = read_before c.args.path.now (g.D.Dir.told c.args.dir.now) (g.D.Dir.told c.loop-place.dir) piece place c.min.result (c.loop-place.invariant.stands tells) (c.in_ok-piece.ensures.bytes tells) in
          let stands : StandsAt bytes piece place = stands_whole bytes piece place c.min.result read in
          let none : IsFirstByte (is_byte 10) piece None = subst (λ hay. IsFirstByte (is_byte 10) hay None) c.deref.ensures.value c.in_default.ensures in
          searched_more bytes c.args.from place (place + c.len.result) (c.loop-place.invariant.unbroken tells) (none_found bytes piece place (place + c.len.result) stands (ap (λ n. place + n) (c.len.ensures ∙ sym c.deref.ensures.len ∙ ap length c.deref.ensures.value)) none);
      stands = λ tells. looked_more c.args.path.now (g.D.Dir.told c.args.dir.now) (g.D.Dir.told c.loop-place.dir) (g.D.Dir.told c.read.new.self) c.read.result (c.loop-place.invariant.stands tells) (c.read.ensures.call tells) (λ q. g.met.D.Dir.now_allowed c.loop-place.dir q tells);
      lent = search rules;
      beside = search rules;
      later = search rules;
    }
