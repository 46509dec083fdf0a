use Rattle.std.proofs.Common.{◌≡◌, ◌+◌, ◌-◌, ap, sym, subst, length, drop, take, arith}
use Rattle.std.proofs.lemmas.List.{length-drop, length-take-le}
use Rattle.splits.specs.Copying.{IsFirstLf, IsLineEnd, HasNoLfBetween}
use Rattle.splits.proofs.StartLemmas.{StandsAt, none_found, first_found}
use Rattle.splits.proofs.copying.line_end.Goals as goal

pub returns-in_err-found : goal.returns-in_err-found
returns-in_err-found c =
    let piece = c.args.piece.now in
    let part = take (length piece - c.args.due) (drop c.args.due piece) in
    let len : length part ≡ length piece - c.args.due = length-take-le (length piece - c.args.due) (drop c.args.due piece) (omega (arith, length-drop c.args.due piece)) in
    let stands : StandsAt piece part c.args.due = record { is = ap (λ n. take n (drop c.args.due piece)) (sym len) } in
    let none : HasNoLfBetween piece c.args.due (length piece) = none_found piece part c.args.due (length piece) stands (omega (arith, c.if-due-piece.false)) c.in_err-found.ensures in
    subst (λ found. IsLineEnd piece c.args.due found) (sym c.from_residual.ensures) none

pub returns : goal.returns
returns c =
    let piece = c.args.piece.now in
    let part = take (length piece - c.args.due) (drop c.args.due piece) in
    let len : length part ≡ length piece - c.args.due = length-take-le (length piece - c.args.due) (drop c.args.due piece) (omega (arith, length-drop c.args.due piece)) in
    let stands : StandsAt piece part c.args.due = record { is = ap (λ n. take n (drop c.args.due piece)) (sym len) } in
    let found = c.in_ok-found.found in
    let last : c.args.due + found ≡ c.args.due + found + 1 - 1 = omega arith in
    (omega arith, subst (λ lf. IsFirstLf piece c.args.due lf) last (first_found piece part c.args.due found stands c.in_ok-found.ensures))
