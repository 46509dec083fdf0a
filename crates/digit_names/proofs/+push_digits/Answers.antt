use Rattle.std.proofs.Common.{ℕ, ◌+◌, ◌-◌, ◌/◌, ◌%◌, List, [], ◌∷◌, ◌++◌, ◌∙◌, sym, ap, append_assoc, arith}
use Rattle.std.proofs.lemmas.List.{append-nil}
use Rattle.digit_names.specs.Digits.{digits}
use Rattle.digit_names.proofs.DigitLemmas.{digits_last, digits_none}
use Rattle.digit_names.proofs.+push_digits.Goals as goal

pub returns-in_ok-push : goal.returns-in_ok-push
returns-in_ok-push t c =
    let text = c.args.text.now.items in
    let last = (48 + c.args.number % 10) ∷ [] in
    c.in_ok-push.ensures.items ∙ ap (λ (front : List ℕ). front ++ last) c.in_ok-push_digits.ensures ∙ append_assoc text (digits (c.args.width - 1) (c.args.number / 10)) last ∙ ap (λ (ds : List ℕ). text ++ ds) (sym (digits_last c.args.width c.args.number c.if-width-gt0.true))

pub returns-else-width-gt0 : goal.returns-else-width-gt0
returns-else-width-gt0 t c =
    let text = c.args.text.now.items in
    sym (ap (λ (ds : List ℕ). text ++ ds) (digits_none c.args.width c.args.number (omega (arith, c.if-width-gt0.false))) ∙ append-nil text)
