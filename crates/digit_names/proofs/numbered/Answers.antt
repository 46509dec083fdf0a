use Rattle.std.proofs.Common.{◌≡◌, ◌+◌, ◌≤◌, ◌++◌, ◌∙◌, ℕ, List, length, ap, sym, subst, arith}
use Rattle.peg_base.specs.NameText.{IsName}
use Rattle.digit_names.specs.Digits.{digits}
use Rattle.digit_names.proofs.DigitLemmas.{length-digits, digits_pass, name_from_front}
use Rattle.digit_names.proofs.numbered.Goals as goal

pub unwrap-requires : goal.unwrap-requires
unwrap-requires c =
    let front = c.args.front.now in
    let text : c.deref.result.now ≡ front ++ digits c.args.width c.args.number = c.deref.ensures.value ∙ c.in_ok-push_digits.ensures ∙ ap (λ (t : List ℕ). t ++ digits c.args.width c.args.number) c.in_ok-text.ensures.items in
    let long = length-digits c.args.width c.args.number in
    let short : length front + length (digits c.args.width c.args.number) ≤ 64 = omega (arith, long, c.requires.short) in
    c.in_ok-name.ensures.grammar.1 (subst IsName (sym text) (name_from_front front (digits c.args.width c.args.number) c.requires.front (digits_pass c.args.width c.args.number) short))
