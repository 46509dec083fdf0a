use Rattle.std.proofs.Common.{◌≡◌, ◌≢◌, length, sym, ap, ◌∙◌, arith}
use Rattle.std.specs.Char.{is_ascii_digit}
use Rattle.std.specs.List.{prefix_len}
use Rattle.std.proofs.lemmas.Bool.{ne_eqb}
use Rattle.gimv_base.proofs.IdFields.{all_digits, no_id_with_others}
use Rattle.gimv_base.proofs.fields.is_id_text.Goals as goal

pub is_id-requires : goal.is_id-requires
is_id-requires c = all_digits c.args.text.now (sym c.if-leading_digits-text.true ∙ c.leading_digits.ensures)

pub returns-else-leading_digits-text : goal.returns-else-leading_digits-text
returns-else-leading_digits-text c =
    let apart = c.if-leading_digits-text.false in
    let others : length c.args.text.now ≢ prefix_len is_ascii_digit c.args.text.now = λ is. apart (c.leading_digits.ensures ∙ sym is) in
    ne_eqb _ _ apart ∙ sym (no_id_with_others c.args.text.now others)
