use Rattle.std.proofs.Common.{not, ap, ◌∙◌, arith}
use Rattle.gimv_base.proofs.IdFields.{short_digits_write_an_id}
use Rattle.gimv_base.proofs.fields.is_id.Goals as goal

pub returns : goal.returns
returns c =
    ap not c.is_empty.ensures ∙ short_digits_write_an_id c.args.digits.now c.requires (let few = c.if-digits-gt-SAFE_DIGITS.false in omega arith)
