use Rattle.std.proofs.Common.{◌≡◌, List, ℕ, subst}
use Rattle.std.proofs.lemmas.List.{append-nil}
use Rattle.std.specs.Prelude.{IfOk}
use Rattle.digit_names.specs.Digits.{digits}
use Rattle.mining.proofs.place.plain.Goals as goal

pub returns : goal.returns
unfolding digits
returns c = subst (λ (text : List ℕ). IfOk c.numbered.result (λ name. name ≡ text)) (append-nil c.args.text.now) c.numbered.ensures
