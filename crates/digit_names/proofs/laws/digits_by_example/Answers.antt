use Rattle.digit_names.proofs.DigitLemmas.{digits_by_example}
use Rattle.digit_names.proofs.laws.digits_by_example.Goals as goal

pub returns : goal.returns
returns c = digits_by_example
