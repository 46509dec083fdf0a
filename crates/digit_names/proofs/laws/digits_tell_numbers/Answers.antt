use Rattle.digit_names.proofs.DigitLemmas.{digits_tell_numbers}
use Rattle.digit_names.proofs.laws.digits_tell_numbers.Goals as goal

pub returns : goal.returns
returns c = digits_tell_numbers
