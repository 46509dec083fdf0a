use Rattle.digit_names.proofs.DigitLemmas.{length-digits}
use Rattle.digit_names.proofs.laws.digits_have_their_width.Goals as goal

pub returns : goal.returns
returns c = length-digits
