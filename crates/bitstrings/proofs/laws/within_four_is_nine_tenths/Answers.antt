use Rattle.bitstrings.proofs.RadiusLemmas.{within_four}
use Rattle.bitstrings.proofs.laws.within_four_is_nine_tenths.Goals as goal

pub returns-clause-test : goal.returns-clause-test
returns-clause-test c = within_four
