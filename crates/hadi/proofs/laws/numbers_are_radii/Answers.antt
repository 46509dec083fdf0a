use Rattle.hadi.proofs.RadiusLemmas.{numbers_are_radii}
use Rattle.hadi.proofs.laws.numbers_are_radii.Goals as goal

pub returns : goal.returns
returns c = numbers_are_radii
