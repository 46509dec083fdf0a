use Rattle.hadi.specs.Lawful.{hadi_is_lawful}
use Rattle.hadi.proofs.laws.hadi_keeps_laws.Goals as goal

pub returns : goal.returns
returns c = hadi_is_lawful
