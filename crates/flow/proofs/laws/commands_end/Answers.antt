use Rattle.flow.proofs.Ends.{components_end, ranks_end}
use Rattle.flow.proofs.Radii.{radii_end}
use Rattle.flow.proofs.laws.commands_end.Goals as goal

pub returns-clause-components : goal.returns-clause-components
returns-clause-components c = components_end

pub returns-clause-ranks : goal.returns-clause-ranks
returns-clause-ranks c = ranks_end

pub returns-clause-radii : goal.returns-clause-radii
returns-clause-radii c = radii_end
