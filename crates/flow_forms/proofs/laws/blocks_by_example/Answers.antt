use Rattle.flow_forms.proofs.ExamplesHold.{blocks_by_example, flow_by_example, ranks_by_example}
use Rattle.flow_forms.proofs.laws.blocks_by_example.Goals as goal

pub returns-clause-layouts : goal.returns-clause-layouts
returns-clause-layouts c = blocks_by_example

pub returns-clause-flow : goal.returns-clause-flow
returns-clause-flow c = flow_by_example

pub returns-clause-ranks : goal.returns-clause-ranks
returns-clause-ranks c = ranks_by_example
