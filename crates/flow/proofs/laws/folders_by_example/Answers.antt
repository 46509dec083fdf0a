use Rattle.flow.proofs.ExamplesHold.{changes_by_example, flow_by_example, layout_by_example}
use Rattle.flow.proofs.laws.folders_by_example.Goals as goal

pub returns-clause-layouts : goal.returns-clause-layouts
returns-clause-layouts c = layout_by_example

pub returns-clause-changes : goal.returns-clause-changes
returns-clause-changes c = changes_by_example

pub returns-clause-flow : goal.returns-clause-flow
returns-clause-flow c = flow_by_example
