use Rattle.flow_forms.proofs.ExamplesHold.{closed_by_example, diagonal_by_example}
use Rattle.flow_forms.proofs.laws.diagonal_by_example.Goals as goal

pub returns-clause-layouts : goal.returns-clause-layouts
returns-clause-layouts c = closed_by_example

pub returns-clause-flow : goal.returns-clause-flow
returns-clause-flow c = diagonal_by_example c.diagonal_flow.ensures.edges c.diagonal_ends_as_base.ensures.edges
