use Rattle.flow.proofs.Held.{console_is_of_iterates}
use Rattle.flow.proofs.laws.console_is_of_iterates.Goals as goal

pub returns : goal.returns
returns c = console_is_of_iterates
