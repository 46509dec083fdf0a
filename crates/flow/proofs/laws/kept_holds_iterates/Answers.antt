use Rattle.flow.proofs.Held.{kept_holds_iterates, kept_holds_result}
use Rattle.flow.proofs.laws.kept_holds_iterates.Goals as goal

pub returns-clause-iterates : goal.returns-clause-iterates
returns-clause-iterates c = kept_holds_iterates

pub returns-clause-result : goal.returns-clause-result
returns-clause-result c = kept_holds_result
