use Rattle.flow_core.proofs.Folders.{holds_parts, parts_in_any_order}
use Rattle.flow_core.proofs.laws.parts_hold.Goals as goal

pub returns-clause-pairs : goal.returns-clause-pairs
returns-clause-pairs c = holds_parts

pub returns-clause-any_order : goal.returns-clause-any_order
returns-clause-any_order c = parts_in_any_order
