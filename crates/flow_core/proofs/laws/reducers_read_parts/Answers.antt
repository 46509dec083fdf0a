use Rattle.flow_core.proofs.Jobs.{reducers_read_parts}
use Rattle.flow_core.proofs.laws.reducers_read_parts.Goals as goal

pub returns : goal.returns
returns c = reducers_read_parts
