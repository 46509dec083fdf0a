use Rattle.flow.proofs.Base.{base_flow}
use Rattle.flow.proofs.Files.{file_flow}
use Rattle.flow.proofs.laws.base_flow.Goals as goal

pub returns-clause-edges : goal.returns-clause-edges
returns-clause-edges c = base_flow

pub returns-clause-files : goal.returns-clause-files
returns-clause-files c = file_flow
