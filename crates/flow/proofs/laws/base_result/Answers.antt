use Rattle.flow.proofs.Ends.{base_result}
use Rattle.flow.proofs.Files.{file_result}
use Rattle.flow.proofs.laws.base_result.Goals as goal

pub returns-clause-edges : goal.returns-clause-edges
returns-clause-edges c = base_result

pub returns-clause-files : goal.returns-clause-files
returns-clause-files c = file_result
