use Rattle.flow.proofs.Files.{file_edges_are_countable}
use Rattle.flow.proofs.laws.file_edges_are_countable.Goals as goal

pub returns : goal.returns
returns c = file_edges_are_countable
