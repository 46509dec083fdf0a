use Rattle.spill.proofs.LawLemmas.{flushes_add_up, paths_add_up}
use Rattle.spill.proofs.laws.flushes_add_up.Goals as goal

pub returns-clause-files : goal.returns-clause-files
returns-clause-files c = flushes_add_up

pub returns-clause-paths : goal.returns-clause-paths
returns-clause-paths c = paths_add_up
