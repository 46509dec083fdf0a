use Rattle.gimv_block.proofs.FirstLemmas.{firsts_by_offsets}
use Rattle.gimv_block.proofs.NewValueLemmas.{new_values_are_made}
use Rattle.gimv_block.proofs.laws.values_are_made.Goals as goal

pub returns-clause-firsts : goal.returns-clause-firsts
returns-clause-firsts g c = firsts_by_offsets

pub returns-clause-new : goal.returns-clause-new
returns-clause-new g c = new_values_are_made
