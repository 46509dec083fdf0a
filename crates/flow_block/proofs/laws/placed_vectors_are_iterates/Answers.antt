use Rattle.flow_block.proofs.PlacedVectors.{placed_changes_are_changes, placed_vectors_are_iterates}
use Rattle.flow_block.proofs.Placing.{placed_results_are_numbers}
use Rattle.flow_block.proofs.laws.placed_vectors_are_iterates.Goals as goal

pub returns-clause-vectors : goal.returns-clause-vectors
returns-clause-vectors g c = placed_vectors_are_iterates

pub returns-clause-changes : goal.returns-clause-changes
returns-clause-changes g c a n place id places vectors k = placed_changes_are_changes a n place id places vectors k

pub returns-clause-results : goal.returns-clause-results
returns-clause-results g c = placed_results_are_numbers
