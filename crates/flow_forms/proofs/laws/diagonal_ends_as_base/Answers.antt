use Rattle.flow_forms.proofs.DiagonalRuns.{diagonal_ends_as_base, file_diagonal_ends_as_base}
use Rattle.flow_forms.proofs.laws.diagonal_ends_as_base.Goals as goal

pub returns-clause-edges : goal.returns-clause-edges
returns-clause-edges c = diagonal_ends_as_base c.diagonal_vectors_are_labels.ensures.vectors c.diagonal_vectors_are_labels.ensures.fit c.diagonal_ends_at_least.ensures

pub returns-clause-files : goal.returns-clause-files
returns-clause-files c = file_diagonal_ends_as_base c.diagonal_vectors_are_labels.ensures.vectors c.diagonal_vectors_are_labels.ensures.fit c.diagonal_ends_at_least.ensures
