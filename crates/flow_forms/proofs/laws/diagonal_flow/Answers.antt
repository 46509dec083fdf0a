use Rattle.flow_forms.proofs.DiagonalRuns.{diagonal_flow, file_diagonal_flow}
use Rattle.flow_forms.proofs.laws.diagonal_flow.Goals as goal

pub returns-clause-edges : goal.returns-clause-edges
returns-clause-edges c = diagonal_flow c.diagonal_vectors_are_labels.ensures.vectors c.diagonal_vectors_are_labels.ensures.fit

pub returns-clause-files : goal.returns-clause-files
returns-clause-files c = file_diagonal_flow c.diagonal_vectors_are_labels.ensures.vectors c.diagonal_vectors_are_labels.ensures.fit
