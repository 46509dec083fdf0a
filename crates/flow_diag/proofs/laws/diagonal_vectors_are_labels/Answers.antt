use Rattle.flow_diag.proofs.ClosedLabels.{labels_fit, vectors_are_labels}
use Rattle.flow_diag.proofs.laws.diagonal_vectors_are_labels.Goals as goal

pub returns-clause-vectors : goal.returns-clause-vectors
returns-clause-vectors c = vectors_are_labels c.diagonal_vectors_are_closed_iterates.ensures.vectors

pub returns-clause-fit : goal.returns-clause-fit
returns-clause-fit c = labels_fit c.diagonal_vectors_are_closed_iterates.ensures.fit
