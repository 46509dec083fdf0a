use Rattle.flow_forms.proofs.DiagonalRuns.{diagonal_keeps_labels}
use Rattle.flow_forms.proofs.laws.diagonal_keeps_labels.Goals as goal

pub returns : goal.returns
returns c = diagonal_keeps_labels c.diagonal_vectors_are_labels.ensures.vectors c.diagonal_vectors_are_labels.ensures.fit c.diagonal_ends_at_least.ensures
