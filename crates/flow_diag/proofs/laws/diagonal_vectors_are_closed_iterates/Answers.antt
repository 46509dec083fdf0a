use Rattle.flow_diag.proofs.DiagonalChain.{iterates_fit, layouts_are}
use Rattle.flow_diag.proofs.laws.diagonal_vectors_are_closed_iterates.Goals as goal

pub returns-clause-vectors : goal.returns-clause-vectors
returns-clause-vectors g c gives a as_msg laws closing len n is_length few words follows cut is_cut number entries blocks has folder are =
    layouts_are gives a as_msg laws closing c.list_rounds_are_rounds.ensures c.sent_closed_is_step.ensures len n is_length.some is_length.few few words follows cut is_cut.some_bytes is_cut.some_reducers number entries blocks has folder are

pub returns-clause-fit : goal.returns-clause-fit
returns-clause-fit g c a laws len n few entries fits = iterates_fit a laws len n few entries fits
