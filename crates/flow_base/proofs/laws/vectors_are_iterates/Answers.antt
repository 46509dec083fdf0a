use Rattle.std.proofs.Common.{refl}
use Rattle.flow_base.proofs.Chain.{layouts_are, results_are}
use Rattle.flow_base.specs.Layouts.{sequence, layout}
use Rattle.graph.specs.Steps.{iterate}
use Rattle.flow_base.proofs.laws.vectors_are_iterates.Goals as goal

pub returns-clause-vectors : goal.returns-clause-vectors
returns-clause-vectors g c gives a laws n few words follows cut is_cut number entries matrix has folder made =
    layouts_are gives a laws n few words follows cut is_cut.some_bytes is_cut.some_reducers number entries has.good matrix has.holds folder made.begins made.goes_on

pub returns-clause-results : goal.returns-clause-results
returns-clause-results g c gives a laws n few words follows cut is_cut number entries matrix has k =
    results_are gives a laws n few words follows cut is_cut.some_bytes is_cut.some_reducers number entries has.good matrix has.holds k (layout (sequence a (iterate a.algorithm entries)) n cut.reducers k) refl
