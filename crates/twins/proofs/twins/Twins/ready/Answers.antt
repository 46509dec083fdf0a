use Rattle.std.proofs.Common.{◌<◌, sym, ◌∙◌, subst, arith}
use Rattle.task_core.specs.Board.{Board, IsLeastDead, NoneDead, running_of}
use Rattle.twins.proofs.TwinLemmas.{doomed_none, first_or_second}
use Rattle.twins.proofs.twins.Twins.ready.Goals as goal

pub returns : goal.returns
returns c =
    let now : Board = c.args.self.now in
    let slot : running_of now.tasks < now.slots = subst (λ (b : Board). running_of b.tasks < b.slots) c.self.view_is (omega (arith, c.if-self.false, c.self.invariant.running_is)) in
    let alive = doomed_none c.doomed.result (NoneDead now.tasks) (λ t. IsLeastDead now.tasks t) (sym c.is_some.ensures ∙ c.if-is_some.false) c.doomed.ensures in
    rw c.or.ensures (first_or_second c.least_idle-idle.result c.least_lone-lone.result now slot alive c.least_idle-idle.ensures c.least_lone-lone.ensures)
