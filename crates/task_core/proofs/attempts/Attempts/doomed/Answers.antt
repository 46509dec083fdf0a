use Rattle.std.proofs.Common.{MatchOption, subst}
use Rattle.task_core.specs.Board.{Board, IsLeastDead, NoneDead}
use Rattle.task_core.proofs.Alone.{doomed_same}
use Rattle.task_core.proofs.attempts.Attempts.doomed.Goals as goal

pub returns : goal.returns
returns c =
    subst (λ (b : Board). MatchOption c.self.inside.least_dead (NoneDead b.tasks) (λ t. IsLeastDead b.tasks t)) c.self.view_is (doomed_same c.self.inside.least_dead c.self.inside.tasks.items c.self.invariant.numbered c.self.invariant.least_dead_is)
