use Rattle.std.proofs.Common.{inr, ◌∙◌, sym, subst}
use Rattle.task_core.specs.Board.{Board, Runs}
use Rattle.task_core.proofs.Tasks.{below_from_running}
use Rattle.task_core.proofs.Alone.{runs_from, read_is, tries}
use Rattle.task_core.proofs.attempts.Attempts.running_of.Goals as goal

pub returns-clause-last : goal.returns-clause-last
returns-clause-last c =
    let tasks = c.self.inside.tasks.items in
    let t = c.args.task in
    let a = c.requires.0 in
    let runs : Runs (tries tasks) t a = subst (λ (b : Board). Runs b.tasks t a) (sym c.self.view_is) c.requires.1 in
    let is = runs_from tasks t a runs in
    let read = read_is tasks t _ (below_from_running tasks t a is) c.index.ensures in
    (c.self.invariant.numbered t c.in-Running.number (inr (sym read ∙ c.in-Running.is))).1
