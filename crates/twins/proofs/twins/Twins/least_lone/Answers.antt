use Rattle.std.proofs.Common.{ℕ, ◌<◌, ◌∙◌, [], ◌∷◌, sym, subst}
use Rattle.task_core.specs.Board.{Board}
use Rattle.task_core.specs.Rules.{below_from_open}
use Rattle.twins.specs.Rules.{IsLone}
use Rattle.twins.specs.Tasks.{tasks_of}
use Rattle.twins.proofs.TwinLemmas.{inside, least_is_lone, none_lone, read_is}
use Rattle.twins.proofs.twins.Twins.least_lone.Goals as goal

pub returns-in_err-task : goal.returns-in_err-task
returns-in_err-task c =
    rw c.from_residual.ensures
    (subst (λ (b : Board). (t a : ℕ) → IsLone b.tasks t a → ⊥) c.self.view_is (none_lone (tasks_of c.self.inside.tasks.items) c.self.inside.lone c.self.invariant.lone_is c.in_err-task.ensures))

pub returns-in_err-number : goal.returns-in_err-number
returns-in_err-number c =
    let twins = c.self.inside.tasks.items in
    let t = c.in_ok-task.task in
    let found = least_is_lone (tasks_of twins) c.self.inside.lone t c.self.invariant.lone_is c.in_ok-task.ensures in
    let here = found.0.1 in
    let read = read_is twins t c.index.result.now (inside twins t (below_from_open (tasks_of twins) t found.0.0 (here.one ∷ []) here.is)) c.index.ensures in
    absurd (c.in_err-number.ensures found.0.0 here.one here.left (sym read ∙ here.is))

pub returns : goal.returns
returns c =
    let twins = c.self.inside.tasks.items in
    let t = c.in_ok-task.task in
    let found = least_is_lone (tasks_of twins) c.self.inside.lone t c.self.invariant.lone_is c.in_ok-task.ensures in
    let here = found.0.1 in
    let read = read_is twins t c.index.result.now (inside twins t (below_from_open (tasks_of twins) t found.0.0 (here.one ∷ []) here.is)) c.index.ensures in
    let lone : IsLone (tasks_of twins) t c.in_ok-number.number = record { one = c.in_ok-number.ensures.0; is = read ∙ c.in_ok-number.ensures.1; left = c.in_ok-number.ensures.2 } in
    subst (λ (b : Board). IsLone b.tasks t c.in_ok-number.number × ((u d : ℕ) → u < t → IsLone b.tasks u d → ⊥)) c.self.view_is (lone, found.1)
