use Rattle.std.proofs.Common.{sym, subst, ◌∙◌, eqb-true}
use Rattle.std.proofs.lemmas.Bool.{eq-eqb}
use Rattle.task_core.specs.Board.{Board, AllDone}
use Rattle.twins.specs.Tasks.{tasks_of}
use Rattle.twins.proofs.TwinLemmas.{all_done_from_none, none_from_all_done}
use Rattle.twins.proofs.twins.Twins.all_done.Goals as goal

pub returns : goal.returns
returns c =
    let tasks = tasks_of c.self.inside.tasks.items in
    let unfinished = c.self.invariant.unfinished_is in (
      λ none. subst (λ (b : Board). AllDone b.tasks) c.self.view_is (all_done_from_none tasks (sym unfinished ∙ eqb-true _ 0 none)),
      λ all. eq-eqb _ 0 (unfinished ∙ none_from_all_done tasks (subst (λ (b : Board). AllDone b.tasks) (sym c.self.view_is) all)),
    )
