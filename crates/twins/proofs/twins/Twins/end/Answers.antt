use Rattle.std.proofs.Common.{◌-◌, ap, sym, ◌∙◌, subst}
use Rattle.task_core.specs.Board.{Board, Runs, ended}
use Rattle.twins.specs.Tasks.{MayPut, twin_tried}
use Rattle.task_core.proofs.TriedLemmas.{below_from_runs}
use Rattle.twins.proofs.TwinLemmas.{board_of, end_may, inside, read_is}
use Rattle.twins.proofs.twins.Twins.end.Goals as goal

pub put-requires : goal.put-requires
put-requires c =
    let twins = c.self.inside.tasks.items in
    let b = board_of c.self.inside.slots twins in
    let t = c.args.task in
    let runs : Runs b.tasks t c.args.number = subst (λ (k : Board). Runs k.tasks t c.args.number) (sym c.self.view_is) c.requires in
    let read = read_is twins t c.index-twin.result.now (inside twins t (below_from_runs b.tasks t c.args.number runs)) c.index-twin.ensures in
    subst (λ (k : Board). MayPut k.tasks t (twin_tried c.ended.result) (c.self.inside.running - 1)) c.self.view_is
    (end_may b.tasks c.self.inside.running t c.args.number c.args.ok (twin_tried c.ended.result) runs c.self.invariant.numbered c.self.invariant.running_is (c.ended.ensures ∙ ap (ended c.args.number c.args.ok) (sym read)))
