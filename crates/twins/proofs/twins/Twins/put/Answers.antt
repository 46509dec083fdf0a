use Rattle.std.proofs.Common.{◌≡◌, ◌+◌, ◌∙◌, sym, ap, subst}
use Rattle.task_core.specs.Board.{Board, with_tried}
use Rattle.twins.specs.Tasks.{MayPut, lacks, tasks_of, twin_tried}
use Rattle.twins.proofs.TwinLemmas.{inside, put_twins, read_is, set_is}
use Rattle.twins.proofs.twins.Twins.put.Goals as goal

pub invariant_of-self : goal.invariant_of-self
invariant_of-self c =
    let twins = c.self.inside.tasks.items in
    let t = c.args.task in
    let v = twin_tried c.args.twin in
    let may : MayPut (tasks_of twins) t v c.args.running = subst (λ (b : Board). MayPut b.tasks t v c.args.running) (sym c.self.view_is) c.requires in
    let read = read_is twins t c.index-was.result.now (inside twins t may.below) c.index-was.ensures in
    let lacking = subst (λ x. c.unfinished_after-self-inside.result + lacks x ≡ c.self.inside.unfinished + lacks v) (sym read) c.unfinished_after-self-inside.ensures in
    rw (c.set.ensures, c.set-2.ensures, c.is_idle.ensures, c.is_lone.ensures)
    (put_twins twins c.self.inside.idle c.self.inside.lone c.self.inside.running c.self.inside.unfinished c.args.running c.unfinished_after-self-inside.result c.self.inside.least_dead c.least_dead_after-self-inside.result t c.args.twin c.self.invariant may lacking c.least_dead_after-self-inside.ensures.alive c.least_dead_after-self-inside.ensures.dead)

pub returns : goal.returns
returns c =
    set_is c.self.inside.slots c.self.inside.tasks.items c.args.task c.args.twin ∙ ap (λ (b : Board). with_tried b c.args.task (twin_tried c.args.twin)) c.self.view_is
