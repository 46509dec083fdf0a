use Rattle.std.proofs.Common.{◌≡◌, ap, sym, ◌∙◌, subst}
use Rattle.task_core.specs.Board.{Board, Open, refused}
use Rattle.twins.specs.Rules.{MayStartTwin}
use Rattle.twins.specs.Tasks.{MayPut, twin_tried}
use Rattle.task_core.proofs.TriedLemmas.{below_from_next}
use Rattle.twins.proofs.TwinLemmas.{board_of, inside, next_twin, none_dead, read_is, refuse_may}
use Rattle.twins.proofs.twins.Twins.start_failed.Goals as goal

pub refused-requires : goal.refused-requires
refused-requires c =
    let twins = c.self.inside.tasks.items in
    let b = board_of c.self.inside.slots twins in
    let a = c.requires.0 in
    let t = c.args.task in
    let may : MayStartTwin b t a = subst (λ (k : Board). MayStartTwin k t a) (sym c.self.view_is) c.requires.1 in
    let next = next_twin b t a may in
    let read = read_is twins t c.index-twin.result.now (inside twins t (below_from_next b.tasks t a next.0)) c.index-twin.ensures in
    (a, next.0.running, sym read ∙ next.0.is, next.0.left)

pub put-requires : goal.put-requires
put-requires c =
    let twins = c.self.inside.tasks.items in
    let b = board_of c.self.inside.slots twins in
    let a = c.requires.0 in
    let t = c.args.task in
    let may : MayStartTwin b t a = subst (λ (k : Board). MayStartTwin k t a) (sym c.self.view_is) c.requires.1 in
    let next = next_twin b t a may in
    let read = read_is twins t c.index-twin.result.now (inside twins t (below_from_next b.tasks t a next.0)) c.index-twin.ensures in
    let is : twin_tried c.index-twin.result.now ≡ Open a next.0.running = sym read ∙ next.0.is in
    let made = c.refused.ensures a next.0.running is ∙ ap (refused a) is in
    subst (λ (k : Board). MayPut k.tasks t (twin_tried c.refused.result) c.self.inside.running) c.self.view_is
    (refuse_may b.tasks c.self.inside.running t a (twin_tried c.refused.result) next.0 c.self.invariant.numbered (none_dead b t a may) c.self.invariant.running_is made)
