use Rattle.std.proofs.Common.{sym, ◌∙◌, ap, arith, option_map, Some, None}
use Rattle.dir_disk.specs.State.{Held}
use Rattle.dir_mem.proofs.LogLemmas.{looked}
use Rattle.dir_mem.proofs.log.content_at.Goals as goal

pub returns-in-None : goal.returns-in-None
returns-in-None c =
    let e = looked (λ (h : Held). h.now) c.args.steps.now c.loop-place.place c.index-steps-place.result c.changes.result.now (Some c.in-Some.change.now) c.args.path.now c.loop-place-test.true (c.loop-place.invariant.0, ap (λ (h : Held). h.now) c.loop-place.invariant.1) c.index-steps-place.is c.changes.ensures c.in-Some.ensures in
    sym (e ∙ ap (option_map (λ bytes. bytes.items)) c.in-None.is)

pub returns-in-Some-now : goal.returns-in-Some-now
returns-in-Some-now c =
    let e = looked (λ (h : Held). h.now) c.args.steps.now c.loop-place.place c.index-steps-place.result c.changes.result.now (Some c.in-Some.change.now) c.args.path.now c.loop-place-test.true (c.loop-place.invariant.0, ap (λ (h : Held). h.now) c.loop-place.invariant.1) c.index-steps-place.is c.changes.ensures c.in-Some.ensures in
    sym (e ∙ ap (option_map (λ bytes. bytes.items)) c.in-Some-now.is ∙ ap Some (sym c.as_slice.ensures.value))

pub loop-place-preserved : goal.loop-place-preserved
loop-place-preserved c = (
  omega arith,
  looked (λ (h : Held). h) c.args.steps.now c.loop-place.place c.index-steps-place.result c.changes.result.now None c.args.path.now c.loop-place-test.true c.loop-place.invariant c.index-steps-place.is c.changes.ensures c.in_default.ensures,
)
