use Rattle.std.proofs.Common.{refl, ◌≡◌, ◌<◌, ℕ, [], get_or, Ok, Err, sym, arith}
use Rattle.peg_base.specs.declared.tasks.Phase.TheVariants.{Reduce}
use Rattle.dir_disk.specs.Moments.{Told, Both, files}
use Rattle.committer.specs.Paths.{shuffle_of}
use Rattle.job.specs.Chunks.{chunks_of}
use Rattle.job.specs.Output.{map_outputs, pairs_among, reduce_inputs}
use Rattle.job.specs.Shuffled.{HasJustRuns}
use Rattle.job.specs.Whole.{plan_of}
use Rattle.job.specs.Work.{StandsAround, text_at, work_of}
use Rattle.job.proofs.Logs.{err_is, few_made, goes_on, log_none, log_ran, reduce_log_failed}
use Rattle.job.proofs.OutputLemmas.{length-part_texts}
use Rattle.job.proofs.Reducing.{reduce_texts, reduced, room_for_reduces, shuffled_success}
use Rattle.job.proofs.Stages.{hides_start, hides_then, keeps_around, once, phase_within, writes_outside, writes_rebase}
use Rattle.job.proofs.Zones.{room_is_enough}
use Rattle.job.proofs.run.reduce_stage.Goals as goal

pub run-requires-clause-can : goal.run-requires-clause-can
run-requires-clause-can g c =
    λ tells.
    let spec = c.args.spec.now in
    let d : Told = g.S.Dir.told c.args.site.now in
    let e : Told = g.S.Dir.told c.shuffle_outputs.new.site in
    let plan = plan_of spec (files d) in
    let texts = reduce_inputs g.S.Site.gives plan in
    let w = work_of spec.folder Reduce spec.reduce spec.reducers in
    room_is_enough w refl (files e) (room_for_reduces spec.folder spec.reduce c.args.tasks spec.reducers texts (files e) (c.in_ok-pairs.ensures.shuffled tells) (sym (length-part_texts spec.reducers (map_outputs g.S.Site.gives plan))))

pub returns-in_err-attempts-clause-steps : goal.returns-in_err-attempts-clause-steps
returns-in_err-attempts-clause-steps g c =
    λ tells.
    let spec = c.args.spec.now in
    let d : Told = g.S.Dir.told c.args.site.now in
    let e : Told = g.S.Dir.told c.shuffle_outputs.new.site in
    let plan = plan_of spec (files d) in
    let texts = reduce_inputs g.S.Site.gives plan in
    let w = work_of spec.folder Reduce spec.reduce spec.reducers in
    let h : Told = g.S.Dir.told c.run.new.site in
    writes_rebase spec.folder d e h (c.shuffle_outputs.ensures.steps tells) (writes_outside spec.folder d e (c.shuffle_outputs.ensures.steps tells)) (hides_then spec.folder e e h (hides_start spec.folder e (shuffled_success spec.folder c.args.tasks texts (files e) (c.in_ok-pairs.ensures.shuffled tells))) (phase_within w refl e h (c.run.ensures.keeps tells))).steps

pub returns-clause-steps : goal.returns-clause-steps
returns-clause-steps g c =
    λ tells.
    let spec = c.args.spec.now in
    let d : Told = g.S.Dir.told c.args.site.now in
    let e : Told = g.S.Dir.told c.shuffle_outputs.new.site in
    let plan = plan_of spec (files d) in
    let texts = reduce_inputs g.S.Site.gives plan in
    let w = work_of spec.folder Reduce spec.reduce spec.reducers in
    let h : Told = g.S.Dir.told c.run.new.site in
    writes_rebase spec.folder d e h (c.shuffle_outputs.ensures.steps tells) (writes_outside spec.folder d e (c.shuffle_outputs.ensures.steps tells)) (hides_then spec.folder e e h (hides_start spec.folder e (shuffled_success spec.folder c.args.tasks texts (files e) (c.in_ok-pairs.ensures.shuffled tells))) (phase_within w refl e h (c.run.ensures.keeps tells))).steps

pub returns-clause-reduced : goal.returns-clause-reduced
returns-clause-reduced g c =
    λ tells.
    let spec = c.args.spec.now in
    let d : Told = g.S.Dir.told c.args.site.now in
    let e : Told = g.S.Dir.told c.shuffle_outputs.new.site in
    let plan = plan_of spec (files d) in
    let texts = reduce_inputs g.S.Site.gives plan in
    let w = work_of spec.folder Reduce spec.reduce spec.reducers in
    let h : Told = g.S.Dir.told c.run.new.site in
    reduced spec.folder g.S.Site.gives spec.reduce c.args.tasks spec.reducers texts (files e) (files h) (c.in_ok-pairs.ensures.shuffled tells) (sym (length-part_texts spec.reducers (map_outputs g.S.Site.gives plan))) (keeps_around w e h (c.run.ensures.keeps tells)) (c.in_ok-attempts.ensures.made tells)

pub returns-clause-merged : goal.returns-clause-merged
returns-clause-merged g c =
    λ tells.
    let spec = c.args.spec.now in
    let d : Told = g.S.Dir.told c.args.site.now in
    let e : Told = g.S.Dir.told c.shuffle_outputs.new.site in
    let plan = plan_of spec (files d) in
    let texts = reduce_inputs g.S.Site.gives plan in
    let w = work_of spec.folder Reduce spec.reduce spec.reducers in
    let h : Told = g.S.Dir.told c.run.new.site in
    once (HasJustRuns (shuffle_of spec.folder) spec.reducers (chunks_of spec.spill (pairs_among (map_outputs g.S.Site.gives plan)))) (Both (StandsAround w (files e))) d e h (c.shuffle_outputs.ensures.steps tells).later (c.run.ensures.keeps tells) (c.in_ok-pairs.ensures.runs tells)

pub returns-in_err-pairs-clause-log : goal.returns-in_err-pairs-clause-log
returns-in_err-pairs-clause-log g c =
    let spec = c.args.spec.now in
    let d : Told = g.S.Dir.told c.args.site.now in
    let e : Told = g.S.Dir.told c.shuffle_outputs.new.site in
    let plan = plan_of spec (files d) in
    let texts = reduce_inputs g.S.Site.gives plan in
    let w = work_of spec.folder Reduce spec.reduce spec.reducers in
    let fault = c.in_err-pairs.field-0.0 in
    reduce_log_failed g.P.Phases.may g.S.Dir.tells w spec.slots texts (g.S.Site.seen c.args.site.now) (g.S.Site.seen c.shuffle_outputs.new.site) (g.S.Site.given c.args.site.now) (g.S.Site.given c.shuffle_outputs.new.site) e fault c.from_residual.result (err_is c.from_residual.result fault c.from_residual.ensures.1) (log_none g.P.Phases.may g.S.Dir.tells w spec.slots texts (g.S.Site.seen c.args.site.now) (g.S.Site.seen c.shuffle_outputs.new.site) (g.S.Site.given c.args.site.now) (g.S.Site.given c.shuffle_outputs.new.site) e fault c.shuffle_outputs.ensures.seen c.shuffle_outputs.ensures.given c.in_err-pairs.ensures.no_task)

pub returns-in_err-attempts-clause-log : goal.returns-in_err-attempts-clause-log
returns-in_err-attempts-clause-log g c =
    let spec = c.args.spec.now in
    let d : Told = g.S.Dir.told c.args.site.now in
    let e : Told = g.S.Dir.told c.shuffle_outputs.new.site in
    let plan = plan_of spec (files d) in
    let texts = reduce_inputs g.S.Site.gives plan in
    let w = work_of spec.folder Reduce spec.reduce spec.reducers in
    let h : Told = g.S.Dir.told c.run.new.site in
    let handed : g.S.Dir.tells → (t : ℕ) → t < spec.reducers → text_at w (files e) t ≡ get_or texts t [] = λ tells. reduce_texts spec.folder spec.reduce c.args.tasks spec.reducers texts (files e) (c.in_ok-pairs.ensures.shuffled tells) (sym (length-part_texts spec.reducers (map_outputs g.S.Site.gives plan))) in
    let fault = c.in_err-attempts.field-0.0 in
    reduce_log_failed g.P.Phases.may g.S.Dir.tells w spec.slots texts (g.S.Site.seen c.args.site.now) (g.S.Site.seen c.run.new.site) (g.S.Site.given c.args.site.now) (g.S.Site.given c.run.new.site) h fault c.from_residual-in_err-attempts.result (err_is c.from_residual-in_err-attempts.result fault c.from_residual-in_err-attempts.ensures.1) (log_ran g.P.Phases.may g.met.P.Phases.rule g.S.Dir.tells w spec.slots (text_at w (files e)) texts (g.S.Site.seen c.args.site.now) (g.S.Site.seen c.shuffle_outputs.new.site) (g.S.Site.seen c.run.new.site) (g.S.Site.given c.args.site.now) (g.S.Site.given c.shuffle_outputs.new.site) (g.S.Site.given c.run.new.site) e h (Err fault) c.shuffle_outputs.ensures.seen c.shuffle_outputs.ensures.given (λ tells. goes_on e h (c.run.ensures.keeps tells)) refl handed c.in_err-attempts.ensures.ran c.in_err-attempts.ensures.tells)

pub returns-clause-log : goal.returns-clause-log
returns-clause-log g c =
    let spec = c.args.spec.now in
    let d : Told = g.S.Dir.told c.args.site.now in
    let e : Told = g.S.Dir.told c.shuffle_outputs.new.site in
    let plan = plan_of spec (files d) in
    let texts = reduce_inputs g.S.Site.gives plan in
    let w = work_of spec.folder Reduce spec.reduce spec.reducers in
    let h : Told = g.S.Dir.told c.run.new.site in
    let handed : g.S.Dir.tells → (t : ℕ) → t < spec.reducers → text_at w (files e) t ≡ get_or texts t [] = λ tells. reduce_texts spec.folder spec.reduce c.args.tasks spec.reducers texts (files e) (c.in_ok-pairs.ensures.shuffled tells) (sym (length-part_texts spec.reducers (map_outputs g.S.Site.gives plan))) in
    log_ran g.P.Phases.may g.met.P.Phases.rule g.S.Dir.tells w spec.slots (text_at w (files e)) texts (g.S.Site.seen c.args.site.now) (g.S.Site.seen c.shuffle_outputs.new.site) (g.S.Site.seen c.run.new.site) (g.S.Site.given c.args.site.now) (g.S.Site.given c.shuffle_outputs.new.site) (g.S.Site.given c.run.new.site) e h (Ok c.in_ok-attempts.attempts) c.shuffle_outputs.ensures.seen c.shuffle_outputs.ensures.given (λ tells. goes_on e h (c.run.ensures.keeps tells)) refl handed c.in_ok-attempts.ensures.ran c.in_ok-attempts.ensures.tells

pub returns-clause-few_attempts : goal.returns-clause-few_attempts
returns-clause-few_attempts g c =
    let spec = c.args.spec.now in
    let d : Told = g.S.Dir.told c.args.site.now in
    let e : Told = g.S.Dir.told c.shuffle_outputs.new.site in
    let plan = plan_of spec (files d) in
    let texts = reduce_inputs g.S.Site.gives plan in
    let w = work_of spec.folder Reduce spec.reduce spec.reducers in
    let h : Told = g.S.Dir.told c.run.new.site in
    let few = few_made g.P.Phases.may g.met.P.Phases.rule g.S.Dir.tells w spec.slots (text_at w (files e)) (g.S.Site.seen c.shuffle_outputs.new.site) (g.S.Site.seen c.run.new.site) (g.S.Site.given c.shuffle_outputs.new.site) (g.S.Site.given c.run.new.site) e h c.in_ok-attempts.attempts c.in_ok-attempts.ensures.ran in
    let parts = c.requires.limits.few_reducers in
    omega (arith, few, parts)
