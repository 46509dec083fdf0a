use Rattle.std.proofs.Common.{◌≡◌, ℕ, ◌<◌, List, [], length, get_or, Ok, Err, refl, sym, subst, arith, ◌∙◌}
use Rattle.peg_base.specs.Names.{Names}
use Rattle.peg_base.specs.declared.tasks.Phase.TheVariants.{Map}
use Rattle.dir_disk.specs.Moments.{Told, files}
use Rattle.job.specs.Faults.{job_fault}
use Rattle.job.specs.StageFaults.{of_split}
use Rattle.job.specs.Inputs.{AreOutside, HasInputs}
use Rattle.job.specs.Output.{map_inputs}
use Rattle.job.specs.Whole.{plan_of, HasRoomFor}
use Rattle.job.specs.Work.{text_at, work_of}
use Rattle.job.proofs.Logs.{err_is, few_made, goes_on, log_ran, map_log_failed, map_log_none, of_committer, of_splits}
use Rattle.job.proofs.Stages.{Hides, hides_then, inputs_within, keeps_around, mapped, opened, phase_within, room_for_maps, room_opened, texts_handed, written_texts, counted_texts}
use Rattle.job.proofs.Zones.{room_is_enough}
use Rattle.job.proofs.run.map_stage.Goals as goal
use Rattle.committer.proofs.SealingLemmas.{opened_writes}

pub returns-in_err-open_folder-clause-steps : goal.returns-in_err-open_folder-clause-steps
returns-in_err-open_folder-clause-steps g c =
    λ tells.
    opened_writes c.args.spec.now.folder (g.S.Dir.told c.args.site.now) (g.S.Dir.told c.open_folder.new.dir) (c.open_folder.ensures.steps tells)

pub returns-in_err-open_folder-clause-log : goal.returns-in_err-open_folder-clause-log
returns-in_err-open_folder-clause-log g c =
    let same = g.met.S.Site.beside_dir c.open_folder.new.dir c.args.site.now c.open_folder.ensures.beside in
    let fault = job_fault c.in_err-open_folder.field-0.0 in
    map_log_none g.P.Phases.may g.S.Dir.tells c.args.spec.now.folder (plan_of c.args.spec.now (files (g.S.Dir.told c.args.site.now))) c.args.spec.now.slots (g.S.Site.seen c.args.site.now) (g.S.Site.seen c.open_folder.new.dir) (g.S.Site.given c.args.site.now) (g.S.Site.given c.open_folder.new.dir) (g.S.Dir.told c.open_folder.new.dir) fault c.from_residual.result (err_is c.from_residual.result fault c.from_residual.ensures.1) (of_committer c.in_err-open_folder.field-0.0) same.0 same.1

pub write_inputs-requires-clause-outside : goal.write_inputs-requires-clause-outside
write_inputs-requires-clause-outside g c =
    λ tells.
    let spec = c.args.spec.now in
    let d : Told = g.S.Dir.told c.args.site.now in
    let e : Told = g.S.Dir.told c.open_folder.new.dir in
    let first = opened spec d e (c.requires.can tells) (c.open_folder.ensures.steps tells) (c.in_ok-open_folder.ensures.empty tells) in
    subst (λ (paths : List Names). AreOutside spec.folder paths (files e)) (sym c.deref.ensures.value) first.1.inputs

pub write_inputs-requires-clause-room : goal.write_inputs-requires-clause-room
write_inputs-requires-clause-room g c =
    λ tells.
    let spec = c.args.spec.now in
    let d : Told = g.S.Dir.told c.args.site.now in
    let e : Told = g.S.Dir.told c.open_folder.new.dir in
    let first = opened spec d e (c.requires.can tells) (c.open_folder.ensures.steps tells) (c.in_ok-open_folder.ensures.empty tells) in
    room_opened spec (files d) (files e) first.1

pub returns-in_err-tasks-clause-steps : goal.returns-in_err-tasks-clause-steps
returns-in_err-tasks-clause-steps g c =
    λ tells.
    let spec = c.args.spec.now in
    let d : Told = g.S.Dir.told c.args.site.now in
    let e : Told = g.S.Dir.told c.open_folder.new.dir in
    let f : Told = g.S.Dir.told c.write_inputs.new.dir in
    let first = opened spec d e (c.requires.can tells) (c.open_folder.ensures.steps tells) (c.in_ok-open_folder.ensures.empty tells) in
    let second : Hides spec.folder d f = hides_then spec.folder d e f first.0 (inputs_within spec.folder 524288 e f (c.write_inputs.ensures.stands tells)) in
    second.steps

pub returns-in_err-tasks-clause-log : goal.returns-in_err-tasks-clause-log
returns-in_err-tasks-clause-log g c =
    let same = g.met.S.Site.beside_dir c.open_folder.new.dir c.args.site.now c.open_folder.ensures.beside in
    let then_same = g.met.S.Site.beside_dir c.write_inputs.new.dir c.open_folder.new.dir c.write_inputs.ensures.beside in
    let fault = of_split c.in_err-tasks.field-0.0 in
    map_log_none g.P.Phases.may g.S.Dir.tells c.args.spec.now.folder (plan_of c.args.spec.now (files (g.S.Dir.told c.args.site.now))) c.args.spec.now.slots (g.S.Site.seen c.args.site.now) (g.S.Site.seen c.write_inputs.new.dir) (g.S.Site.given c.args.site.now) (g.S.Site.given c.write_inputs.new.dir) (g.S.Dir.told c.write_inputs.new.dir) fault c.from_residual-in_err-tasks.result (err_is c.from_residual-in_err-tasks.result fault c.from_residual-in_err-tasks.ensures.1) (of_splits c.in_err-tasks.field-0.0) (then_same.0 ∙ same.0) (λ tells. then_same.1 tells ∙ same.1 tells)

pub run-requires-clause-can : goal.run-requires-clause-can
run-requires-clause-can g c =
    λ tells.
    let spec = c.args.spec.now in
    let d : Told = g.S.Dir.told c.args.site.now in
    let e : Told = g.S.Dir.told c.open_folder.new.dir in
    let f : Told = g.S.Dir.told c.write_inputs.new.dir in
    let first = opened spec d e (c.requires.can tells) (c.open_folder.ensures.steps tells) (c.in_ok-open_folder.ensures.empty tells) in
    let plan = plan_of spec (files d) in
    let written : HasInputs spec.folder Map 0 (map_inputs plan) (files e) (files f) = written_texts spec c.deref.result.now (files d) (files e) (files f) c.deref.ensures.value first.1 (c.in_ok-tasks.ensures.written tells) in
    let counted : c.in_ok-tasks.tasks ≡ length (map_inputs plan) = counted_texts spec c.deref.result.now (files d) (files e) c.in_ok-tasks.tasks c.deref.ensures.value first.1 (c.in_ok-tasks.ensures.count tells) in
    let room : HasRoomFor (work_of spec.folder Map spec.map c.in_ok-tasks.tasks) (files f) = room_for_maps spec spec.map c.in_ok-tasks.tasks (map_inputs plan) (files d) (files e) (files f) first.1 written counted in
    room_is_enough (work_of spec.folder Map spec.map c.in_ok-tasks.tasks) refl (files f) room

pub returns-in_err-attempts-clause-steps : goal.returns-in_err-attempts-clause-steps
returns-in_err-attempts-clause-steps g c =
    λ tells.
    let spec = c.args.spec.now in
    let d : Told = g.S.Dir.told c.args.site.now in
    let e : Told = g.S.Dir.told c.open_folder.new.dir in
    let f : Told = g.S.Dir.told c.write_inputs.new.dir in
    let h : Told = g.S.Dir.told c.run.new.site in
    let w = work_of spec.folder Map spec.map c.in_ok-tasks.tasks in
    let first = opened spec d e (c.requires.can tells) (c.open_folder.ensures.steps tells) (c.in_ok-open_folder.ensures.empty tells) in
    let second : Hides spec.folder d f = hides_then spec.folder d e f first.0 (inputs_within spec.folder 524288 e f (c.write_inputs.ensures.stands tells)) in
    (hides_then spec.folder d f h second (phase_within w refl f h (c.run.ensures.keeps tells))).steps

pub returns-clause-steps : goal.returns-clause-steps
returns-clause-steps g c =
    λ tells.
    let spec = c.args.spec.now in
    let d : Told = g.S.Dir.told c.args.site.now in
    let e : Told = g.S.Dir.told c.open_folder.new.dir in
    let f : Told = g.S.Dir.told c.write_inputs.new.dir in
    let h : Told = g.S.Dir.told c.run.new.site in
    let w = work_of spec.folder Map spec.map c.in_ok-tasks.tasks in
    let first = opened spec d e (c.requires.can tells) (c.open_folder.ensures.steps tells) (c.in_ok-open_folder.ensures.empty tells) in
    let second : Hides spec.folder d f = hides_then spec.folder d e f first.0 (inputs_within spec.folder 524288 e f (c.write_inputs.ensures.stands tells)) in
    (hides_then spec.folder d f h second (phase_within w refl f h (c.run.ensures.keeps tells))).steps

pub returns-in_err-attempts-clause-log : goal.returns-in_err-attempts-clause-log
returns-in_err-attempts-clause-log g c =
    let same = g.met.S.Site.beside_dir c.open_folder.new.dir c.args.site.now c.open_folder.ensures.beside in
    let then_same = g.met.S.Site.beside_dir c.write_inputs.new.dir c.open_folder.new.dir c.write_inputs.ensures.beside in
    let spec = c.args.spec.now in
    let d : Told = g.S.Dir.told c.args.site.now in
    let e : Told = g.S.Dir.told c.open_folder.new.dir in
    let f : Told = g.S.Dir.told c.write_inputs.new.dir in
    let h : Told = g.S.Dir.told c.run.new.site in
    let w = work_of spec.folder Map spec.map c.in_ok-tasks.tasks in
    let plan = plan_of spec (files d) in
    let handed : g.S.Dir.tells → (t : ℕ) → t < c.in_ok-tasks.tasks → text_at w (files f) t ≡ get_or (map_inputs plan) t [] = λ tells. let first = opened spec d e (c.requires.can tells) (c.open_folder.ensures.steps tells) (c.in_ok-open_folder.ensures.empty tells) in let written : HasInputs spec.folder Map 0 (map_inputs plan) (files e) (files f) = written_texts spec c.deref.result.now (files d) (files e) (files f) c.deref.ensures.value first.1 (c.in_ok-tasks.ensures.written tells) in let counted : c.in_ok-tasks.tasks ≡ length (map_inputs plan) = counted_texts spec c.deref.result.now (files d) (files e) c.in_ok-tasks.tasks c.deref.ensures.value first.1 (c.in_ok-tasks.ensures.count tells) in texts_handed spec.folder spec.map c.in_ok-tasks.tasks (map_inputs plan) (files e) (files f) written counted in
    let number : g.S.Dir.tells → c.in_ok-tasks.tasks ≡ length (map_inputs plan) = λ tells. let first = opened spec d e (c.requires.can tells) (c.open_folder.ensures.steps tells) (c.in_ok-open_folder.ensures.empty tells) in counted_texts spec c.deref.result.now (files d) (files e) c.in_ok-tasks.tasks c.deref.ensures.value first.1 (c.in_ok-tasks.ensures.count tells) in
    let fault = c.in_err-attempts.field-0.0 in
    map_log_failed g.P.Phases.may g.S.Dir.tells spec.folder plan spec.slots c.in_ok-tasks.tasks (g.S.Site.seen c.args.site.now) (g.S.Site.seen c.run.new.site) (g.S.Site.given c.args.site.now) (g.S.Site.given c.run.new.site) h fault c.from_residual-in_err-attempts.result (err_is c.from_residual-in_err-attempts.result fault c.from_residual-in_err-attempts.ensures.1) number (log_ran g.P.Phases.may g.met.P.Phases.rule g.S.Dir.tells w spec.slots (text_at w (files f)) (map_inputs plan) (g.S.Site.seen c.args.site.now) (g.S.Site.seen c.write_inputs.new.dir) (g.S.Site.seen c.run.new.site) (g.S.Site.given c.args.site.now) (g.S.Site.given c.write_inputs.new.dir) (g.S.Site.given c.run.new.site) f h (Err fault) (then_same.0 ∙ same.0) (λ tells. then_same.1 tells ∙ same.1 tells) (λ tells. goes_on f h (c.run.ensures.keeps tells)) refl handed c.in_err-attempts.ensures.ran c.in_err-attempts.ensures.tells)

pub returns-clause-log : goal.returns-clause-log
returns-clause-log g c =
    let same = g.met.S.Site.beside_dir c.open_folder.new.dir c.args.site.now c.open_folder.ensures.beside in
    let then_same = g.met.S.Site.beside_dir c.write_inputs.new.dir c.open_folder.new.dir c.write_inputs.ensures.beside in
    let spec = c.args.spec.now in
    let d : Told = g.S.Dir.told c.args.site.now in
    let e : Told = g.S.Dir.told c.open_folder.new.dir in
    let f : Told = g.S.Dir.told c.write_inputs.new.dir in
    let h : Told = g.S.Dir.told c.run.new.site in
    let w = work_of spec.folder Map spec.map c.in_ok-tasks.tasks in
    let plan = plan_of spec (files d) in
    let handed : g.S.Dir.tells → (t : ℕ) → t < c.in_ok-tasks.tasks → text_at w (files f) t ≡ get_or (map_inputs plan) t [] = λ tells. let first = opened spec d e (c.requires.can tells) (c.open_folder.ensures.steps tells) (c.in_ok-open_folder.ensures.empty tells) in let written : HasInputs spec.folder Map 0 (map_inputs plan) (files e) (files f) = written_texts spec c.deref.result.now (files d) (files e) (files f) c.deref.ensures.value first.1 (c.in_ok-tasks.ensures.written tells) in let counted : c.in_ok-tasks.tasks ≡ length (map_inputs plan) = counted_texts spec c.deref.result.now (files d) (files e) c.in_ok-tasks.tasks c.deref.ensures.value first.1 (c.in_ok-tasks.ensures.count tells) in texts_handed spec.folder spec.map c.in_ok-tasks.tasks (map_inputs plan) (files e) (files f) written counted in
    let number : g.S.Dir.tells → c.in_ok-tasks.tasks ≡ length (map_inputs plan) = λ tells. let first = opened spec d e (c.requires.can tells) (c.open_folder.ensures.steps tells) (c.in_ok-open_folder.ensures.empty tells) in counted_texts spec c.deref.result.now (files d) (files e) c.in_ok-tasks.tasks c.deref.ensures.value first.1 (c.in_ok-tasks.ensures.count tells) in
    record {
      count = c.in_ok-tasks.tasks;
      counted = number;
      tasks = refl;
      phase = log_ran g.P.Phases.may g.met.P.Phases.rule g.S.Dir.tells w spec.slots (text_at w (files f)) (map_inputs plan) (g.S.Site.seen c.args.site.now) (g.S.Site.seen c.write_inputs.new.dir) (g.S.Site.seen c.run.new.site) (g.S.Site.given c.args.site.now) (g.S.Site.given c.write_inputs.new.dir) (g.S.Site.given c.run.new.site) f h (Ok c.in_ok-attempts.attempts) (then_same.0 ∙ same.0) (λ tells. then_same.1 tells ∙ same.1 tells) (λ tells. goes_on f h (c.run.ensures.keeps tells)) refl handed c.in_ok-attempts.ensures.ran c.in_ok-attempts.ensures.tells;
    }

pub returns-clause-few_attempts : goal.returns-clause-few_attempts
returns-clause-few_attempts g c =
    let spec = c.args.spec.now in
    let d : Told = g.S.Dir.told c.args.site.now in
    let e : Told = g.S.Dir.told c.open_folder.new.dir in
    let f : Told = g.S.Dir.told c.write_inputs.new.dir in
    let h : Told = g.S.Dir.told c.run.new.site in
    let w = work_of spec.folder Map spec.map c.in_ok-tasks.tasks in
    let few = few_made g.P.Phases.may g.met.P.Phases.rule g.S.Dir.tells w spec.slots (text_at w (files f)) (g.S.Site.seen c.write_inputs.new.dir) (g.S.Site.seen c.run.new.site) (g.S.Site.given c.write_inputs.new.dir) (g.S.Site.given c.run.new.site) f h c.in_ok-attempts.attempts c.in_ok-attempts.ensures.ran in
    let tasks = c.in_ok-tasks.ensures.few in
    omega (arith, few, tasks)

pub returns-clause-mapped : goal.returns-clause-mapped
returns-clause-mapped g c =
    λ tells.
    let spec = c.args.spec.now in
    let d : Told = g.S.Dir.told c.args.site.now in
    let e : Told = g.S.Dir.told c.open_folder.new.dir in
    let f : Told = g.S.Dir.told c.write_inputs.new.dir in
    let h : Told = g.S.Dir.told c.run.new.site in
    let w = work_of spec.folder Map spec.map c.in_ok-tasks.tasks in
    let first = opened spec d e (c.requires.can tells) (c.open_folder.ensures.steps tells) (c.in_ok-open_folder.ensures.empty tells) in
    let plan = plan_of spec (files d) in
    let written : HasInputs spec.folder Map 0 (map_inputs plan) (files e) (files f) = written_texts spec c.deref.result.now (files d) (files e) (files f) c.deref.ensures.value first.1 (c.in_ok-tasks.ensures.written tells) in
    let counted : c.in_ok-tasks.tasks ≡ length (map_inputs plan) = counted_texts spec c.deref.result.now (files d) (files e) c.in_ok-tasks.tasks c.deref.ensures.value first.1 (c.in_ok-tasks.ensures.count tells) in
    mapped spec g.S.Site.gives spec.map c.in_ok-tasks.tasks (map_inputs plan) (files d) (files e) (files f) (files h) first.1 written counted (keeps_around w f h (c.run.ensures.keeps tells)) (c.in_ok-attempts.ensures.made tells)
